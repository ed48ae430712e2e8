use Rattle.std.proofs.Common.{Result, sym, subst, ◌∙◌, inr}
use Rattle.mm_manager.specs.LockState.{LockState}
use Rattle.mm_manager.specs.declared.refusal.Refusal.{Refusal}
use Rattle.mm_manager.specs.Calls.{UnlocksName}
use Rattle.mm_desk.proofs.desk.Desk.unlock.Goals as goal

pub returns-in-Err : goal.returns-in-Err
returns-in-Err c = inr (
  c.in-Some.key,
  sym c.key_of.ensures ∙ c.in-Some.is,
  subst (λ (x : LockState × Result (Unit {0}) Refusal). UnlocksName x.0 c.in-Some.key c.args.name.now x.1 c.hand_over.new.self.manager) (λ i. (c.has_lent.ensures.keeps.manager i, c.in-Err.is i)) c.hand_over.ensures.unlocks,
  c.hand_over.ensures.rest.1 ∙ c.has_lent.ensures.keeps.keys,
)
