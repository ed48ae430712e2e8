use Rattle.std.proofs.Common.{Ok, sym, subst, ◌∙◌}
use Rattle.mm_manager.specs.LockState.{LockState}
use Rattle.mm_manager.specs.Calls.{Aborts}
use Rattle.mm_desk.proofs.desk.Desk.abort.Goals as goal

pub returns-in-Ok-clause-aborts : goal.returns-in-Ok-clause-aborts
returns-in-Ok-clause-aborts c =
    let before = c.has_loans.ensures.keeps.manager in
    let after = sym c.free_empty.ensures.keeps.manager in (
      c.in-Some.key,
      sym c.key_of.ensures ∙ c.in-Some.is,
      subst (λ (x : LockState × LockState). Aborts x.0 c.in-Some.key (Ok tt) x.1) (λ i. (before i, after i)) c.in-Ok.ensures.aborts,
      c.free_empty.ensures.keeps.keys ∙ c.roll_back.ensures.rest.1 ∙ c.has_loans.ensures.keeps.keys,
    )
