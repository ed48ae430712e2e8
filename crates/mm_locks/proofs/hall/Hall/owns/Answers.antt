use Rattle.std.proofs.Common.{sym, ◌∙◌, subst}
use Rattle.std.proofs.lemmas.Option.{same_Some}
use Rattle.mm_arena.specs.declared.key.Key.{Key}
use Rattle.mm_manager.specs.LockState.{LockState, Owns}
use Rattle.mm_locks.proofs.hall.Hall.owns.Goals as goal

pub returns-in-Some : goal.returns-in-Some
returns-in-Some c =
    let at = sym c.key_of.ensures ∙ c.in-Some.is in
    let name = c.args.name.now in (
      λ is. (c.in-Some.key, at, subst (λ (m : LockState). Owns m c.in-Some.key name) c.manager.ensures (c.owns.ensures.0 is)),
      λ owns. c.owns.ensures.1 (subst (λ (m : LockState). Owns m c.in-Some.key name) (sym c.manager.ensures)
          (subst (λ (k : Key). Owns c.args.self.now.desk.manager k name) (same_Some owns.0 c.in-Some.key (sym owns.1 ∙ at)) owns.2)),
    )

pub returns-in-None : goal.returns-in-None
returns-in-None c = (λ is. absurd (cc is), λ owns. absurd (cc (sym c.key_of.ensures ∙ c.in-None.is, owns.1)))
