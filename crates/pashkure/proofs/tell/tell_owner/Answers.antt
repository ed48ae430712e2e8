use Rattle.std.proofs.Common.{◌≡◌, ◌↔◌, ◌∙◌, ℕ, List, Option, Some, None, inl, inr, refl, sym}
use Rattle.mm_arena.specs.declared.key.Key.{Key}
use Rattle.mm_manager.specs.LockState.{LockState, Owns}
use Rattle.pashkure.proofs.tell.tell_owner.Goals as goal

nobody : (o : Option Key) (m : LockState) (name : List ℕ) → o ≡ None → ((k : Key) → (o ≡ Some k) ↔ Owns m k name) → (k : Key) → ¬ Owns m k name
nobody o m name none owner k owns = (let never : None ≡ Some k = sym none ∙ (owner k).1 owns in absurd (cc))

pub returns-in-Some : goal.returns-in-Some
returns-in-Some c =
    let key = c.in-Some.key in
    inl (key, (c.owner.ensures key).0 c.in-Some.is, refl, c.of.ensures)

pub returns-in-None : goal.returns-in-None
returns-in-None c = inr (nobody c.owner.result c.args.manager.now c.args.name.now c.in-None.is c.owner.ensures, refl, refl)
