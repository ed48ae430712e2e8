-- What a call that grants nothing tells.
use Rattle.std.proofs.Common.{◌≡◌, ◌≤◌, ◌<◌, ℕ, Bool, true, false, [], List, refl, if◌then◌else◌, inl, inr, sym, ap, subst, ◌∙◌, arith}
use Rattle.std.proofs.lemmas.Bool.{ne_eqb}
use Rattle.mm_rules.specs.TableState.{TableState}
use Rattle.mm_settled.specs.Grants.{grants}
use Rattle.mm_settled.specs.declared.reply.Grant.{Grant}
use Rattle.mm_settled.specs.private.Told.{GrantsNothing, is_told}

either_empty : (told : Bool) (granted : List Grant) → granted ≡ [] → (if told then granted else []) ≡ []
either_empty true granted empty = empty
either_empty false granted empty = refl

pub told_before : (at : ℕ) (s t : TableState) → at ≤ s.totals.accepted → s.totals.accepted < t.totals.accepted → is_told at t ≡ false
told_before at s t before counted = ne_eqb at t.totals.accepted (λ same. omega (arith, before, counted, same))

-- the list is empty, or it was filled before the last event
pub tells_nothing : (at : ℕ) (old new : TableState) (granted : List Grant) → at ≤ old.totals.accepted → GrantsNothing old new granted → (if is_told at new then granted else []) ≡ grants old new
tells_nothing at old new granted before nothing = elim nothing.silent [
  | inl counted ↦ ap (λ b. if b then granted else []) (told_before at old new before counted) ∙ sym nothing.none
  | inr same ↦ either_empty (is_told at new) granted same.1 ∙ sym nothing.none
]

pub stamped_before : (at : ℕ) (old new : TableState) (granted : List Grant) → at ≤ old.totals.accepted → GrantsNothing old new granted → at ≤ new.totals.accepted
stamped_before at old new granted before nothing = elim nothing.silent [
  | inl counted ↦ omega (arith, before, counted)
  | inr same ↦ subst (λ (u : TableState). at ≤ u.totals.accepted) (sym same.0) before
]
