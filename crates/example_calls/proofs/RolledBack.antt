-- A transaction that has ended owns nothing.
use Rattle.std.proofs.Common.{◌≡◌, ℕ, true, false, None, Some, Ok, nat_eq, slice_index_or, inl, inr, refl, sym, ap, ◌∙◌}
use Rattle.std.specs.Option.{option_map_or}
use Rattle.std.proofs.lemmas.Bool.{cases_Bool, eq-eqb}
use Rattle.mm_arena.specs.declared.key.Key.{Key}
use Rattle.mm_rules.specs.TableState.{TableState, owner_of, owns, wait_of}
use Rattle.mm_rules.specs.Change.{vacate}
use Rattle.mm_rules.specs.Event.{Finish, finish_tests}
use Rattle.mm_rules.specs.Laws.{Laws}
use Rattle.mm_rules.proofs.States.Lookups.{none_of_is_some}
use Rattle.mm_rules.proofs.States.SettleKeeps.{settle_keeps}
use Rattle.mm_settled.specs.Calls.{Made}
use Rattle.mm_settled.proofs.Lemmas.Accepted.{accepted}
use Rattle.mm_settled.proofs.Lemmas.Ends.{finish_hands_on}

-- what it owned is handed to one that waited, and it did not wait
pub ended_owns_nothing : (old new : TableState) (k : Key) → Laws old → Made (Finish k) old tt new → (r : ℕ) → ¬ (owner_of new r ≡ Some k)
ended_owns_nothing old new k laws made r owned =
    let on = finish_hands_on old made.mid k laws made.event in
    let idle : wait_of old k.process ≡ None = none_of_is_some (wait_of old k.process) (accepted (finish_tests old k) old tt (vacate old k.process) tt made.mid made.event).passed.1.1.0 in
    let still : owner_of new r ≡ owner_of made.mid r = elim made.rests [
      | inl same ↦ ap (λ (t : TableState). owner_of t r) same
      | inr settled ↦ ap (λ os. slice_index_or os r None) (settle_keeps made.mid new (Ok settled.0) settled.1).owners
    ] in
    let then : owner_of made.mid r ≡ Some k = sym still ∙ owned in
    elim (cases_Bool (owns old k.process r)) [
      | inl mine ↦ (let never : None ≡ Some r = sym idle ∙ on.handed r k mine then in cc)
      | inr other ↦
          let before : owner_of old r ≡ Some k = sym (on.others r other) ∙ then in
          let never : true ≡ false = sym (ap (λ o. option_map_or (λ (h : Key). nat_eq h.process k.process) o false) before ∙ eq-eqb k.process k.process refl) ∙ other in
          cc
    ]
