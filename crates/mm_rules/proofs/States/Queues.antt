-- Queues as lists: those that wait for one resource, among all that wait.
use Rattle.std.proofs.Common.{◌≡◌, ◌≢◌, ℕ, zero, suc, ◌&&◌, List, [], ◌∷◌, map, filter, drop, nat_eq, refl, ap, sym, inl, inr, get_or-set_other}
use Rattle.std.proofs.lemmas.Bool.{cases_Bool}
use Rattle.std.specs.List.{list_all}
use Rattle.mm_label.specs.Label.{opening_label}
use Rattle.mm_lists.specs.Members.{Among, NoRepeat}
use Rattle.mm_rules.specs.TableState.{TableState, Wait}
use Rattle.mm_rules.specs.Change.{block, block_fits, label_against}
use Rattle.mm_rules.specs.Stages.{NoneIs}

pub once_drop : (xs : List Wait) (i : ℕ) → NoRepeat (map (λ w. w.key.process) xs) → NoRepeat (map (λ w. w.key.process) (drop i xs))
once_drop xs zero once = once
once_drop [] (suc i) once = tt
once_drop (x ∷ xs) (suc i) once = once_drop xs i once.1

pub not_among_queue : (r n : ℕ) (xs : List Wait) → (Among n (map (λ w. w.key.process) xs) → ⊥) → NoneIs n (filter (λ w. nat_eq w.resource r) xs)
not_among_queue r n [] none = tt
not_among_queue r n (x ∷ xs) none =
    elim (cases_Bool (nat_eq x.resource r)) [
      | inl mine ↦ rw mine ((λ e. none (inl (sym e))), not_among_queue r n xs (λ later. none (inr later)))
      | inr other ↦ rw other (not_among_queue r n xs (λ later. none (inr later)))
    ]

-- a block of n leaves whether others fit
pub fits_after : (s : TableState) (n h : ℕ) → n ≢ h → (vs : List Wait) → NoneIs n vs → list_all (λ v. block_fits (block s n h) v.key.process h) vs ≡ list_all (λ v. block_fits s v.key.process h) vs
fits_after s n h apart [] none = refl
fits_after s n h apart (v ∷ vs) none =
    let label = label_against s n h in
    let own = get_or-set_other s.public n v.key.process label (opening_label v.key.process) none.0 in
    let its = get_or-set_other s.public n h label (opening_label h) (λ e. apart (sym e)) in
    rw (own, its) (ap (λ b. block_fits s v.key.process h && b) (fits_after s n h apart vs none.1))
