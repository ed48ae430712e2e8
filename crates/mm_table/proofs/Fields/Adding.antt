-- A queue is walked, and the process of each waiter that is passed is added to a set.
use Rattle.std.proofs.Common.{◌≡◌, ◌⊎◌, ◌<◌, ◌++◌, ℕ, Bool, true, List, [], ◌∷◌, length, map, slice_set, inl, inr, refl, ap, sym, subst, ◌∙◌}
use Rattle.std.proofs.lemmas.Bool.{cases_eq}
use Rattle.mm_bit_set.specs.BitSet.{has}
use Rattle.mm_lists.specs.Members.{Among}
use Rattle.mm_lists.proofs.Lemmas.Among.{among_append, among_left, among_right, among_map, among_map_gives}
use Rattle.mm_rules.specs.TableState.{Wait}
use Rattle.mm_settle_lemmas.specs.Steps.Added.{AddsAll}
use Rattle.mm_settle_lemmas.proofs.Lemmas.Added.{adds_set}
use Rattle.mm_table.specs.private.Labels.{added_each}

-- these were added, and nobody else
pub record AddsEach (ns : List ℕ) (old new : List Bool) : Type 0 where
  pub kept : (n : ℕ) → has old n ≡ true → has new n ≡ true
  pub added : (n : ℕ) → Among n ns → has new n ≡ true
  pub only : (n : ℕ) → has new n ≡ true → (has old n ≡ true) ⊎ Among n ns
  pub sized : length new ≡ length old

pub adds_none : (set : List Bool) → AddsEach [] set set
adds_none set = record { kept = λ n was. was; added = λ n among. absurd among; only = λ n here. inl here; sized = refl }

-- one more was added
pub adds_one : (ns : List ℕ) (n : ℕ) (a b c : List Bool) → AddsEach ns a b → n < length b → c ≡ slice_set b n true → AddsEach (ns ++ n ∷ []) a c
adds_one ns n a b c each within is =
    let one = adds_set b c n within is in
    let still : (k : ℕ) → has b k ≡ true → has c k ≡ true = λ k was. elim (cases_eq k n) [
      | inl e ↦ ap (has c) e ∙ one.here
      | inr apart ↦ one.others k apart ∙ was
    ] in
    record {
      kept = λ k was. still k (each.kept k was);
      added = λ k among. elim (among_append ns (n ∷ []) k among) [
        | inl before ↦ still k (each.added k before)
        | inr last ↦ elim last [ inl e ↦ ap (has c) e ∙ one.here | inr never ↦ absurd never ]
      ];
      only = λ k here. elim (cases_eq k n) [
        | inl e ↦ inr (among_right ns (n ∷ []) k (inl e))
        | inr apart ↦ elim (each.only k (sym (one.others k apart) ∙ here)) [ inl was ↦ inl was | inr found ↦ inr (among_left ns (n ∷ []) k found) ]
      ];
      sized = one.sized ∙ each.sized;
    }

-- those that were added one after the other
pub adds_each : (ns : List ℕ) (set : List Bool) → ((n : ℕ) → Among n ns → n < length set) → AddsEach ns set (added_each set ns)
adds_each [] set within = adds_none set
adds_each (n ∷ ns) set within =
    let new = slice_set set n true in
    let one = adds_set set new n (within n (inl refl)) refl in
    let rest = adds_each ns new (λ k among. subst (λ (m : ℕ). k < m) (sym one.sized) (within k (inr among))) in
    let still : (k : ℕ) → has set k ≡ true → has new k ≡ true = λ k was. elim (cases_eq k n) [
      | inl e ↦ ap (has new) e ∙ one.here
      | inr apart ↦ one.others k apart ∙ was
    ] in
    record {
      kept = λ k was. rest.kept k (still k was);
      added = λ k among. elim among [
        | inl e ↦ rest.kept k (ap (has new) e ∙ one.here)
        | inr later ↦ rest.added k later
      ];
      only = λ k here. elim (rest.only k here) [
        | inl was ↦ elim (cases_eq k n) [ inl e ↦ inr (inl e) | inr apart ↦ inl (sym (one.others k apart) ∙ was) ]
        | inr later ↦ inr (inr later)
      ];
      sized = rest.sized ∙ one.sized;
    }

-- so all of a queue were, once its processes were
pub adds_queue : (ws : List Wait) (ns : List ℕ) (old new : List Bool) → ns ≡ map (λ w. w.key.process) ws → AddsEach ns old new → AddsAll ws old new
adds_queue ws ns old new are each = record {
  kept = each.kept;
  added = λ w among. each.added w.key.process (subst (Among w.key.process) (sym are) (among_map (λ (v : Wait). v.key.process) ws w among));
  only = λ n here. elim (each.only n here) [
    | inl was ↦ inl was
    | inr among ↦ (let found = among_map_gives (λ (v : Wait). v.key.process) ws n (subst (Among n) are among) in inr (found.0, found.1, sym found.2))
  ];
  sized = each.sized;
}
