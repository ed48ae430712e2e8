-- What is added to a set: one process, and those of a queue one after the other.
use Rattle.std.proofs.Common.{◌≡◌, ◌⊎◌, ◌<◌, ℕ, Bool, true, List, ◌∷◌, length, slice_set, inl, inr, refl, sym, ap, ◌∙◌, length-set}
use Rattle.std.proofs.lemmas.Bool.{cases_eq}
use Rattle.mm_rules.specs.TableState.{Wait}
use Rattle.mm_bit_set.specs.BitSet.{has}
use Rattle.mm_settle_lemmas.specs.Steps.Added.{Adds, AddsAll}
use Rattle.mm_settle_lemmas.proofs.Lemmas.Passes.{has_added, has_apart}

pub adds_set : (old new : List Bool) (n : ℕ) → n < length old → new ≡ slice_set old n true → Adds n old new
adds_set old new n within is = record {
  here = ap (λ set. has set n) is ∙ has_added old n within;
  others = λ k apart. ap (λ set. has set k) is ∙ has_apart old n k true apart;
  sized = ap length is ∙ length-set old n true;
}

-- whoever was in the set still is
pub adds_kept : (n : ℕ) (old new : List Bool) → Adds n old new → (k : ℕ) → has old k ≡ true → has new k ≡ true
adds_kept n old new adds k was = elim (cases_eq k n) [
  | inl e ↦ ap (has new) e ∙ adds.here
  | inr apart ↦ adds.others k apart ∙ was
]

-- whoever is in the set was in it, or is n
adds_only : (n : ℕ) (old new : List Bool) → Adds n old new → (k : ℕ) → has new k ≡ true → (has old k ≡ true) ⊎ (k ≡ n)
adds_only n old new adds k here = elim (cases_eq k n) [
  | inl e ↦ inr e
  | inr apart ↦ inl (sym (adds.others k apart) ∙ here)
]

module _ (w : Wait) (ws : List Wait) (a b c : List Bool) (n : ℕ) (its : w.key.process ≡ n) where
  -- n before those of a queue
  pub adds_first : Adds n a b → AddsAll ws b c → AddsAll (w ∷ ws) a c
  adds_first one all = record {
    kept = λ k was. all.kept k (adds_kept n a b one k was);
    added = λ v among. elim among [
      | inl is ↦ ap (λ (u : Wait). has c u.key.process) is ∙ all.kept w.key.process (ap (has b) its ∙ one.here)
      | inr later ↦ all.added v later
    ];
    only = λ k here. elim (all.only k here) [
      | inl before ↦ elim (adds_only n a b one k before) [ inl was ↦ inl was | inr e ↦ inr (w, inl refl, its ∙ sym e) ]
      | inr found ↦ inr (found.0, inr found.1, found.2)
    ];
    sized = all.sized ∙ one.sized;
  }
