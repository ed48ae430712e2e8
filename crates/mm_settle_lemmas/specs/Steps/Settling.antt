-- What a settle did so far, and to which processes.
use Rattle.std.specs.Prelude.{◌≡◌, ◌⊎◌, ℕ, Bool, true, false, List, length}
use Rattle.mm_label.specs.Label.{label_lt}
use Rattle.mm_bit_set.specs.BitSet.{has}
use Rattle.mm_rules.specs.TableState.{TableState, public_of, has_verdict}
use Rattle.mm_settle_lemmas.specs.Touched.{IsUnchanged}

-- from s to t labels were raised and verdicts given, to those that were added to the set and to nobody else
pub record IsSettling (s t : TableState) (old new : List Bool) : Type 0 where
  pub kept : (n : ℕ) → has old n ≡ true → has new n ≡ true
  pub others : (n : ℕ) → has new n ≡ false → IsUnchanged s t n
  pub rises : (n : ℕ) → (public_of t n ≡ public_of s n) ⊎ (label_lt (public_of s n) (public_of t n) ≡ true)
  pub stands : (n : ℕ) → has_verdict s n ≡ true → has_verdict t n ≡ true
  pub changed : (n : ℕ) → has new n ≡ true → (has old n ≡ true) ⊎ ((label_lt (public_of s n) (public_of t n) ≡ true) ⊎ ((has_verdict s n ≡ false) × (has_verdict t n ≡ true)))
  pub sized : length new ≡ length old
