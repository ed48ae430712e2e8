-- What the end of a transaction did so far, and to which processes.
use Rattle.std.specs.Prelude.{◌≡◌, ℕ, Bool, List, Some, None}
use Rattle.mm_rules.specs.TableState.{TableState, holder_of, wait_of}
use Rattle.mm_settle_lemmas.specs.Touched.{IsUnchanged, Touches}

-- those whose holder n still is are as they were at s
abbrev pub HeldAreUnchanged : TableState → TableState → ℕ → Type 0
HeldAreUnchanged s t n = (k : ℕ) → holder_of t k ≡ Some n → IsUnchanged s t k

-- from s to t resources of n were handed over, and those that this changed were added to the set
pub record IsVacating (s : TableState) (n : ℕ) (t : TableState) (old new : List Bool) : Type 0 where
  pub touches : Touches s t old new
  pub held : HeldAreUnchanged s t n
  pub idle : (k : ℕ) → wait_of s k ≡ None → IsUnchanged s t k
