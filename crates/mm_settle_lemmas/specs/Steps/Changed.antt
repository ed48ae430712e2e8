-- The changed: each process that may transmit or newly detect is one of them, or its holder is.
use Rattle.std.specs.Prelude.{◌≡◌, ◌<◌, ℕ, Bool, true, false, List}
use Rattle.std.specs.Option.{option_map_or}
use Rattle.mm_bit_set.specs.BitSet.{has}
use Rattle.mm_rules.specs.TableState.{TableState, private_of, public_of, has_verdict, holder_of}
use Rattle.mm_rules.specs.Change.{can_transmit, can_detect}

-- the holder is in the set
abbrev pub holder_in : TableState → List Bool → ℕ → Bool
holder_in s changed k = option_map_or (has changed) (holder_of s k) false

-- each process that may transmit or newly detect is in the set, or its holder is
pub record AreChanged (s : TableState) (changed : List Bool) : Type 0 where
  pub transmits : (k : ℕ) → has changed k ≡ false → holder_in s changed k ≡ false → can_transmit s k ≡ false
  pub detects : (k : ℕ) → has changed k ≡ false → holder_in s changed k ≡ false → can_detect s k ≡ false

-- nobody was taken out of the set, and each process that is not in it has the holder and the labels that it had, and no verdict less
pub record ChangesOnly (s t : TableState) (old new : List Bool) : Type 0 where
  pub kept : (k : ℕ) → has old k ≡ true → has new k ≡ true
  pub holders : (k : ℕ) → has new k ≡ false → holder_of t k ≡ holder_of s k
  pub publics : (k : ℕ) → has new k ≡ false → public_of t k ≡ public_of s k
  pub privates : (k : ℕ) → has new k ≡ false → private_of t k ≡ private_of s k
  pub verdicts : (k : ℕ) → has new k ≡ false → has_verdict s k ≡ true → has_verdict t k ≡ true

-- each that waits or has those that wait for it was taken from the changed, and these and those are pending
pub record IsLoading (s : TableState) (from : ℕ) (changed pending : List Bool) : Type 0 where
  pub transmits : (k : ℕ) → has changed k ≡ false → holder_in s changed k ≡ false → has pending k ≡ false → can_transmit s k ≡ false
  pub detects : (k : ℕ) → has changed k ≡ false → holder_in s changed k ≡ false → has pending k ≡ false → can_detect s k ≡ false
  pub below : (k : ℕ) → k < from → has changed k ≡ false
