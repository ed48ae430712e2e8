-- The processes that an event changed: the processes whose labels, wait, holder or verdict are other than before.
use Rattle.std.specs.Prelude.{◌≡◌, ◌⊎◌, ◌&&◌, not, nat_eq, ℕ, Bool, true, false, List, length, filter}
use Rattle.std.specs.Bool.{beq}
use Rattle.std.specs.Option.{option_eq}
use Rattle.std.specs.List.{range_with_len}
use Rattle.mm_label.specs.Label.{label_eq}
use Rattle.mm_bit_set.specs.BitSet.{has}
use Rattle.mm_rules.specs.TableState.{TableState, private_of, public_of, has_verdict, holder_of, wait_of}

-- process n is as it was
pub record IsUnchanged (s t : TableState) (n : ℕ) : Type 0 where
  pub private : private_of t n ≡ private_of s n
  pub public : public_of t n ≡ public_of s n
  pub wait : wait_of t n ≡ wait_of s n
  pub holder : holder_of t n ≡ holder_of s n
  pub verdict : has_verdict t n ≡ has_verdict s n

-- process n is not as it was
abbrev pub IsChanged : TableState → TableState → ℕ → Type 0
IsChanged s t n = IsUnchanged s t n → ⊥

-- the processes that changed were added to the set, and no others
pub record Touches (s t : TableState) (old new : List Bool) : Type 0 where
  pub kept : (n : ℕ) → has old n ≡ true → has new n ≡ true
  pub others : (n : ℕ) → has new n ≡ false → IsUnchanged s t n
  pub changed : (n : ℕ) → has new n ≡ true → (has old n ≡ true) ⊎ IsChanged s t n
  pub sized : length new ≡ length old

-- process n is other than it was: one of its labels, its wait, its holder or its verdict
abbrev pub is_changed : TableState → TableState → ℕ → Bool
is_changed s t n =
    not (label_eq (private_of t n) (private_of s n) && label_eq (public_of t n) (public_of s n) && option_eq nat_eq (wait_of t n) (wait_of s n)
    && option_eq nat_eq (holder_of t n) (holder_of s n) && beq (has_verdict t n) (has_verdict s n))

-- those that are other than they were, in ascending order
abbrev pub changed_processes : TableState → TableState → List ℕ
changed_processes s t = filter (is_changed s t) (range_with_len 0 s.config.processes)
