-- What a contract sees of a shelf, as its places are read and written.
use Rattle.std.proofs.Common.{◌≡◌, ℕ, zero, suc, ◌+◌, ◌<◌, List, [], ◌∷◌, Option, Some, None, is_some, IsSome, length, replicate, slice_index_or, slice_set, refl, sym, ap, ◌∙◌, inl, inr, arith, true≢false}
use Rattle.std.proofs.lemmas.Bool.{cases_lt}
use Rattle.std.proofs.lemmas.List.{get_or_past, get_or_read}
use Rattle.mm_arena.specs.declared.shelf.Stored.{Stored}
use Rattle.mm_arena.specs.Shelf.{HasValue}
use Rattle.mm_arena.specs.private.Stored.{entry_of, entries_from, seen}

module _ {T : Type 0} where
  length-entries_from : (first : ℕ) (kept : List (Option (Stored T))) → length (entries_from first kept) ≡ length kept
  length-entries_from first [] = refl
  length-entries_from first (s ∷ later) = ap suc (length-entries_from (suc first) later)

  read_from : (first : ℕ) (kept : List (Option (Stored T))) (i process : ℕ) → first + i ≡ process → slice_index_or (entries_from first kept) i None ≡ entry_of process (slice_index_or kept i None)
  read_from first [] i process place = refl
  read_from first (s ∷ later) zero process place = let same : first ≡ process = omega arith in ap (λ p. entry_of p s) same
  read_from first (s ∷ later) (suc i) process place = read_from (suc first) later i process (omega arith)

  set_from : (first : ℕ) (kept : List (Option (Stored T))) (i process : ℕ) (s : Option (Stored T)) → first + i ≡ process → entries_from first (slice_set kept i s) ≡ slice_set (entries_from first kept) i (entry_of process s)
  set_from first [] i process s place = refl
  set_from first (before ∷ later) zero process s place = let same : first ≡ process = omega arith in ap (λ p. entry_of p s ∷ entries_from (suc first) later) same
  set_from first (before ∷ later) (suc i) process s place = ap (λ rest. entry_of first before ∷ rest) (set_from (suc first) later i process s (omega arith))

  none_from : (first count : ℕ) → entries_from {T = T} first (replicate count None) ≡ replicate count None
  none_from first zero = refl
  none_from first (suc more) = ap (λ rest. None ∷ rest) (none_from (suc first) more)

  -- before a value is put, no process has one
  pub seen-none : (capacity : ℕ) → seen {T = T} (replicate capacity None) ≡ replicate capacity None
  seen-none capacity = none_from 0 capacity

  module _ (kept : List (Option (Stored T))) where
    pub length-seen : length (seen kept) ≡ length kept
    length-seen = length-entries_from 0 kept

    module _ (process : ℕ) where
      -- what is read at a place
      pub seen-read : slice_index_or (seen kept) process None ≡ entry_of process (slice_index_or kept process None)
      seen-read = read_from 0 kept process process (omega arith)

      -- the same of what was read with another value past the end
      pub seen-index : (s : Option (Stored T)) → process < length kept → s ≡ slice_index_or kept process s → entry_of process s ≡ slice_index_or (seen kept) process None
      seen-index s inside read = ap (entry_of process) (get_or_read kept process s inside read None) ∙ sym seen-read

      -- a process that has a value has a place
      pub HasValue-inside : HasValue (seen kept) process → process < length kept
      HasValue-inside has = elim (cases_lt process (length kept)) [
        | inl inside ↦ inside
        | inr past ↦ absurd (true≢false (sym has ∙ ap is_some (seen-read ∙ ap (entry_of process) (get_or_past kept process None past))))
      ]

      -- what a write of a place shows
      pub seen-set : (s : Option (Stored T)) → seen (slice_set kept process s) ≡ slice_set (seen kept) process (entry_of process s)
      seen-set s = set_from 0 kept process process s (omega arith)

  -- where a process has a value, it is kept
  pub IsSome-kept : (process : ℕ) (s : Option (Stored T)) → IsSome (entry_of process s) → IsSome s
  IsSome-kept process None has = has
  IsSome-kept process (Some s) has = refl
