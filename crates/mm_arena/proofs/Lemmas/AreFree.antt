-- A free process has no value and is listed once, over each run of calls.
use Rattle.std.proofs.Common.{◌≡◌, ◌≢◌, ℕ, zero, suc, ◌+◌, ◌<◌, true, List, [], ◌∷◌, None, is_some, get_or, set, replicate, refl, sym, ap, subst, ◌∙◌, arith, true≢false}
use Rattle.std.specs.List.{range_with_len, AllByRecursion}
use Rattle.std.proofs.lemmas.Bool.Decides.{nat_tests}
use Rattle.std.proofs.lemmas.List.{get_or-set_same, get_or-set_other}
use Rattle.mm_arena.specs.declared.key.Key.{Key}
use Rattle.mm_arena.specs.Slots.{Slots, Place, never_used, place_at, IsLive, opening_slots, filled, freed, retired, with_value}
use Rattle.mm_arena.specs.Calls.{Call, after_all}
use Rattle.mm_arena.proofs.Lemmas.Updates.{IsLive-within}
use Rattle.mm_arena.proofs.Lemmas.AfterAll.{kept_after_all}

-- the numbers from a higher one on
range_above : (low from n : ℕ) → low < from → AllByRecursion (λ other. other ≢ low) (range_with_len from n)
range_above low from zero below = tt
range_above low from (suc n) below = (λ same. omega arith, range_above low (from + 1) n (omega arith))

module _ {T : Type 0} where
  -- each of these processes has no value, and is listed once
  abbrev pub AreFree : List (Place T) → List ℕ → Type 0
  AreFree places [] = Unit {0}
  AreFree places (process ∷ rest) =
      ((get_or places process never_used).value ≡ None) × AllByRecursion (λ other. other ≢ process) rest
      × AreFree places rest

  AreFree-set : (places : List (Place T)) (k : ℕ) (place : Place T) (free : List ℕ) → AllByRecursion (λ other. other ≢ k) free → AreFree places free → AreFree (set places k place) free
  AreFree-set places k place [] off all = tt
  AreFree-set places k place (process ∷ rest) off all = (
    rw (get_or-set_other places k process place never_used off.0) all.0,
    all.1,
    AreFree-set places k place rest off.1 all.2,
  )

  -- a process with a value is not free
  live_is_off : (places : List (Place T)) (k : ℕ) (free : List ℕ) → AreFree places free → is_some (get_or places k never_used).value ≡ true → AllByRecursion (λ other. other ≢ k) free
  live_is_off places k [] all live = tt
  live_is_off places k (process ∷ rest) all live = (
    λ same. true≢false (sym live ∙ ap is_some (rw same at all.0)),
    live_is_off places k rest all.2 live,
  )

  pub has_value : (s : Slots T) (key : Key) → IsLive s key → is_some (place_at s key.process).value ≡ true
  has_value s key live = grind (arith, nat_tests)

  AreFree-filled : (s : Slots T) (value : T) (free : List ℕ) → s.free ≡ free → AreFree s.places s.free → AreFree (filled s value free).places (filled s value free).free
  AreFree-filled s value [] is all = all
  AreFree-filled s value (process ∷ rest) is all =
      let listed = subst (AreFree s.places) is all in AreFree-set s.places process _ rest listed.1 listed.2

  -- the process of a live key is not free
  pub IsLive-off : (s : Slots T) (key : Key) → IsLive s key → AreFree s.places s.free → AllByRecursion (λ other. other ≢ key.process) s.free
  IsLive-off s key live all = live_is_off s.places key.process s.free all (has_value s key live)

  AreFree-freed : (s : Slots T) (key : Key) → IsLive s key → AreFree s.places s.free → AreFree (freed s key).places (freed s key).free
  AreFree-freed s key live all = (
    ap (λ place. place.value) (get_or-set_same s.places key.process _ never_used (IsLive-within s key live)),
    IsLive-off s key live all,
    AreFree-set s.places key.process _ s.free (IsLive-off s key live all) all,
  )

  AreFree-retired : (s : Slots T) (key : Key) → IsLive s key → AreFree s.places s.free → AreFree (retired s key).places s.free
  AreFree-retired s key live all =
      AreFree-set s.places key.process _ s.free (IsLive-off s key live all) all

  AreFree-written : (s : Slots T) (key : Key) (value : T) → IsLive s key → AreFree s.places s.free → AreFree (with_value s key value).places s.free
  AreFree-written s key value live all =
      AreFree-set s.places key.process _ s.free (IsLive-off s key live all) all

  -- at first each process is free once
  never_used-read : (n process : ℕ) → (get_or (replicate n (never_used {T = T})) process never_used).value ≡ None
  never_used-read zero process = refl
  never_used-read (suc n) zero = refl
  never_used-read (suc n) (suc process) = never_used-read n process

  AreFree-range : (places : List (Place T)) → ((process : ℕ) → (get_or places process never_used).value ≡ None) → (from n : ℕ) → AreFree places (range_with_len from n)
  AreFree-range places empty from zero = tt
  AreFree-range places empty from (suc n) =
      (empty from, range_above from (from + 1) n (omega arith), AreFree-range places empty (from + 1) n)

  pub AreFree-after_all : (capacity limit : ℕ) (calls : List (Call T)) → AreFree (after_all (opening_slots capacity limit) calls).places (after_all (opening_slots {T = T} capacity limit) calls).free
  AreFree-after_all capacity limit calls =
      kept_after_all (λ s. AreFree s.places s.free) (λ s value. AreFree-filled s value s.free refl) AreFree-freed AreFree-retired AreFree-written (opening_slots capacity limit) calls
      (AreFree-range (replicate capacity never_used) (never_used-read capacity) 0 capacity)
