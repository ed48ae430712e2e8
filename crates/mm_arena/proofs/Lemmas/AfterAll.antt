-- What holds after each run of calls.
use Rattle.std.proofs.Common.{◌≡◌, Bool, true, false, List, [], ◌∷◌, nat_lt, is_some, cond, refl}
use Rattle.mm_arena.specs.declared.key.Key.{Key}
use Rattle.mm_arena.specs.Slots.{Slots, lookup, IsLive, filled, freed, retired, vacated, with_value}
use Rattle.mm_arena.specs.Calls.{Call, insert, remove, write, after, after_all}

-- a fact that each change of the slots keeps, and so each run of calls
module _ {T : Type 0} (P : Slots T → Type 0) (on_fill : (s : Slots T) (value : T) → P s → P (filled s value s.free)) (on_free : (s : Slots T) (key : Key) → IsLive s key → P s → P (freed s key)) (on_retire : (s : Slots T) (key : Key) → IsLive s key → P s → P (retired s key)) (on_write : (s : Slots T) (key : Key) (value : T) → IsLive s key → P s → P (with_value s key value)) where
  kept_where : (s changed : Slots T) (live : Bool) → (live ≡ true → P changed) → P s → P (cond live changed s)
  kept_where s changed true keeps holds = keeps refl
  kept_where s changed false keeps holds = holds

  kept_by_limit : (s : Slots T) (key : Key) (again : Bool) → IsLive s key → P s → P (cond again (freed s key) (retired s key))
  kept_by_limit s key true live holds = on_free s key live holds
  kept_by_limit s key false live holds = on_retire s key live holds

  kept_after : (s : Slots T) (call : Call T) → P s → P (after s call)
  kept_after s (insert value) holds = on_fill s value holds
  kept_after s (remove key) holds =
      kept_where s (vacated s key) (is_some (lookup s key)) (λ live. kept_by_limit s key (nat_lt key.generation s.limit) live holds) holds
  kept_after s (write key value) holds =
      kept_where s (with_value s key value) (is_some (lookup s key)) (λ live. on_write s key value live holds) holds

  pub kept_after_all : (s : Slots T) (calls : List (Call T)) → P s → P (after_all s calls)
  kept_after_all s [] holds = holds
  kept_after_all s (call ∷ later) holds = kept_after_all (after s call) later (kept_after s call holds)
