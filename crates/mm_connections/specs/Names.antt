-- A request of several names.
use Rattle.std.specs.Prelude.{◌≡◌, ◌⊎◌, ℕ, ◌+◌, Bool, true, false, List, [], ◌∷◌, ◌++◌, Option, Some, None, Result, Ok, Err, codes, decimal, if◌then◌else◌}
use Rattle.mm_arena.specs.declared.key.Key.{Key}
use Rattle.mm_arena.specs.Key.{key_text}
use Rattle.mm_manager.specs.LockState.{LockState, IsLawful}
use Rattle.mm_manager.specs.Made.{Locked}
use Rattle.mm_manager.specs.declared.refusal.Refusal.{Refusal}
use Rattle.mm_manager.specs.declared.refusal.Refusal.TheVariants.{NoTransaction, Waiting}
use Rattle.mm_manager.specs.declared.reply.Lock.{Lock}
use Rattle.mm_manager.specs.declared.reply.Lock.TheVariants as lock
use Rattle.mm_service.specs.Cycle.{cycle_text}
use Rattle.mm_service.specs.Reply.{begun_text, refusal_word}
use Rattle.mm_service.specs.declared.effect.Effect.{Effect}
use Rattle.mm_service.specs.declared.effect.Effect.TheVariants as effects
use Rattle.mm_connections.specs.declared.names.Stop.{Stop}
use Rattle.mm_connections.specs.declared.names.StopReason.{StopReason}
use Rattle.mm_connections.specs.declared.names.StopReason.TheVariants as reasons

-- why an answer stops such a request, if it does
abbrev pub stop_of : Result Lock Refusal → Option StopReason
stop_of (Ok lock.Granted) = None
stop_of (Ok lock.Held) = None
stop_of (Ok (lock.Waits h)) = Some (reasons.Waits h)
stop_of (Ok (lock.Deadlock h)) = Some (reasons.Deadlock h)
stop_of (Err refusal) = Some (reasons.Refused refusal)

-- k asks for these names, one after the other, until one stops it; the first of them has this place. After each all holds that holds of any manager.
abbrev pub LocksNames : ℕ → Key → List (List ℕ) → LockState → Option Stop → LockState → Type 0
LocksNames place k [] old stop new = (stop ≡ None) × (new ≡ old)
LocksNames place k (name ∷ names) old stop new =
    (answer : Result Lock Refusal) × (mid : LockState) × Locked old k name answer mid × IsLawful mid
    × (((stop_of answer ≡ None) × LocksNames (place + 1) k names mid stop new)
    ⊎ ((reason : StopReason) × (stop_of answer ≡ Some reason) × (stop ≡ Some (record { place = place; reason = reason })) × (new ≡ mid)))

-- ---- replies

-- the refusal is of the transaction, whatever the name is
abbrev pub is_of_transaction : Refusal → Bool
is_of_transaction NoTransaction = true
is_of_transaction Waiting = true
is_of_transaction _ = false

-- of a deadlock the cycle is told that k would have closed
abbrev pub reason_text : LockState → Key → ℕ → StopReason → List ℕ
reason_text m k place (reasons.Waits h) = (codes "waits " ++ decimal place) ++ codes " " ++ key_text h
reason_text m k place (reasons.Deadlock h) = (codes "deadlock " ++ decimal place) ++ cycle_text m k h
reason_text m k place (reasons.Refused refusal) = codes "refused " ++ (if is_of_transaction refusal then [] else decimal place ++ codes " ") ++ refusal_word refusal

abbrev pub stop_text : LockState → Key → Option Stop → List ℕ
stop_text m k None = codes "granted"
stop_text m k (Some stop) = reason_text m k stop.place stop.reason

abbrev pub begun_with_text : LockState → Key → Option Stop → List ℕ
begun_with_text m k None = begun_text k
begun_with_text m k (Some stop) = (begun_text k ++ codes " ") ++ reason_text m k stop.place stop.reason

-- ---- what it came to

abbrev pub reason_effect : Key → ℕ → StopReason → Effect
reason_effect k place (reasons.Deadlock h) = effects.Deadlock k h place
reason_effect k place _ = effects.Nothing

abbrev pub stop_effect : Key → Option Stop → Effect
stop_effect k None = effects.Nothing
stop_effect k (Some stop) = reason_effect k stop.place stop.reason
