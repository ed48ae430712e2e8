-- What `status` answers.
use Rattle.std.proofs.Common.{◌≡◌, ◌∙◌, ℕ, Bool, Option, Some, Result, Ok, Err, if◌then◌else◌, option_map, option_and_then, sym, ap}
use Rattle.std.specs.Option.{option_map_or}
use Rattle.mm_arena.specs.declared.key.Key.{Key}
use Rattle.mm_rules.specs.TableState.{key_of}
use Rattle.mm_manager.specs.LockState.{LockState}
use Rattle.mm_manager.specs.Reads.{Does, HasStatus, IsHeldUp, edge, wait_at}
use Rattle.mm_manager.specs.declared.refusal.Refusal.{Refusal}
use Rattle.mm_manager.specs.declared.refusal.Refusal.TheVariants.{NoTransaction}
use Rattle.mm_manager.specs.declared.reply.Status.{Status}
use Rattle.mm_manager.specs.declared.reply.Status.TheVariants as status
use Rattle.mm_manager.specs.declared.reply.Wait.{Wait}
use Rattle.mm_connections.specs.Status.{status_at, status_by, status_of}

module _ (m : LockState) (p : ℕ) where
  abbrev waiting_at : (n : ℕ) (h : Key) → Wait
  waiting_at n h = record { key = key_of m.table p; number = n; holder = h }

  waits_at : (n : ℕ) (h : Key) → IsHeldUp m p n h → wait_at m.table p ≡ Some (waiting_at n h)
  waits_at n h held = ap (option_and_then (edge m.table p)) held.waits ∙ ap (option_map (waiting_at n)) held.holder

  abbrev status_in : Option Wait → Status
  status_in o = option_map_or status_by o status.Active

  told_is : (told : Status) → Does m p told → told ≡ status_at m p
  told_is status.Active none = sym (ap (λ (o : Option ℕ). status_in (option_and_then (edge m.table p) o)) none)
  told_is (status.Waiting n h) held = sym (ap status_in (waits_at n h held))

pub status_is : (m : LockState) (k : Key) (answer : Result Status Refusal) → HasStatus m k answer → answer ≡ status_of m k
status_is m k (Ok told) (live, does) = ap (λ (s : Status). Ok s) (told_is m k.process told does) ∙ sym (ap (λ (b : Bool). if b then Ok (status_at m k.process) else Err NoTransaction) live)
status_is m k (Err refusal) (dead, is) = ap (λ (r : Refusal). Err r) is ∙ sym (ap (λ (b : Bool). if b then Ok (status_at m k.process) else Err NoTransaction) dead)
