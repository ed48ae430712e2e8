-- What the reads answer.
use Rattle.std.specs.Prelude.{◌≡◌, ℕ, ◌-◌, true, false, List, Option, Some, None, Result, Ok, Err, option_map, option_and_then}
use Rattle.std.specs.List.{filter_map, range_with_len}
use Rattle.mm_arena.specs.declared.key.Key.{Key}
use Rattle.mm_rules.specs.TableState.{TableState, key_of, is_live, owner_of, wait_of}
use Rattle.mm_rules.specs.Event.{tenant_of}
use Rattle.mm_manager.specs.LockState.{LockState}
use Rattle.mm_manager.specs.declared.config.ManagerConfig.{ManagerConfig}
use Rattle.mm_manager.specs.declared.refusal.Refusal.{Refusal}
use Rattle.mm_manager.specs.declared.refusal.Refusal.TheVariants.{NoTransaction}
use Rattle.mm_manager.specs.declared.reply.Status.{Status}
use Rattle.mm_manager.specs.declared.reply.Status.TheVariants as status
use Rattle.mm_manager.specs.declared.reply.Wait.{Wait}

-- process p waits for the name of number n, which h owns
pub record IsHeldUp (m : LockState) (p n : ℕ) (h : Key) : Type 0 where
  pub waits : wait_of m.table p ≡ Some n
  pub holder : owner_of m.table n ≡ Some h

-- what a live transaction does
abbrev pub Does : LockState → ℕ → Status → Type 0
Does m p status.Active = wait_of m.table p ≡ None
Does m p (status.Waiting n h) = IsHeldUp m p n h

-- what `status` answers
abbrev pub HasStatus : LockState → Key → Result Status Refusal → Type 0
HasStatus m k (Ok told) = (is_live m.table k ≡ true) × Does m k.process told
HasStatus m k (Err refusal) = (is_live m.table k ≡ false) × (refusal ≡ NoTransaction)

-- the numbers with which the manager was opened; the seed is not told, and 0 stands for it
abbrev pub config_of : LockState → ManagerConfig
config_of m = record { transactions = m.table.config.processes; names = m.table.config.resources; name_bytes = m.names.name_bytes; names_each = m.names_each; seed = 0 }

-- ---- the live transactions

-- each live transaction of a slot from p on, by rising slot
abbrev pub live_from : TableState → ℕ → List Key
live_from s p = filter_map (tenant_of s) (range_with_len p (s.config.processes - p))

-- the same of all slots
abbrev pub live_of : TableState → List Key
live_of s = live_from s 0

-- ---- the wait-for graph

-- the wait of process p for number n, if somebody owns that
abbrev pub edge : TableState → ℕ → ℕ → Option Wait
edge s p n = option_map (λ h. record { key = key_of s p; number = n; holder = h }) (owner_of s n)

-- for what process p waits, and whose that is
abbrev pub wait_at : TableState → ℕ → Option Wait
wait_at s p = option_and_then (edge s p) (wait_of s p)

-- each process from p on that waits, for which number, and whose that is, by rising process
abbrev pub waits_from : TableState → ℕ → List Wait
waits_from s p = filter_map (wait_at s) (range_with_len p (s.config.processes - p))

-- the same of all processes
abbrev pub waits_of : TableState → List Wait
waits_of s = waits_from s 0
