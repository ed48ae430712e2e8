-- What a transaction does, as a function of the state of its manager.
use Rattle.std.specs.Prelude.{ℕ, Result, Ok, Err, if◌then◌else◌}
use Rattle.std.specs.Option.{option_map_or}
use Rattle.mm_arena.specs.declared.key.Key.{Key}
use Rattle.mm_rules.specs.TableState.{is_live}
use Rattle.mm_manager.specs.LockState.{LockState}
use Rattle.mm_manager.specs.Reads.{wait_at}
use Rattle.mm_manager.specs.declared.refusal.Refusal.{Refusal}
use Rattle.mm_manager.specs.declared.refusal.Refusal.TheVariants.{NoTransaction}
use Rattle.mm_manager.specs.declared.reply.Status.{Status}
use Rattle.mm_manager.specs.declared.reply.Status.TheVariants as status
use Rattle.mm_manager.specs.declared.reply.Wait.{Wait}

-- of one with this wait
abbrev pub status_by : Wait → Status
status_by w = status.Waiting w.number w.holder

-- of the transaction in slot p
abbrev pub status_at : LockState → ℕ → Status
status_at m p = option_map_or status_by (wait_at m.table p) status.Active

-- what `status` answers
abbrev pub status_of : LockState → Key → Result Status Refusal
status_of m k = if is_live m.table k then Ok (status_at m k.process) else Err NoTransaction
