-- What is so after a request for an account, by what becomes of the transaction that asked.
use Rattle.std.specs.Prelude.{ℕ, List}
use Rattle.mm_arena.specs.declared.key.Key.{Key}
use Rattle.mm_manager.specs.LockState.{LockState, Owns, Waits}
use Rattle.example_transfers.specs.declared.lock.Next.{Next}
use Rattle.example_transfers.specs.declared.lock.Next.TheVariants.{WorksOn, Sleeps, RolledBack}

abbrev pub OwnsNothing : LockState → Key → Type 0
OwnsNothing m k = (name : List ℕ) → ¬ Owns m k name

-- k owns the account; or it waits for the account, which the holder owns; or it owns nothing
abbrev pub Leaves : LockState → Key → List ℕ → Next → Type 0
Leaves m k account WorksOn = Owns m k account
Leaves m k account (Sleeps h) = Waits m k account × Owns m h account
Leaves m k account RolledBack = OwnsNothing m k
