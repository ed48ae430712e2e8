-- What clauses say of a lock and its passes.
use Rattle.std.specs.Prelude.{◌≡◌, [], ◌∷◌}
use Rattle.atomic_table.specs.declared.shared.Seat.{Seat}
use Rattle.mm_tied.specs.declared.views.Stage.TheVariants.{Away}
use Rattle.mm_tied.specs.declared.views.View.{View}
use Rattle.mm_tied.specs.declared.lock.TiedMutex.{TiedMutex}

module _ {T S E Y : Type 0} where
  -- the value that the lock was opened with
  abbrev pub opened : TiedMutex T S E Y → T
  opened lock = lock.table.shared.key.value

  abbrev pub IsPassOf : TiedMutex T S E Y → Seat T (View S E) → Type 0
  IsPassOf lock pass = pass.table_id ≡ lock.table.shared.table_id

module _ {T S E : Type 0} where
  abbrev pub IsSamePass : Seat T (View S E) → Seat T (View S E) → Type 0
  IsSamePass old new = (new.table_id ≡ old.table_id) × (new.id ≡ old.id)

  -- it does not have the lock
  abbrev pub IsAway : Seat T (View S E) → Type 0
  IsAway pass = (pass.me.1 ≡ []) × (pass.me.0.stage ≡ Away)

  -- it has the lock, and this value is in its hand
  abbrev pub HasInHand : Seat T (View S E) → T → Type 0
  HasInHand pass value = pass.me.1 ≡ (0, value) ∷ []
