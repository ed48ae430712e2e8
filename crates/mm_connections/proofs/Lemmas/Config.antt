-- A request of several names does not change the numbers of the manager's table.
use Rattle.std.proofs.Common.{◌≡◌, ◌+◌, ◌∷◌, ℕ, List, [], Option, inl, inr, ap, ◌∙◌}
use Rattle.mm_arena.specs.declared.key.Key.{Key}
use Rattle.mm_manager.specs.LockState.{LockState}
use Rattle.mm_service.proofs.Lemmas.Config.{locks_config}
use Rattle.mm_connections.specs.Names.{LocksNames}
use Rattle.mm_connections.specs.declared.names.Stop.{Stop}

pub names_config : (place : ℕ) (k : Key) (names : List (List ℕ)) (old : LockState) (stop : Option Stop) (new : LockState) → LocksNames place k names old stop new → new.table.config ≡ old.table.config
names_config place k [] old stop new (none, same) = ap (λ (m : LockState). m.table.config) same
names_config place k (name ∷ names) old stop new (answer, mid, did, lawful, inl (on, rest)) = names_config (place + 1) k names mid stop new rest ∙ locks_config old mid k name answer did.locks
names_config place k (name ∷ names) old stop new (answer, mid, did, lawful, inr (reason, is, stopped, same)) = ap (λ (m : LockState). m.table.config) same ∙ locks_config old mid k name answer did.locks
