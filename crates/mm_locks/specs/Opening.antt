-- Why locks are not opened.
use Rattle.std.specs.Prelude.{◌≡◌, ◌⊎◌}
use Rattle.mm_desk.specs.Opening.{IsMemory, IsRange}
use Rattle.mm_desk.specs.declared.opening.DeskConfig.{DeskConfig}
use Rattle.mm_desk.specs.declared.error.OpenError as desk
use Rattle.mm_locks.specs.declared.opening.LocksConfig.{LocksConfig}
use Rattle.mm_locks.specs.declared.opening.OpenError.{OpenError}
use Rattle.mm_locks.specs.declared.opening.OpenError.TheVariants.{Desk, Memory}

-- the numbers of the desk behind the lock
abbrev pub desk_config : LocksConfig → DeskConfig
desk_config config = record { manager = config.manager; buckets = config.buckets }

-- the desk is not opened, since a number is out of its range or a request for memory was refused; or a further request for memory was
abbrev pub IsRefused : OpenError → Type 0
IsRefused error = (error ≡ Memory) ⊎ ((e : desk.OpenError) × (error ≡ Desk e) × (IsRange e ⊎ IsMemory e))
