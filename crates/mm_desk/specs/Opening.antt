-- Why a desk is not opened.
use Rattle.std.specs.Prelude.{◌≡◌, ◌⊎◌, ◌<◌}
use Rattle.mm_manager.specs.declared.refusal.OpenError.TheVariants as manager
use Rattle.mm_thin.specs.declared.config.OpenError.TheVariants as office
use Rattle.mm_desk.specs.declared.error.OpenError.{OpenError}
use Rattle.mm_desk.specs.declared.error.OpenError.TheVariants.{Manager, Office, Memory}
use Rattle.mm_desk.specs.declared.opening.DeskConfig.{DeskConfig}
use Rattle.mm_thin.specs.declared.config.ThinConfig.{ThinConfig}

-- the numbers of the words: as many workers as transactions, and the manager's seed
abbrev pub thin_config : DeskConfig → ThinConfig
thin_config config = record { buckets = config.buckets; workers = config.manager.transactions; name_bytes = config.manager.name_bytes; seed = config.manager.seed }

-- there are to be no buckets, or too many
abbrev pub AreBucketsOut : DeskConfig → Type 0
AreBucketsOut config = (config.buckets ≡ 0) ⊎ (16777216 < config.buckets)

-- a request for memory was refused
abbrev pub IsMemory : OpenError → Type 0
IsMemory error = (error ≡ Memory) ⊎ (error ≡ Manager manager.Memory) ⊎ (error ≡ Office office.Memory)

-- a number is out of its range
abbrev pub IsRange : OpenError → Type 0
IsRange error = (error ≡ Office office.Buckets) ⊎ (error ≡ Manager manager.Transactions) ⊎ (error ≡ Manager manager.Names) ⊎ (error ≡ Manager manager.NameBytes)
