-- How an office is opened.
use Rattle.std.specs.Prelude.{◌≡◌, ◌⊎◌, ◌<◌, min}
use Rattle.mm_names.specs.Hash.{hash_by}
use Rattle.mm_thin.specs.declared.config.ThinConfig.{ThinConfig}
use Rattle.mm_thin.specs.Views.{no_desk}
use Rattle.mm_thin.specs.Parts.{OfficeState}

-- a number of the configuration is out of its range
abbrev pub AreBucketsOut : ThinConfig → Type 0
AreBucketsOut config = (config.buckets ≡ 0) ⊎ (16777216 < config.buckets)

abbrev pub AreWorkersOut : ThinConfig → Type 0
AreWorkersOut config = (config.workers ≡ 0) ⊎ (65536 < config.workers)

-- an office of this many buckets, which knows of nothing, and has no worker
pub record Opens (config : ThinConfig) (o : OfficeState) : Type 0 where
  pub buckets : o.of.table.words ≡ config.buckets
  pub bytes : o.of.bytes ≡ min config.name_bytes 63
  pub hash : o.of.spread.hash ≡ hash_by config.seed
  pub desk : o.desk ≡ no_desk
  pub workers : (o.workers ≡ 0) × (o.max_workers ≡ config.workers)
