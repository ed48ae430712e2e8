-- What the calls for all buckets do.
use Rattle.std.specs.Prelude.{ℕ, ◌<◌}
use Rattle.mm_lists.specs.Members.{Among}
use Rattle.mm_desk.specs.Books.{names_in}
use Rattle.mm_desk.specs.Desk.{DeskState}
use Rattle.mm_desk.specs.declared.reply.Adopted.{Adopted}
use Rattle.mm_desk.specs.declared.reply.Adopted.TheVariants.{Fat, Changed, Refused}

-- each bucket below this one is fat, unless one was changed meanwhile, or a name was refused
abbrev pub AdoptsBelow : ℕ → Adopted → DeskState → Type 0
AdoptsBelow n Fat new = (b : ℕ) → b < n → Among b new.office.desk.fat
AdoptsBelow n Changed new = Unit {0}
AdoptsBelow n (Refused refusal) new = Unit {0}

-- the manager has a name of the bucket, if it is fat
abbrev pub IsUsed : DeskState → ℕ → Type 0
IsUsed d b = Among b d.office.desk.fat → 0 < names_in d.office.of.spread d.manager.names.names b

-- a bucket is freed if it can be, and none becomes fat
pub record FreesUnused (old : DeskState) (bucket : ℕ) (new : DeskState) : Type 0 where
  pub used : IsUsed new bucket
  pub fewer : (b : ℕ) → Among b new.office.desk.fat → Among b old.office.desk.fat

-- so is each bucket below this one
pub record FreesBelow (old : DeskState) (n : ℕ) (new : DeskState) : Type 0 where
  pub used : (b : ℕ) → b < n → IsUsed new b
  pub fewer : (b : ℕ) → Among b new.office.desk.fat → Among b old.office.desk.fat
