use Rattle.std.proofs.Common.{◌≡◌, ◌<◌, ℕ, false}
use Rattle.mm_lists.specs.Members.{Among}
use Rattle.mm_desk.specs.Calls.{KeepsFat}
use Rattle.mm_desk.proofs.desk.Desk.adopt_all.Given as goal

-- the buckets before this one are fat, unless one was changed meanwhile
abbrev pub invariant-loop-bucket : goal.invariant-loop-bucket
invariant-loop-bucket l = KeepsFat l.fn.self l.self × (l.is_changed ≡ false → (b : ℕ) → b < l.bucket → Among b l.self.office.desk.fat)
