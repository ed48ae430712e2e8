use Rattle.std.proofs.Common.{◌≡◌, take}
use Rattle.mm_locks.specs.Calls.{HandsEachOver}
use Rattle.mm_locks.proofs.hall.Hall.unlock_portion.Given as goal

-- the names of the first numbers were handed over
abbrev pub invariant-loop-k : goal.invariant-loop-k
invariant-loop-k l = record {
  room : l.self.room ≡ l.initial.self.room;
  over : HandsEachOver l.fn.self.desk l.at (take l.k l.initial.self.room.numbers.items) l.self.desk;
}
