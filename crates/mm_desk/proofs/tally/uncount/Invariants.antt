use Rattle.std.proofs.Common.{ℕ, List, Option}
use Rattle.mm_desk.specs.Books.{AreCounted}
use Rattle.mm_desk.specs.Tally.{IsCut}
use Rattle.mm_desk.proofs.tally.uncount.Given as goal

abbrev pub invariant-loop-k : goal.invariant-loop-k
invariant-loop-k l = (mid : List (Option (List ℕ))) × IsCut l.manager.names.names l.numbers.items l.k mid × AreCounted l.spread mid l.counts.items
