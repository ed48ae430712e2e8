use Rattle.std.proofs.Common.{ℕ, List, Option}
use Rattle.mm_desk.specs.Books.{AreCounted}
use Rattle.mm_desk.specs.Tally.{IsMended}
use Rattle.mm_desk.proofs.tally.recount.Given as goal

abbrev pub invariant-loop-k : goal.invariant-loop-k
invariant-loop-k l = (mid : List (Option (List ℕ))) × IsMended l.manager.names.names l.numbers.items l.k mid × AreCounted l.spread mid l.counts.items
