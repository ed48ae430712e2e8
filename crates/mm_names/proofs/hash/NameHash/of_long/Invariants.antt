use Rattle.std.proofs.Common.{◌≡◌}
use Rattle.mm_names.specs.Hash.{after_blocks}
use Rattle.mm_names.proofs.hash.NameHash.of_long.Given as goal

abbrev pub invariant-loop-block : goal.invariant-loop-block
invariant-loop-block l = l.state ≡ after_blocks l.self l.name l.block
