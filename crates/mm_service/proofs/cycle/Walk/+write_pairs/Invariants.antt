use Rattle.mm_service.proofs.cycle.Walk.+write_pairs.Given as goal

abbrev pub decreases-write_pairs : goal.decreases-write_pairs
decreases-write_pairs g l = l.self.left
