use Rattle.mm_arena.proofs.Lemmas.RemovedIsNeverLive as removed
use Rattle.mm_arena.proofs.laws.removed_is_never_live.Goals as goal

pub returns : goal.returns
returns g c = removed.removed_is_never_live
