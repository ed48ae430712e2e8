use Rattle.std.proofs.Common.{rules}
use Rattle.mm_tied.proofs.Moves.{grabbing}
use Rattle.mm_tied.proofs.lock.TiedMutex.sleep.Goals as goal

pub swap-requires : goal.swap-requires
swap-requires g c = (search rules, search rules, grabbing g.Y.Story.state g.Y.Story.makes _ _ c.loop.pass.id c.loop.pass.me)
