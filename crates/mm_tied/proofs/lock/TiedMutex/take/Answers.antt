use Rattle.std.proofs.Common.{rules}
use Rattle.mm_tied.proofs.Moves.{taking}
use Rattle.mm_tied.proofs.lock.TiedMutex.take.Goals as goal

pub compare_exchange-requires : goal.compare_exchange-requires
compare_exchange-requires g c = (search rules, search rules, taking g.Y.Story.state g.Y.Story.makes _ _ c.args.pass.now.id c.args.pass.now.me)
