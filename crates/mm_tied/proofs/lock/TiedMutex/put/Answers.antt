use Rattle.std.proofs.Common.{arith}
use Rattle.mm_tied.proofs.Moves.{puts_so}
use Rattle.mm_tied.proofs.lock.TiedMutex.put.Goals as goal

pub put_told-requires-clause-told : goal.put_told-requires-clause-told
put_told-requires-clause-told g c = puts_so g.Y.Story.state g.Y.Story.makes _ 1 c.args.pass.now.id c.args.pass.now.me g.N.Events.events (omega arith) c.requires.made

pub returns-clause-hands : goal.returns-clause-hands
returns-clause-hands g c = c.put_told.ensures.told.1

pub returns-clause-extends : goal.returns-clause-extends
returns-clause-extends g c = c.put_told.ensures.told.0
