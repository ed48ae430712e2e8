use Rattle.mm_tied.proofs.Moves.{closes}
use Rattle.mm_tied.proofs.lock.TiedMutex.close.Goals as goal

pub returns-then-word-eq0 : goal.returns-then-word-eq0
returns-then-word-eq0 g c =
    closes g.Y.Story.state g.Y.Story.makes (g.Y.Story.state c.args.self.table.shared.key.value) _ _ c.args.pass.id c.word-word.result c.args.pass.me.0 c.take-value.result c.close_with-closed.ensures.values.2 c.word-word.ensures c.if-word-eq0.true
    c.take-value.ensures.value
