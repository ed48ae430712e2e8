use Rattle.mm_rules.proofs.States.Adopt.{adopt_keeps_graph}
use Rattle.mm_rules.proofs.laws.adopt_keeps_graph.Goals as goal

pub returns : goal.returns
returns c = adopt_keeps_graph
