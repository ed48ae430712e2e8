use Rattle.std.proofs.Common.{◌≡◌, ◌-◌, length, vec_capacity}
use Rattle.mm_rules.specs.TableState.{graph_of}
use Rattle.mm_graph.proofs.Lemmas.Walks.{Avoids}
use Rattle.mm_graph.proofs.cycles.cycle_through.Given as goal

abbrev pub invariant-loop-holder : goal.invariant-loop-holder
invariant-loop-holder l = record {
  walk : Avoids (graph_of l.table) l.process l.members.items l.place;
  room : vec_capacity l.members ≡ vec_capacity l.fn.members;
}

abbrev pub decreases-loop-holder : goal.decreases-loop-holder
decreases-loop-holder l = l.table.config.processes - length l.members.items
