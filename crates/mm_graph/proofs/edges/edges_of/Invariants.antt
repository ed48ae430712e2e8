use Rattle.std.proofs.Common.{◌≡◌, ◌≤◌, length, vec_capacity}
use Rattle.std.specs.List.{filter_map, range_with_len}
use Rattle.mm_graph.specs.Edges.{edge_at}
use Rattle.mm_graph.proofs.edges.edges_of.Given as goal

abbrev pub invariant-loop-process : goal.invariant-loop-process
invariant-loop-process l = record {
  listed : l.edges.items ≡ filter_map (edge_at l.table) (range_with_len 0 l.process);
  few : length l.edges.items ≤ l.process;
  room : vec_capacity l.edges ≡ vec_capacity l.fn.edges;
}
