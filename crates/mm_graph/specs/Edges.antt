-- The edges of the wait-for graph of a table.
use Rattle.std.specs.Prelude.{◌≡◌, ℕ, Option, Some, option_map, option_and_then}
use Rattle.mm_lists.specs.Members.{Among}
use Rattle.mm_rules.specs.TableState.{TableState, key_of, owner_of, wait_of}
use Rattle.mm_graph.specs.declared.edges.Edge.{Edge}

-- the edge is a wait of the table, with the owner of what is waited for
pub record IsEdge (s : TableState) (edge : Edge) : Type 0 where
  pub waits : Among (record { key = edge.waiter; resource = edge.resource }) s.waits
  pub held : owner_of s edge.resource ≡ Some edge.holder

-- the edge of process n, if it waits for r
abbrev pub edge_over : TableState → ℕ → ℕ → Option Edge
edge_over s n r = option_map (λ h. record { waiter = key_of s n; resource = r; holder = h }) (owner_of s r)

-- the edge of process n, if it waits
abbrev pub edge_at : TableState → ℕ → Option Edge
edge_at s n = option_and_then (edge_over s n) (wait_of s n)
