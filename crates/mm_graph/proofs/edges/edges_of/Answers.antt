use Rattle.std.proofs.Common.{◌≡◌, ap, sym, subst, ◌∙◌, List, map, ◌↔◌, arith}
use Rattle.std.specs.List.{filter_map, range_with_len}
use Rattle.std.proofs.lemmas.Grind.{common_steps}
use Rattle.mm_lists.specs.Members.{Among, NoRepeat}
use Rattle.mm_rules.specs.declared.config.Config.{Config}
use Rattle.mm_graph.specs.declared.edges.Edge.{Edge}
use Rattle.mm_graph.specs.Edges.{IsEdge, edge_at}
use Rattle.mm_graph.proofs.Lemmas.Edges.{edges_more, edges_exact, edges_once}
use Rattle.mm_graph.proofs.edges.edges_of.Goals.{in-Some, in_default}
use Rattle.mm_graph.proofs.edges.edges_of.Goals as goal

pub loop-process-preserved : goal.loop-process-preserved
loop-process-preserved c =
    let more = edges_more c.args.table.now c.loop-process.process in
    elim c.match-edge_of.branch [ in-Some w ↦ grind (arith, common_steps, more) | in_default w ↦ grind (arith, common_steps, more) ]

pub returns-clause-exact : goal.returns-clause-exact
returns-clause-exact c = λ edge.
    let s = c.args.table.now in
    let all : c.loop-process.process ≡ s.config.processes = omega (arith, ap (λ (g : Config). g.processes) c.config-process-end.ensures) in
    let listed : c.loop-process.edges.items ≡ filter_map (edge_at s) (range_with_len 0 s.config.processes) =
    c.loop-process.invariant.listed ∙ ap (λ n. filter_map (edge_at s) (range_with_len 0 n)) all in
    subst (λ (edges : List Edge). Among edge edges ↔ IsEdge s edge) (sym listed) (edges_exact s c.keeps_laws.ensures edge)

pub returns-clause-once : goal.returns-clause-once
returns-clause-once c =
    subst (λ (edges : List Edge). NoRepeat (map (λ (edge : Edge). edge.waiter.process) edges)) (sym c.loop-process.invariant.listed) (edges_once c.args.table.now c.loop-process.process)
