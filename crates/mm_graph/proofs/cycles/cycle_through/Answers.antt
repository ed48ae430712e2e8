use Rattle.std.proofs.Common.{◌≡◌, ◌∷◌, ◌++◌, ◌≤◌, [], Some, length, refl, ap, sym, subst, ◌∙◌, rules, arith}
use Rattle.mm_rules.specs.TableState.{graph_of}
use Rattle.mm_rules.specs.Graph.{Cycle, WaitsFor}
use Rattle.mm_rules.specs.declared.config.Config.{Config}
use Rattle.mm_graph.proofs.Lemmas.Walks.{Avoids, avoids_more, closes, ends_apart, goes_round}
use Rattle.mm_graph.proofs.cycles.cycle_through.Goals as goal

pub returns-in_default-clause-exact : goal.returns-in_default-clause-exact
returns-in_default-clause-exact c = (
  λ never. absurd (search rules),
  λ on. absurd (ends_apart (graph_of c.args.table.now) c.args.process c.loop-holder.members.items c.loop-holder.place c.loop-holder.invariant.walk (sym c.in_default.ensures.holder) on.0 on.1),
)

pub returns-then-holder-process-clause-found : goal.returns-then-holder-process-clause-found
returns-then-holder-process-clause-found c = λ _.
    let waits : WaitsFor (graph_of c.args.table.now) c.loop-holder.place c.args.process = sym c.in-Some.ensures.holder ∙ ap Some c.if-holder-process.true in
    let items : c.push_reserved.new.self.items ≡ c.loop-holder.members.items ++ c.args.process ∷ [] = c.push_reserved.ensures.items ∙ ap (λ h. c.loop-holder.members.items ++ h ∷ []) c.if-holder-process.true in
    subst (Cycle (graph_of c.args.table.now) c.args.process) (sym items) (closes (graph_of c.args.table.now) c.args.process c.loop-holder.members.items c.loop-holder.place c.loop-holder.invariant.walk waits)

pub returns-then-holder-process-clause-exact : goal.returns-then-holder-process-clause-exact
returns-then-holder-process-clause-exact c =
    let waits : WaitsFor (graph_of c.args.table.now) c.loop-holder.place c.args.process = sym c.in-Some.ensures.holder ∙ ap Some c.if-holder-process.true in
    (λ _. (c.loop-holder.members.items ++ c.args.process ∷ [], closes (graph_of c.args.table.now) c.args.process c.loop-holder.members.items c.loop-holder.place c.loop-holder.invariant.walk waits), λ _. refl)

pub loop-holder-preserved : goal.loop-holder-preserved
loop-holder-preserved c =
    let walk =
    avoids_more (graph_of c.args.table.now) c.args.process c.loop-holder.members.items c.loop-holder.place c.in-Some.holder c.loop-holder.invariant.walk (sym c.in-Some.ensures.holder) c.if-holder-process.false in
    record {
      walk = subst (λ places. Avoids (graph_of c.args.table.now) c.args.process places c.in-Some.holder) (sym c.push_reserved.ensures.items) walk;
      room = c.push_reserved.ensures.capacity ∙ c.loop-holder.invariant.room;
    }

pub returns-clause-exact : goal.returns-clause-exact
returns-clause-exact c =
    let long : c.args.table.now.config.processes ≤ length c.loop-holder.members.items = omega (arith, ap (λ (g : Config). g.processes) c.config-processes.ensures) in
    (λ never. absurd (search rules), λ on. absurd (goes_round c.args.table.now c.keeps_laws.ensures c.args.process c.loop-holder.members.items c.loop-holder.place c.loop-holder.invariant.walk long on))
