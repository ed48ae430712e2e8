use Rattle.std.proofs.Common.{◌≡◌, ◌+◌, ◌∷◌, ◌<◌, length, sym, ap, ◌∙◌, arith}
use Rattle.mm_rules.specs.declared.config.Config.{Config}
use Rattle.mm_manager.specs.Reads.{waits_from}
use Rattle.mm_manager.proofs.Lemmas.Reads.{waits_some, waits_none}
use Rattle.mm_manager.proofs.graph.GraphIterator.next.Goals as goal

pub returns-in-Some-clause-steps : goal.returns-in-Some-clause-steps
returns-in-Some-clause-steps c =
    let s = c.loop-self.self-inside.table.now in
    let p = c.loop-self.self-inside.next in
    let below : p < s.config.processes = omega (arith, c.loop-self-test.true, ap (λ (g : Config). g.processes) c.config.ensures) in
    sym c.loop-self.invariant ∙ waits_some s p c.in-Some.wait below (sym c.in-Some.ensures)

pub returns-in-Some-clause-goes : goal.returns-in-Some-clause-goes
returns-in-Some-clause-goes c =
    let s = c.loop-self.self-inside.table.now in
    let p = c.loop-self.self-inside.next in
    let below : p < s.config.processes = omega (arith, c.loop-self-test.true, ap (λ (g : Config). g.processes) c.config.ensures) in
    let steps : c.args.self.now ≡ c.in-Some.wait ∷ waits_from s (p + 1) = sym c.loop-self.invariant ∙ waits_some s p c.in-Some.wait below (sym c.in-Some.ensures) in
    record { on = λ _. (tt, tt, omega (arith, ap length steps)); keeps = tt; rests = λ _. tt }

pub loop-self-preserved : goal.loop-self-preserved
loop-self-preserved c =
    let s = c.loop-self.self-inside.table.now in
    let p = c.loop-self.self-inside.next in
    let below : p < s.config.processes = omega (arith, c.loop-self-test.true, ap (λ (g : Config). g.processes) c.config.ensures) in
    sym (waits_none s p below (sym c.in_default.ensures)) ∙ c.loop-self.invariant
