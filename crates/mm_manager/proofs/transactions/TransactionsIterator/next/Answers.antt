use Rattle.std.proofs.Common.{◌≡◌, ◌+◌, ◌∷◌, ◌<◌, length, sym, ap, ◌∙◌, arith}
use Rattle.mm_rules.specs.declared.config.Config.{Config}
use Rattle.mm_manager.specs.Reads.{live_from}
use Rattle.mm_manager.proofs.Lemmas.Reads.{live_some, live_none}
use Rattle.mm_manager.proofs.transactions.TransactionsIterator.next.Goals as goal

pub returns-in-Some-clause-steps : goal.returns-in-Some-clause-steps
returns-in-Some-clause-steps c =
    let s = c.loop-self.self-inside.table.now in
    let p = c.loop-self.self-inside.next in
    let below : p < s.config.processes = omega (arith, c.loop-self-test.true, ap (λ (g : Config). g.processes) c.config.ensures) in
    sym c.loop-self.invariant ∙ live_some s p c.in-Some.key below (sym c.in-Some.ensures)

pub returns-in-Some-clause-goes : goal.returns-in-Some-clause-goes
returns-in-Some-clause-goes c =
    let s = c.loop-self.self-inside.table.now in
    let p = c.loop-self.self-inside.next in
    let below : p < s.config.processes = omega (arith, c.loop-self-test.true, ap (λ (g : Config). g.processes) c.config.ensures) in
    let steps : c.args.self.now ≡ c.in-Some.key ∷ live_from s (p + 1) = sym c.loop-self.invariant ∙ live_some s p c.in-Some.key below (sym c.in-Some.ensures) in
    record { on = λ _. (tt, tt, omega (arith, ap length steps)); keeps = tt; rests = λ _. tt }

pub loop-self-preserved : goal.loop-self-preserved
loop-self-preserved c =
    let s = c.loop-self.self-inside.table.now in
    let p = c.loop-self.self-inside.next in
    let below : p < s.config.processes = omega (arith, c.loop-self-test.true, ap (λ (g : Config). g.processes) c.config.ensures) in
    sym (live_none s p below (sym c.in_default.ensures)) ∙ c.loop-self.invariant
