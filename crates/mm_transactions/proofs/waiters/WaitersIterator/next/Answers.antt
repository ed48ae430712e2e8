use Rattle.std.proofs.Common.{◌≡◌, ◌∷◌, length, sym, ap, subst, ◌∙◌, arith}
use Rattle.mm_transactions.specs.private.Walk.{StandsAt, processes_from}
use Rattle.mm_transactions.proofs.Lemmas.Walk.{stands_waits, steps_to, yields}
use Rattle.mm_transactions.proofs.waiters.WaitersIterator.next.Goals as goal

pub next_waiter-self-inside-requires : goal.next_waiter-self-inside-requires
next_waiter-self-inside-requires c =
    let waits = c.self.inside.transactions.now.waits in
    stands_waits waits c.self.inside.resource c.in_ok-process.process (subst (StandsAt waits c.self.inside.resource) c.in_ok-process.was c.self.invariant)

pub invariant_of-self : goal.invariant_of-self
invariant_of-self c =
    let waits = c.self.inside.transactions.now.waits in
    steps_to waits c.self.inside.resource c.in_ok-process.process (subst (StandsAt waits c.self.inside.resource) c.in_ok-process.was c.self.invariant)
    c.next_waiter-self-inside.result c.next_waiter-self-inside.ensures

pub returns-clause-steps : goal.returns-clause-steps
returns-clause-steps c =
    let waits = c.self.inside.transactions.now.waits in
    let r = c.self.inside.resource in
    sym c.self.view_is ∙ ap (processes_from waits r) c.in_ok-process.was
    ∙ yields waits r c.in_ok-process.process (subst (StandsAt waits r) c.in_ok-process.was c.self.invariant) c.next_waiter-self-inside.result c.next_waiter-self-inside.ensures

pub returns-clause-goes : goal.returns-clause-goes
returns-clause-goes c =
    let waits = c.self.inside.transactions.now.waits in
    let r = c.self.inside.resource in
    let n = c.in_ok-process.process in
    let next = c.next_waiter-self-inside.result in
    let steps : c.args.self.now ≡ n ∷ processes_from waits r next = sym c.self.view_is ∙ ap (processes_from waits r) c.in_ok-process.was
    ∙ yields waits r n (subst (StandsAt waits r) c.in_ok-process.was c.self.invariant) next c.next_waiter-self-inside.ensures in
    record { on = λ _. (tt, tt, omega (arith, ap length steps)); keeps = tt; rests = λ _. tt }
