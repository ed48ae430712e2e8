use Rattle.std.proofs.Common.{◌<◌, length, sym, ap, ◌∙◌, arith}
use Rattle.mm_rules.specs.TableState.{waiters_of}
use Rattle.mm_table.proofs.Fields.Walk.{queued, walks_on, walks_among, walks_through, queued_within}
use Rattle.mm_table.proofs.Fields.Adding.{adds_none, adds_one, adds_queue}
use Rattle.mm_table.proofs.Fields.HandOver.{lawful_waits}
use Rattle.mm_table.proofs.records.Records.add_queue.Goals as goal

pub loop-process-init : goal.loop-process-init
loop-process-init c = record {
  walked = ap (λ s. queued s c.args.resource) (sym c.self.view_is) ∙ sym c.waiters-process-items.ensures ∙ sym c.into_iter-process-iterator.ensures.into_iter_gives;
  added = adds_none c.args.set.now;
}

pub add-requires : goal.add-requires
add-requires c =
    let s = c.args.self.now in
    let all = queued s c.args.resource in
    let among = walks_among all c.loop-process.yielded c.loop-process.process-iterator c.loop-process.invariant.walked c.in-Some.process c.next.new.self c.in-Some.ensures.steps in
    let lawful = lawful_waits c.self.inside s c.self.invariant c.self.view_is c.keeps_laws.ensures in
    omega (arith, queued_within s c.args.resource c.in-Some.process lawful.within among, c.loop-process.invariant.added.sized, c.requires.sized)

pub loop-process-preserved : goal.loop-process-preserved
loop-process-preserved c =
    let s = c.args.self.now in
    let all = queued s c.args.resource in
    let among = walks_among all c.loop-process.yielded c.loop-process.process-iterator c.loop-process.invariant.walked c.in-Some.process c.next.new.self c.in-Some.ensures.steps in
    let lawful = lawful_waits c.self.inside s c.self.invariant c.self.view_is c.keeps_laws.ensures in
    let within : c.in-Some.process < length c.loop-process.set = omega (arith, queued_within s c.args.resource c.in-Some.process lawful.within among, c.loop-process.invariant.added.sized, c.requires.sized) in
    record {
      walked = walks_on all c.loop-process.yielded c.loop-process.process-iterator c.loop-process.invariant.walked c.in-Some.process c.next.new.self c.in-Some.ensures.steps;
      added = adds_one c.loop-process.yielded c.in-Some.process c.args.set.now c.loop-process.set c.add.new.self c.loop-process.invariant.added within c.add.ensures;
    }

pub returns : goal.returns
returns c =
    let all = queued c.args.self.now c.args.resource in
    adds_queue (waiters_of c.args.self.now c.args.resource) c.loop-process.yielded c.args.set.now c.loop-process.set
    (walks_through all c.loop-process.yielded c.loop-process.process-iterator c.loop-process.invariant.walked c.in-None.ensures.steps.0) c.loop-process.invariant.added
