use Rattle.std.proofs.Common.{◌≡◌, ◌∷◌, refl, sym, ap, subst, ◌∙◌, inl}
use Rattle.mm_lists.specs.Members.{Among}
use Rattle.mm_table.proofs.Fields.Walk.{queued, walks_among, queued_within}
use Rattle.mm_table.proofs.Fields.HandOver.{lawful_waits, fits_behind}
use Rattle.mm_table.proofs.Fields.Labels.{hand_over_then_fits}
use Rattle.mm_table.proofs.records.Records.hand_over_fits.Goals as goal

pub returns-then-all_labels_fit : goal.returns-then-all_labels_fit
returns-then-all_labels_fit c = sym (hand_over_then_fits c.args.self.now c.args.resource (c.all_labels_fit.ensures c.if-all_labels_fit.true))

pub loop-process-init : goal.loop-process-init
loop-process-init c =
    let s = c.args.self.now in
    let r = c.args.resource in
    let others = c.into_iter-process-iterator.result in
    let waiters = ap (λ t. queued t r) (sym c.self.view_is) ∙ sym c.waiters-waiters.ensures in
    let all : queued s r ≡ c.in-Some.first ∷ others = waiters ∙ c.in-Some.ensures.steps ∙ ap (λ rest. c.in-Some.first ∷ rest) (sym c.into_iter-process-iterator.ensures.into_iter_gives) in
    record { walked = all; fits = fits_behind s r c.in-Some.first others all }

pub label_against-requires-clause-process : goal.label_against-requires-clause-process
label_against-requires-clause-process c =
    let s = c.args.self.now in
    let r = c.args.resource in
    let lawful = lawful_waits c.self.inside s c.self.invariant c.self.view_is c.keeps_laws.ensures in
    queued_within s r c.in-Some-process.process lawful.within
    (walks_among (queued s r) (c.in-Some.first ∷ c.loop-process.yielded) c.loop-process.process-iterator c.loop-process.invariant.walked c.in-Some-process.process c.next-in-loop-process.new.self c.in-Some-process.ensures.steps)

pub label_against-requires-clause-holder : goal.label_against-requires-clause-holder
label_against-requires-clause-holder c =
    let s = c.args.self.now in
    let r = c.args.resource in
    let lawful = lawful_waits c.self.inside s c.self.invariant c.self.view_is c.keeps_laws.ensures in
    queued_within s r c.in-Some.first lawful.within (subst (Among c.in-Some.first) (sym c.loop-process.invariant.walked) (inl refl))
