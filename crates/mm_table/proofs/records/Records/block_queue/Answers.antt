use Rattle.std.proofs.Common.{◌≡◌, ◌<◌, ◌≤◌, length, refl, sym, ap, subst, ◌∙◌, arith, IsTrue}
use Rattle.std.specs.List.{list_all}
use Rattle.mm_label.specs.Label.{counter_range, process_range}
use Rattle.mm_rules.specs.TableState.{TableState, waiters_of}
use Rattle.mm_rules.specs.Change.{block_fits}
use Rattle.mm_rules.specs.Stages.{blocked_on}
use Rattle.mm_table.specs.private.Labels.{labels_under, added_each, FitUnder}
use Rattle.mm_table.proofs.Fields.Walk.{queued, queued_within}
use Rattle.mm_table.proofs.Fields.Adding.{AddsEach, adds_each, adds_queue}
use Rattle.mm_table.proofs.Fields.BlockQueue.{with_labels, blocked_under, fit_under, length_under}
use Rattle.mm_table.proofs.Fields.HandOver.{lawful_waits, once_queue}
use Rattle.mm_table.proofs.Fields.Labels.{sized_labels}
use Rattle.mm_table.proofs.records.Records.block_queue.Goals as goal

pub block_each-requires-clause-fit : goal.block_each-requires-clause-fit
block_each-requires-clause-fit c =
    let s = c.args.self.now in
    let r = c.args.resource in
    let h = c.args.holder in
    let labels = c.self.inside.labels in
    let config = c.self.invariant.sizes.config in
    let lawful = lawful_waits c.self.inside s c.self.invariant c.self.view_is c.keeps_laws.ensures in
    let same : s ≡ with_labels s labels = subst (λ (t : TableState). t ≡ with_labels t labels) c.self.view_is refl in
    let fits = subst (λ (t : TableState). IsTrue (list_all (λ w. block_fits t w.key.process h) (waiters_of s r))) same c.requires.fits in
    let limit : s.config.label_limit < counter_range = omega (arith, config.label_limit.1, ap (λ t. t.config.label_limit) c.self.view_is) in
    let many : length labels ≡ s.config.processes = c.self.invariant.sizes.labels ∙ ap (λ t. t.config.processes) c.self.view_is in
    let range : length labels ≤ process_range = omega (arith, many, config.processes, ap (λ t. t.config.processes) c.self.view_is) in
    let under = fit_under s labels h c.public-shown.result (waiters_of s r) c.public-shown.ensures c.requires.apart (once_queue s r lawful.once) fits limit range
    (λ n among. omega (arith, queued_within s r n lawful.within among, many)) in
    subst (FitUnder labels c.public-shown.result) (ap (λ t. queued t r) (sym c.self.view_is) ∙ sym c.waiters.ensures) under

pub block_each-requires-clause-sized : goal.block_each-requires-clause-sized
block_each-requires-clause-sized c = c.requires.sized ∙ sym (c.self.invariant.sizes.labels ∙ ap (λ t. t.config.processes) c.self.view_is)

pub invariant_of-self : goal.invariant_of-self
invariant_of-self c = record {
  sizes = sized_labels _ (ap length c.block_each.ensures.labels ∙ length_under c.self.inside.labels c.public-shown.result c.waiters.result) c.self.invariant.sizes;
  arrivals = c.self.invariant.arrivals;
}

pub returns-clause-state : goal.returns-clause-state
returns-clause-state c =
    let s = c.args.self.now in
    let h = c.args.holder in
    let ws = waiters_of s c.args.resource in
    let labels = c.self.inside.labels in
    let shown = c.public-shown.result in
    let all = ap (λ t. queued t c.args.resource) (sym c.self.view_is) ∙ sym c.waiters.ensures in
    let same : s ≡ with_labels s labels = subst (λ (t : TableState). t ≡ with_labels t labels) c.self.view_is refl in
    ap (λ t. with_labels t c.block_each.new.self) c.self.view_is
    ∙ ap (with_labels s) (c.block_each.ensures.labels ∙ ap (labels_under labels shown) (sym all))
    ∙ sym (ap (λ t. blocked_on t h ws) same ∙ blocked_under s labels h shown ws c.public-shown.ensures c.requires.apart)

pub returns-clause-touched : goal.returns-clause-touched
returns-clause-touched c =
    let s = c.args.self.now in
    let r = c.args.resource in
    let all = ap (λ t. queued t r) (sym c.self.view_is) ∙ sym c.waiters.ensures in
    let lawful = lawful_waits c.self.inside s c.self.invariant c.self.view_is c.keeps_laws.ensures in
    let each = adds_each (queued s r) c.args.touched.now (λ n among. omega (arith, queued_within s r n lawful.within among, c.requires.sized)) in
    adds_queue (waiters_of s r) (queued s r) c.args.touched.now c.block_each.new.touched refl
    (subst (AddsEach (queued s r) c.args.touched.now) (ap (added_each c.args.touched.now) all ∙ sym c.block_each.ensures.touched) each)
