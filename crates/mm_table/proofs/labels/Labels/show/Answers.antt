use Rattle.std.proofs.Common.{◌≤◌, map, slice_set, ap, ◌∙◌, arith}
use Rattle.std.proofs.Math.Seq.{map-set_same}
use Rattle.std.proofs.lemmas.List.{map-set}
use Rattle.mm_label.specs.Label.{Label}
use Rattle.mm_table.specs.private.Labels.{public_in}
use Rattle.mm_table.proofs.Fields.Labels.{shown_at_most, at_most_set}
use Rattle.mm_table.proofs.labels.Labels.show.Goals as goal

pub invariant_of-self : goal.invariant_of-self
invariant_of-self c =
    let inside = c.self.inside in
    let n = c.requires.shown.0 in
    let shown = shown_at_most inside.greatest.counter inside.processes.items n c.self.invariant in
    let same = ap (λ ls. (public_in ls n).counter) c.self.view_is in
    let below : c.args.label.counter ≤ inside.greatest.counter = omega (arith, shown, same, ap (λ (l : Label). l.counter) c.requires.shown.1) in
    at_most_set inside.greatest.counter inside.processes.items c.args.process (record { private = c.index_mut.result.now.private; public = c.args.label }) below c.self.invariant

pub returns-clause-private : goal.returns-clause-private
returns-clause-private c =
    let own = c.index_mut.result.now in
    map-set_same (λ l. l.private) c.self.inside.processes.items c.args.process (record own { public = c.args.label }) own (ap (λ l. l.private) c.index_mut.ensures.value) ∙ ap (map (λ l. l.private)) c.self.view_is

pub returns-clause-public : goal.returns-clause-public
returns-clause-public c =
    map-set (λ l. l.public) c.self.inside.processes.items c.args.process (record c.index_mut.result.now { public = c.args.label })
    ∙ ap (λ ls. slice_set (map (λ l. l.public) ls) c.args.process c.args.label) c.self.view_is
