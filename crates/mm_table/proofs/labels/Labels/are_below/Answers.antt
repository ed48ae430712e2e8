use Rattle.std.proofs.Common.{◌<◌, List, subst, arith}
use Rattle.std.proofs.lemmas.Bool.{ltb-true}
use Rattle.mm_table.specs.declared.labels.ProcessLabels.{ProcessLabels}
use Rattle.mm_table.specs.private.Labels.{public_in}
use Rattle.mm_table.proofs.Fields.Labels.{shown_at_most}
use Rattle.mm_table.proofs.labels.Labels.are_below.Goals as goal

pub returns : goal.returns
returns c = λ below n.
    let inside = c.self.inside in
    let shown = shown_at_most inside.greatest.counter inside.processes.items n c.self.invariant in
    let less = ltb-true c.counter.result c.args.counter below in
    subst (λ (ls : List ProcessLabels). (public_in ls n).counter < c.args.counter) c.self.view_is (omega (arith, shown, less, c.counter.ensures))
