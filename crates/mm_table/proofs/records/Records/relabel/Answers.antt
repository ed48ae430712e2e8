use Rattle.std.proofs.Common.{ap, ◌∙◌}
use Rattle.mm_table.specs.private.LabelLimit.{labelled}
use Rattle.mm_table.specs.private.Records.{owners_of, state_of_fields}
use Rattle.mm_table.proofs.Fields.Labels.{labels_written}
use Rattle.mm_table.proofs.records.Records.relabel.Goals as goal

pub returns : goal.returns
returns c =
    let inside = c.self.inside in
    ap (λ ls. state_of_fields inside.config inside.transactions ls (owners_of inside.owned) inside.totals) c.relabel.ensures
    ∙ labels_written inside.config inside.transactions inside.labels (owners_of inside.owned) inside.totals c.args.process c.args.label
    ∙ ap (λ s. labelled s c.args.process c.args.label) c.self.view_is
