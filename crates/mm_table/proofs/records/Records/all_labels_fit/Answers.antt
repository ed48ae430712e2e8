use Rattle.std.proofs.Common.{ap, subst, ◌<◌}
use Rattle.mm_table.proofs.Fields.Labels.{all_fit}
use Rattle.mm_table.specs.private.Labels.{public_in}
use Rattle.mm_table.proofs.records.Records.all_labels_fit.Goals as goal

pub returns : goal.returns
returns c = λ below.
    let inside = c.self.inside in
    all_fit inside c.args.self.now c.self.view_is
    (λ n. subst (λ limit. (public_in inside.labels n).counter < limit) (ap (λ s. s.config.label_limit) c.self.view_is) (c.are_below.ensures below n))
