use Rattle.std.proofs.Common.{ap, ◌∙◌}
use Rattle.mm_thin.specs.Steps.{record_in}
use Rattle.mm_thin.proofs.Calls.{record_placed, may_let_go}
use Rattle.mm_thin.proofs.record.Record.let_go.Goals as goal

pub compare_exchange-word-requires : goal.compare_exchange-word-requires
compare_exchange-word-requires c =
    let i = c.self.invariant in
    let me = c.self.inside.seat.me in
    let has = ap (λ v. v.1.taken) c.self.view_is ∙ c.requires.taken in (
      ap (λ v. v.0) c.self.view_is ∙ c.requires.table,
      c.requires.bucket,
      may_let_go c.args.steps.now.key c.args.steps.now.table_id.slots c.self.inside.seat.id c.args.bucket me (record_in me.0) (record_placed me c.args.bucket i.0.0 i.0.1 has) has,
    )
