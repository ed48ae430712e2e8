use Rattle.std.proofs.Common.{sym, ap, ◌∙◌, arith}
use Rattle.mm_thin.specs.Steps.{desk_in}
use Rattle.mm_thin.specs.Parts.{view_in}
use Rattle.mm_thin.proofs.Calls.{desk_seat, may_look}
use Rattle.mm_thin.proofs.desk_part.DeskPart.look.Goals as goal

pub load-word-requires : goal.load-word-requires
load-word-requires c =
    let i = c.into_seat-seat.ensures in
    let me = c.into_seat-seat.result.me in
    let badge = c.self.inside.badge.views in
    let d = desk_in (view_in badge) in
    let seat = desk_seat badge me (ap (λ b. b.views) (sym c.replace-badge.ensures.value) ∙ i.2) i.3 c.self.invariant.0.0 in
    let known = ap (λ v. v.1) c.self.view_is in
    let key = c.requires.key in
    let below = c.requires.bucket in (
      i.0 ∙ ap (λ b. b.table_id) c.replace-badge.ensures.value ∙ ap (λ v. v.0) c.self.view_is ∙ c.requires.table,
      below,
      may_look c.args.steps.now.key c.args.steps.now.table_id.slots c.into_seat-seat.result.id c.args.bucket me d seat (omega arith),
    )
