use Rattle.std.proofs.Common.{sym, ap, ◌∙◌, arith, subst}
use Rattle.mm_thin.specs.declared.views.DeskView.{DeskView}
use Rattle.mm_thin.specs.Steps.{desk_in}
use Rattle.mm_thin.specs.Parts.{view_in}
use Rattle.mm_thin.proofs.Calls.{desk_seat, may_thin}
use Rattle.mm_lists.specs.Members.{Among}
use Rattle.mm_thin.specs.Views.{loan}
use Rattle.mm_thin.proofs.desk_part.DeskPart.thin_again.Goals as goal

pub compare_exchange-word-requires : goal.compare_exchange-word-requires
compare_exchange-word-requires c =
    let i = c.into_seat-seat.ensures in
    let me = c.into_seat-seat.result.me in
    let badge = c.self.inside.badge.views in
    let d = desk_in (view_in badge) in
    let seat = desk_seat badge me (ap (λ b. b.views) (sym c.replace-badge.ensures.value) ∙ i.2) i.3 c.self.invariant.0.0 in
    let known = ap (λ v. v.1) c.self.view_is in
    let key = c.requires.key in
    let below = c.requires.bucket in (
      i.0 ∙ ap (λ b. b.table_id) c.replace-badge.ensures.value ∙ ap (λ v. v.0) c.self.view_is ∙ c.requires.table,
      below,
      (let from = c.from.ensures in
          may_thin c.args.steps.now.key c.args.steps.now.table_id.slots c.into_seat-seat.result.id c.args.bucket me d seat (omega arith) c.args.number c.requires.lent.0 _ (omega arith) (subst (λ (x : DeskView). Among (loan c.args.bucket c.args.number c.requires.lent.0) x.lent) (sym known) c.requires.lent.1) c.self.invariant.0.1),
    )
