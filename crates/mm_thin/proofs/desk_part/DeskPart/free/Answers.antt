use Rattle.std.proofs.Common.{◌≡◌, sym, ap, ◌∙◌, arith, subst}
use Rattle.mm_thin.specs.declared.views.DeskView.{DeskView}
use Rattle.mm_thin.specs.Steps.{desk_in}
use Rattle.mm_thin.specs.Parts.{view_in}
use Rattle.mm_thin.proofs.Calls.{desk_seat, may_free}
use Rattle.mm_lists.specs.Members.{Among}
use Rattle.mm_thin.specs.declared.views.Lent.{Lent}
use Rattle.mm_thin.proofs.desk_part.DeskPart.free.Goals as goal

pub store-requires : goal.store-requires
store-requires c =
    let i = c.into_seat-seat.ensures in
    let me = c.into_seat-seat.result.me in
    let badge = c.self.inside.badge.views in
    let d = desk_in (view_in badge) in
    let seat = desk_seat badge me (ap (λ b. b.views) (sym c.replace-badge.ensures.value) ∙ i.2) i.3 c.self.invariant.0.0 in
    let known = ap (λ v. v.1) c.self.view_is in
    let key = c.requires.key in
    let below = c.requires.bucket in (
      i.0 ∙ ap (λ b. b.table_id) c.replace-badge.ensures.value ∙ ap (λ v. v.0) c.self.view_is ∙ c.requires.table,
      below,
      may_free c.args.steps.now.key c.args.steps.now.table_id.slots c.into_seat-seat.result.id c.args.bucket me d seat (omega arith)
          (subst (λ (x : DeskView). Among c.args.bucket x.fat) (sym known) c.requires.fat)
          (subst (λ (x : DeskView). (l : Lent) → Among l x.lent → l.bucket ≡ c.args.bucket → ⊥) (sym known) c.requires.not_lent) c.self.invariant.0.1,
    )
