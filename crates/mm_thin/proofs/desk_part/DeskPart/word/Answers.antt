use Rattle.std.proofs.Common.{sym, ap, ◌∙◌, arith, subst}
use Rattle.mm_thin.specs.declared.views.DeskView.{DeskView}
use Rattle.mm_thin.specs.Steps.{desk_in}
use Rattle.mm_thin.specs.Parts.{view_in}
use Rattle.mm_thin.proofs.Calls.{desk_seat, may_see, word_small}
use Rattle.mm_thin.specs.Steps.{SeatState, Tells}
use Rattle.mm_thin.proofs.desk_part.DeskPart.word.Goals as goal

pub load-word-requires : goal.load-word-requires
load-word-requires c =
    let i = c.into_seat-seat.ensures in
    let me = c.into_seat-seat.result.me in
    let badge = c.self.inside.badge.views in
    let d = desk_in (view_in badge) in
    let seat = desk_seat badge me (ap (λ b. b.views) (sym c.replace-badge.ensures.value) ∙ i.2) i.3 c.self.invariant.0.0 in
    let known = ap (λ v. v.1) c.self.view_is in
    let key = c.requires.key in
    let below = c.requires.bucket in (
      i.0 ∙ ap (λ b. b.table_id) c.replace-badge.ensures.value ∙ ap (λ v. v.0) c.self.view_is ∙ c.requires.table,
      below,
      may_see c.args.steps.now.key c.args.steps.now.table_id.slots c.into_seat-seat.result.id c.args.bucket me d seat (omega arith),
    )

pub returns-clause-tells : goal.returns-clause-tells
returns-clause-tells c =
    let i = c.into_seat-seat.ensures in
    let me = c.into_seat-seat.result.me in
    let badge = c.self.inside.badge.views in
    let seat = desk_seat badge me (ap (λ b. b.views) (sym c.replace-badge.ensures.value) ∙ i.2) i.3 c.self.invariant.0.0 in
    subst (λ (x : DeskView). Tells x c.args.bucket c.load-word.result) (ap (λ (m : SeatState). desk_in m.0) seat ∙ ap (λ v. v.1) c.self.view_is) c.load-word.ensures.2.1

pub returns-clause-small : goal.returns-clause-small
returns-clause-small c =
    let i = c.into_seat-seat.ensures in
    let me = c.into_seat-seat.result.me in
    let badge = c.self.inside.badge.views in
    let seat = desk_seat badge me (ap (λ b. b.views) (sym c.replace-badge.ensures.value) ∙ i.2) i.3 c.self.invariant.0.0 in
    let range = c.self.ranges in
    word_small (desk_in (view_in badge)) c.args.bucket c.load-word.result c.self.inside.records
    (subst (λ (x : DeskView). Tells x c.args.bucket c.load-word.result) (ap (λ (m : SeatState). desk_in m.0) seat) c.load-word.ensures.2.1) c.self.invariant.1 (omega arith)
