use Rattle.std.proofs.Common.{sym, ap, ◌∙◌, subst}
use Rattle.mm_thin.specs.declared.views.DeskView.{DeskView}
use Rattle.mm_thin.specs.declared.views.RecordView.{RecordView}
use Rattle.mm_thin.specs.Steps.{SeatState, desk_in, record_in}
use Rattle.mm_thin.specs.Parts.{view_in}
use Rattle.mm_thin.specs.Calls.{AreLent}
use Rattle.mm_thin.proofs.Keeps.{meets}
use Rattle.mm_thin.proofs.Calls.{both_seat, may_meet, both_apart}
use Rattle.mm_thin.proofs.record.Record.look_at_desk.Goals as goal

pub join_seat-requires : goal.join_seat-requires
join_seat-requires c =
    let other = c.into_seat.ensures in (
      ap (λ v. v.0) c.self.view_is ∙ c.requires.table,
      other.0 ∙ ap (λ b. b.table_id) c.replace-badge.ensures.value ∙ ap (λ v. v.0) c.desk.view_is ∙ c.requires.same,
      other.3,
      c.requires.some,
      meets _ _ _ _ _,
    )

pub load-requires : goal.load-requires
load-requires c =
    let j = c.join_seat.ensures in
    let me = c.self.inside.seat.me in
    let views = c.desk.inside.badge.views in
    let both = both_seat me c.into_seat.result.me c.join_seat.new.seat.me views c.self.invariant.0.0 (ap (λ k. k.views) (sym c.replace-badge.ensures.value) ∙ c.into_seat.ensures.2) c.desk.invariant.0.0 j.2 in (
      j.0 ∙ ap (λ v. v.0) c.self.view_is ∙ c.requires.table,
      c.requires.some,
      may_meet c.args.steps.now.key c.args.steps.now.table_id.slots c.join_seat.new.seat.id 0 c.join_seat.new.seat.me (record_in me.0) (desk_in (view_in views)) me.1 both,
    )

pub split_seat-requires : goal.split_seat-requires
split_seat-requires c =
    let j = c.join_seat.ensures in
    let l = c.load.ensures in
    let me = c.self.inside.seat.me in
    let views = c.desk.inside.badge.views in
    let both = both_seat me c.into_seat.result.me c.join_seat.new.seat.me views c.self.invariant.0.0 (ap (λ k. k.views) (sym c.replace-badge.ensures.value) ∙ c.into_seat.ensures.2) c.desk.invariant.0.0 j.2 in (
      l.0 ∙ j.0 ∙ ap (λ v. v.0) c.self.view_is ∙ c.requires.table,
      c.requires.some,
      both_apart _ _ c.load.new.seat.me (record_in me.0) (desk_in (view_in views)) me.1 (l.2.0 ∙ both),
    )

pub returns-clause-lent : goal.returns-clause-lent
returns-clause-lent c =
    let me = c.self.inside.seat.me in
    let views = c.desk.inside.badge.views in
    let both = both_seat me c.into_seat.result.me c.join_seat.new.seat.me views c.self.invariant.0.0 (ap (λ k. k.views) (sym c.replace-badge.ensures.value) ∙ c.into_seat.ensures.2) c.desk.invariant.0.0 c.join_seat.ensures.2 in
    subst (λ (x : RecordView × DeskView). AreLent x.0 x.1)
    (λ i. ((ap (λ (m : SeatState). record_in m.0) both ∙ ap (λ v. v.1) c.self.view_is) i, (ap (λ (m : SeatState). desk_in m.0) both ∙ ap (λ v. v.1) c.desk.view_is) i)) c.load.ensures.2.1
