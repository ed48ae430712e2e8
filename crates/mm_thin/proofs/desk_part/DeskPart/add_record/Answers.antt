use Rattle.std.proofs.Common.{sym, ap, ◌∙◌, arith}
use Rattle.mm_thin.specs.Views.{new_record, more_records}
use Rattle.mm_thin.specs.Steps.{desk_in}
use Rattle.mm_thin.specs.Parts.{view_in}
use Rattle.mm_thin.proofs.Calls.{desk_seat, may_make, both_apart, made_so}
use Rattle.mm_thin.proofs.desk_part.DeskPart.add_record.Goals as goal

pub load-requires : goal.load-requires
load-requires c =
    let i = c.into_seat-seat.ensures in
    let me = c.into_seat-seat.result.me in
    let badge = c.self.inside.badge.views in
    let d = desk_in (view_in badge) in
    let seat = desk_seat badge me (ap (λ b. b.views) (sym c.replace-badge.ensures.value) ∙ i.2) i.3 c.self.invariant.0.0 in
    let known = ap (λ v. v.1.records) c.self.view_is in
    let room = c.requires.room in
    let key = c.requires.key in
    let some = c.requires.some in (
      i.0 ∙ ap (λ b. b.table_id) c.replace-badge.ensures.value ∙ ap (λ v. v.0) c.self.view_is ∙ c.requires.table,
      some,
      may_make c.args.steps.now.key c.args.steps.now.table_id.slots c.into_seat-seat.result.id 0 me d seat (omega arith) (omega arith),
    )

pub split_seat-requires : goal.split_seat-requires
split_seat-requires c =
    let i = c.into_seat-seat.ensures in
    let me = c.into_seat-seat.result.me in
    let badge = c.self.inside.badge.views in
    let d = desk_in (view_in badge) in
    let seat = desk_seat badge me (ap (λ b. b.views) (sym c.replace-badge.ensures.value) ∙ i.2) i.3 c.self.invariant.0.0 in
    let l = c.load.ensures in
    let made = made_so c.args.steps.now.table_id.slots 0 c.load.result d me c.load.new.seat.me seat l.2 in (
      l.0 ∙ i.0 ∙ ap (λ b. b.table_id) c.replace-badge.ensures.value ∙ ap (λ v. v.0) c.self.view_is ∙ c.requires.table,
      c.requires.some,
      both_apart _ _ c.load.new.seat.me (new_record d.records) (more_records d) _ made.1,
    )
