use Rattle.std.proofs.Common.{◌≡◌, sym, ap, ◌∙◌, subst}
use Rattle.mm_thin.specs.declared.views.RecordView.{RecordView}
use Rattle.mm_thin.specs.Steps.{SeatState, record_in, others_of}
use Rattle.mm_thin.specs.Calls.{AreApart}
use Rattle.mm_thin.proofs.Keeps.{meets, blanks}
use Rattle.mm_thin.proofs.Calls.{both_records, may_records_meet, records_apart, record_placed}
use Rattle.mm_thin.proofs.record.Record.look_at.Goals as goal

pub split_seat-blank-requires : goal.split_seat-blank-requires
split_seat-blank-requires c = (ap (λ v. v.0) c.self.view_is ∙ c.requires.table, c.requires.some, blanks _ _ _)

pub join_seat-requires : goal.join_seat-requires
join_seat-requires c =
    let one = c.self.inside.seat.me in
    let other = c.other.inside.seat.me in
    let b = c.split_seat-blank.ensures in
    let value = c.replace-seat.ensures.value in
    let has = ap (λ v. v.1.taken) c.other.view_is ∙ c.requires.taken.1 in
    let placed = record_placed other c.requires.taken.0 c.other.invariant.0.0 c.other.invariant.0.1 has in (
      b.0 ∙ ap (λ v. v.0) c.self.view_is ∙ c.requires.table,
      ap (λ s. s.table_id) value ∙ ap (λ v. v.0) c.other.view_is ∙ c.requires.same,
      ap (λ s. s.me.1) value ∙ ap (λ (m : SeatState). m.1) placed,
      c.requires.some,
      meets _ _ _ _ _,
    )

pub load-requires : goal.load-requires
load-requires c =
    let one = c.self.inside.seat.me in
    let other = c.other.inside.seat.me in
    let b = c.split_seat-blank.ensures in
    let value = c.replace-seat.ensures.value in
    let differ = λ (same : (record_in one.0).number ≡ (record_in other.0).number). c.requires.differ (ap (λ v. v.1.number) (sym c.self.view_is) ∙ same ∙ ap (λ v. v.1.number) c.other.view_is) in
    let j = c.join_seat.ensures in
    let both = both_records one c.split_seat-blank.new.seat.me other c.replace-seat.result.me c.join_seat.new.seat.me b.2 c.self.invariant.0.0 (ap (λ s. s.me) value) c.other.invariant.0.0 j.2 in
    (j.0 ∙ b.0 ∙ ap (λ v. v.0) c.self.view_is ∙ c.requires.table, c.requires.some, may_records_meet _ _ _ 0 c.join_seat.new.seat.me (record_in one.0) (record_in other.0) one.1 both differ)

pub split_seat-requires : goal.split_seat-requires
split_seat-requires c =
    let one = c.self.inside.seat.me in
    let other = c.other.inside.seat.me in
    let b = c.split_seat-blank.ensures in
    let value = c.replace-seat.ensures.value in
    let differ = λ (same : (record_in one.0).number ≡ (record_in other.0).number). c.requires.differ (ap (λ v. v.1.number) (sym c.self.view_is) ∙ same ∙ ap (λ v. v.1.number) c.other.view_is) in
    let j = c.join_seat.ensures in
    let both = both_records one c.split_seat-blank.new.seat.me other c.replace-seat.result.me c.join_seat.new.seat.me b.2 c.self.invariant.0.0 (ap (λ s. s.me) value) c.other.invariant.0.0 j.2 in
    let l = c.load.ensures in
    (l.0 ∙ j.0 ∙ b.0 ∙ ap (λ v. v.0) c.self.view_is ∙ c.requires.table, c.requires.some, records_apart _ _ c.load.new.seat.me (record_in one.0) (record_in other.0) one.1 (l.2.0 ∙ both) differ)

pub returns-clause-apart : goal.returns-clause-apart
returns-clause-apart c =
    let one = c.self.inside.seat.me in
    let other = c.other.inside.seat.me in
    let b = c.split_seat-blank.ensures in
    let value = c.replace-seat.ensures.value in
    let j = c.join_seat.ensures in
    let both = both_records one c.split_seat-blank.new.seat.me other c.replace-seat.result.me c.join_seat.new.seat.me b.2 c.self.invariant.0.0 (ap (λ s. s.me) value) c.other.invariant.0.0 j.2 in
    let first = ap (λ (m : SeatState). record_in m.0) both ∙ ap (λ v. v.1) c.self.view_is in
    let second = ap (λ (m : SeatState). record_in (others_of m.0)) both ∙ ap (λ v. v.1) c.other.view_is in
    subst (λ (x : RecordView × RecordView). AreApart x.0 x.1) (λ k. (first k, second k)) c.load.ensures.2.1
