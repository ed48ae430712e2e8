use Rattle.std.proofs.Common.{sym, ap, ◌∙◌, arith, subst}
use Rattle.atomic_table.specs.declared.shared.Seat.{Seat}
use Rattle.mm_board.specs.declared.views.View.{View}
use Rattle.mm_board.specs.Steps.{SeatState}
use Rattle.mm_board.specs.private.Seats.{IsReading}
use Rattle.mm_board.proofs.Calls.{publisher_splits, publisher_joins, publisher_looks, is_publishing, still_publishing, joined}
use Rattle.mm_board.proofs.publisher.Publisher.show.Goals as goal

pub split_seat-new-requires : goal.split_seat-new-requires
split_seat-new-requires g c =
    let i = c.self.invariant in
    let b = c.board.invariant in
    let n = ap (λ t. t.words) b.0 in
    (i.0 ∙ sym b.0, omega arith, publisher_splits _ _ (ap (λ (m : SeatState). m.0) i.1))

pub join_seat-requires : goal.join_seat-requires
join_seat-requires g c =
    let i = c.self.invariant in
    let b = c.board.invariant in
    let n = ap (λ t. t.words) b.0 in
    let s = c.split_seat-new.ensures in
    let v = c.replace-old.ensures.value in
    let r = c.reader.invariant in
    let reads : IsReading c.replace-old.result.me = subst (λ (t : Seat (Unit {0}) View). IsReading t.me) (sym v) r.1 in
    let publishes = is_publishing _ _ (s.2 ∙ i.1) in (
      s.0 ∙ i.0 ∙ sym b.0,
      ap (λ t. t.table_id) v ∙ r.0 ∙ sym b.0,
      ap (λ (m : SeatState). m.1) reads,
      omega arith,
      publisher_joins _ _ (ap (λ (m : SeatState). m.0) publishes) _ _ (ap (λ (m : SeatState). m.0) reads),
    )

pub load-requires : goal.load-requires
load-requires g c =
    let i = c.self.invariant in
    let b = c.board.invariant in
    let n = ap (λ t. t.words) b.0 in
    let s = c.split_seat-new.ensures in
    let j = c.join_seat.ensures in
    let met = joined c.self.inside.seat.me _ _ c.replace-old.result.me i.1 s.2 j.2 in
    (j.0 ∙ s.0 ∙ i.0 ∙ sym b.0, omega arith, publisher_looks _ _ _ _ (still_publishing _ _ _ i.1 met))
