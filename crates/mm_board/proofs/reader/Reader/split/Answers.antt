use Rattle.std.proofs.Common.{sym, ap, ◌∙◌, arith}
use Rattle.mm_board.specs.Steps.{SeatState}
use Rattle.mm_board.proofs.Calls.{reader_splits}
use Rattle.mm_board.proofs.reader.Reader.split.Goals as goal

pub split_seat-requires : goal.split_seat-requires
split_seat-requires g c =
    let i = c.self.invariant in
    let b = c.board.invariant in
    let n = ap (λ t. t.words) b.0 in
    (i.0 ∙ sym b.0, omega arith, reader_splits _ _ (ap (λ (m : SeatState). m.0) i.1))
