use Rattle.std.proofs.Common.{sym, ap, ◌∙◌, arith}
use Rattle.mm_board.proofs.Calls.{reader_loads_label}
use Rattle.mm_board.proofs.reader.Reader.read_label.Goals as goal

pub load-word-requires : goal.load-word-requires
load-word-requires g c =
    let i = c.self.invariant in
    let b = c.board.invariant in
    let n = ap (λ t. t.words) b.0 in
    (i.0 ∙ sym b.0, omega arith, reader_loads_label _ _ _ _ i.1 (omega arith))
