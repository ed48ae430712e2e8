use Rattle.std.proofs.Common.{◌≡◌, ◌+◌, sym, ap, ◌∙◌, arith, length}
use Rattle.mm_board.specs.Steps.{seen_of}
use Rattle.mm_board.proofs.Holders.{word_is_low, another_of}
use Rattle.mm_board.proofs.Calls.{reader_loads_holder}
use Rattle.mm_board.proofs.reader.Reader.read_holder.Goals as goal

pub load-word-requires : goal.load-word-requires
load-word-requires g c =
    let i = c.self.invariant in
    let b = c.board.invariant in
    let n = ap (λ t. t.words) b.0 in
    (i.0 ∙ sym b.0, omega arith, reader_loads_holder _ _ _ c.args.process i.1 (omega arith) _ (omega arith))

pub of_word-requires : goal.of_word-requires
of_word-requires g c =
    let i = c.self.invariant in
    let b = c.board.invariant in
    let place : c.board.inside.processes + c.args.process ≡ length (seen_of c.self.inside.seat.me.0).labels + c.args.process = omega arith in
    let low = word_is_low _ _ _ (c.load-word.ensures.2.1 c.args.process place) in
    omega arith

pub returns-clause-holder : goal.returns-clause-holder
returns-clause-holder g c =
    let i = c.self.invariant in
    let b = c.board.invariant in
    let sized : length (seen_of c.self.inside.seat.me.0).labels ≡ c.board.inside.processes = omega arith in
    let place : c.board.inside.processes + c.args.process ≡ length (seen_of c.self.inside.seat.me.0).labels + c.args.process = omega arith in
    another_of _ _ _ _ _ (c.load-word.ensures.2.1 c.args.process place) (sized ∙ c.board.view_is) c.of_word.ensures
