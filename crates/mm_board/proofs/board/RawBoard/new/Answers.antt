use Rattle.std.proofs.Common.{List, ℕ, sym, subst}
use Rattle.mm_board.specs.private.Opening.{AreOpening}
use Rattle.mm_board.proofs.Opens.{opens}
use Rattle.mm_board.proofs.board.RawBoard.new.Goals as goal

pub of_words-requires : goal.of_words-requires
of_words-requires c =
    opens c.as_slice.result.now c.args.processes (subst (λ (words : List ℕ). AreOpening words c.args.processes) (sym c.as_slice.ensures.value) c.in-Ok.ensures)
