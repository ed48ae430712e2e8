use Rattle.std.proofs.Common.{IsTrue, sym, ap, ◌∙◌, subst, arith}
use Rattle.mm_label.specs.Label.{Label, label_le, label_of}
use Rattle.mm_board.specs.Views.{current_label}
use Rattle.mm_board.specs.Steps.{SeatState, published_of}
use Rattle.mm_board.proofs.Calls.{publisher_stores_label}
use Rattle.mm_board.proofs.Current.{current_label_stored}
use Rattle.mm_board.proofs.publisher.Publisher.store_label.Goals as goal

pub store-requires : goal.store-requires
store-requires g c =
    let i = c.self.invariant in
    let b = c.board.invariant in
    let n = ap (λ t. t.words) b.0 in
    let known : IsTrue (label_le (current_label (published_of c.self.inside.seat.me.0) c.args.process) c.args.label) = rw c.self.view_is c.requires.rises in
    let above : IsTrue (label_le (current_label (published_of c.self.inside.seat.me.0) c.args.process) (label_of c.word-word.result))
    = subst (λ (l : Label). IsTrue (label_le (current_label (published_of c.self.inside.seat.me.0) c.args.process) l)) (sym c.word-word.ensures.given_back) known in
    (i.0 ∙ sym b.0, omega arith, publisher_stores_label _ _ _ _ _ i.1 (omega arith) above)

pub returns-clause-current : goal.returns-clause-current
returns-clause-current g c =
    let i = c.self.invariant in
    let b = c.board.invariant in
    ap (λ (m : SeatState). current_label (published_of m.0) c.args.process) c.store.ensures.2
    ∙ current_label_stored (published_of c.self.inside.seat.me.0) c.args.process (label_of c.word-word.result) (omega arith)
    ∙ c.word-word.ensures.given_back
