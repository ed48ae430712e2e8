use Rattle.std.proofs.Common.{◌≡◌, ◌+◌, IfSome, Option, ℕ, sym, ap, length-set, ◌∙◌, arith, length}
use Rattle.mm_board.specs.Views.{current_holder, holder_of, IsAnother}
use Rattle.mm_board.specs.Steps.{SeatState, published_of}
use Rattle.mm_board.proofs.Current.{current_holder_stored}
use Rattle.mm_board.proofs.Calls.{still_publishing, publisher_stores_holder}
use Rattle.mm_board.proofs.publisher.Publisher.store_holder.Goals as goal

pub store-requires : goal.store-requires
store-requires g c =
    let i = c.self.invariant in
    let b = c.board.invariant in
    let n = ap (λ t. t.words) b.0 in
    let v = c.board.view_is in
    let sized : length (published_of c.self.inside.seat.me.0).histories ≡ c.args.board.now = omega arith in
    let another : IfSome (holder_of c.word_of-word.result) (λ holder. IsAnother (length (published_of c.self.inside.seat.me.0).histories) c.args.process holder) = rw (sized, c.word_of-word.ensures) c.requires.another in
    (i.0 ∙ sym b.0, omega arith, publisher_stores_holder _ _ _ c.args.process _ i.1 (omega arith) _ (omega arith) another)

pub invariant_of-self : goal.invariant_of-self
invariant_of-self g c =
    let i = c.self.invariant in
    let b = c.board.invariant in
    let place : c.board.inside.processes + c.args.process ≡ length (published_of c.self.inside.seat.me.0).histories + c.args.process = omega arith in
    let s = c.store.ensures.2 c.args.process place in
    let histories = ap (λ (m : SeatState). length (published_of m.0).histories) s in
    let holders = ap (λ (m : SeatState). length (published_of m.0).holders) s in
    (c.store.ensures.0 ∙ i.0, still_publishing _ _ _ i.1 s, omega arith, omega (arith, length-set {A = Option ℕ}))

pub returns-clause-current : goal.returns-clause-current
returns-clause-current g c =
    let i = c.self.invariant in
    let b = c.board.invariant in
    let place : c.board.inside.processes + c.args.process ≡ length (published_of c.self.inside.seat.me.0).histories + c.args.process = omega arith in
    ap (λ (m : SeatState). current_holder (published_of m.0) c.args.process) (c.store.ensures.2 c.args.process place)
    ∙ current_holder_stored (published_of c.self.inside.seat.me.0) c.args.process (holder_of c.word_of-word.result) (omega arith)
    ∙ c.word_of-word.ensures
