use Rattle.std.proofs.Common.{◌≡◌, List, ℕ, [], sym, ap, ◌∙◌, arith, length}
use Rattle.mm_label.specs.Label.{Label}
use Rattle.mm_board.specs.declared.views.View.TheVariants.{Publishes, Reads}
use Rattle.mm_board.specs.Views.{opening_labels, opening_published, new_seen, processes_of}
use Rattle.mm_board.specs.Steps.{SeatState, published_of, seen_of, reader_of_publisher}
use Rattle.mm_board.proofs.Calls.{publisher_splits, is_publishing, is_reading, seated}
use Rattle.mm_board.proofs.Opens.{length-opening_histories, length-opening_holders, length-opening_labels, current_at_first}
use Rattle.mm_board.proofs.board.RawBoard.open.Goals as goal

pub split_seat-first-requires : goal.split_seat-first-requires
split_seat-first-requires g c =
    let i = c.self.invariant in
    let view = ap (λ (m : SeatState). m.0) i.2 in
    (i.0, omega arith, publisher_splits _ _ (view ∙ ap Publishes (sym (ap published_of view))))

pub invariant_of-publisher : goal.invariant_of-publisher
invariant_of-publisher g c =
    let i = c.self.invariant in
    let s = c.split_seat-first.ensures in
    let me : c.split_seat-first.new.seat.me ≡ (Publishes (opening_published c.self.inside.processes), []) = s.2 ∙ i.2 in
    let named = c.self.view_is ∙ c.requires in
    let words = ap (λ t. t.words) named in
    let histories = ap (λ (m : SeatState). length (published_of m.0).histories) me in
    let holders = ap (λ (m : SeatState). length (published_of m.0).holders) me in
    let sized = length-opening_histories c.self.inside.processes in
    let holders_sized = length-opening_holders c.self.inside.processes in
    (s.0 ∙ i.0 ∙ named, is_publishing _ _ me, omega arith, omega arith)

-- what the first reader knows
abbrev first : (g : _) (c : goal.After-split_seat-first g) → Type 0
first g c = c.split_seat-first.result.me ≡ (Reads (new_seen (opening_labels c.self.inside.processes)), [])

first_knows : (g : _) (c : goal.After-split_seat-first g) → first g c
first_knows g c =
    let i = c.self.invariant in
    let s = c.split_seat-first.ensures in
    s.4 ∙ ap (λ (m : SeatState). seated (reader_of_publisher m.0) []) i.2 ∙ ap (λ (labels : List Label). seated (Reads (new_seen labels)) []) (current_at_first c.self.inside.processes)

pub invariant_of-reader : goal.invariant_of-reader
invariant_of-reader g c =
    let i = c.self.invariant in
    let s = c.split_seat-first.ensures in
    let me = first_knows g c in
    let named = c.self.view_is ∙ c.requires in
    let words = ap (λ t. t.words) named in
    let labels = ap (λ (m : SeatState). length (seen_of m.0).labels) me in
    let sized = length-opening_labels c.self.inside.processes in
    (s.3 ∙ i.0 ∙ named, is_reading _ _ me, omega arith)

pub returns-clause-reader : goal.returns-clause-reader
returns-clause-reader g c =
    let i = c.self.invariant in
    let words = ap (λ t. t.words) c.self.view_is in
    let sized : c.self.inside.processes ≡ processes_of c.args.self = omega arith in
    ap (λ (m : SeatState). seen_of m.0) (first_knows g c) ∙ ap (λ (n : ℕ). new_seen (opening_labels n)) sized
