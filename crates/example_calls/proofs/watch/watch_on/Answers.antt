use Rattle.std.proofs.Common.{◌≡◌, IsTrue, subst, sym, ap, ◌∙◌}
use Rattle.mm_label.specs.Label.{Label, label_le, opening_label}
use Rattle.mm_board.specs.declared.views.Published.{Published}
use Rattle.mm_board.specs.declared.views.Seen.{Seen}
use Rattle.mm_board.specs.Views.{label_at, current_label, processes_of}
use Rattle.mm_board.proofs.Order.{label_le_both}
use Rattle.mm_board.proofs.Opens.{opening_at}
use Rattle.mm_board.proofs.Current.{current_label_at_first}
use Rattle.example_calls.proofs.Shown.{shown_label}
use Rattle.example_calls.proofs.watch.watch_on.Goals as goal

pub store_label-requires-clause-rises : goal.store_label-requires-clause-rises
store_label-requires-clause-rises g c =
    let opening = ap (λ (p : Published). current_label p c.args.process) c.open-board.ensures.publisher ∙ current_label_at_first (processes_of c.args.raw) c.args.process c.requires.process_in_range in
    subst (λ (l : Label). IsTrue (label_le l c.args.first)) (sym opening) c.requires.first_rises

-- it is not below the second label, which the reader was shown before, and not above it, since the reader is shown it afterwards
pub returns-clause-shown : goal.returns-clause-shown
returns-clause-shown g c =
    let i = c.args.process in
    let shown = c.read_label-shown.result in
    let before = shown_label c.store_label-2.new.self _ i c.args.second c.show-2.ensures.shown c.store_label-2.ensures.current in
    let after = shown_label c.show-2.new.self _ i c.args.second c.show-3.ensures.shown (ap (λ (p : Published). current_label p i) c.show-2.ensures.met ∙ c.store_label-2.ensures.current) in
    let high : IsTrue (label_le shown c.args.second) = rw (c.read_label-shown.ensures.label, sym after) (c.show-3.ensures.rises i) in
    let low : IsTrue (label_le c.args.second shown) = subst (λ (l : Label). IsTrue (label_le l shown)) before c.read_label-shown.ensures.rises in
    label_le_both shown c.args.second high low

pub returns-clause-unshown : goal.returns-clause-unshown
returns-clause-unshown g c =
    let i = c.args.process in
    let unshown = c.read_label-unshown.result in
    let before : label_at c.split-other.new.self.labels i ≡ opening_label i = ap (λ (r : Seen). label_at r.labels i) (c.split-other.ensures.same ∙ c.open-board.ensures.reader) ∙ opening_at (processes_of c.args.raw) i c.requires.process_in_range in
    let after = shown_label c.store_label.new.self _ i c.args.first c.show.ensures.shown c.store_label.ensures.current in (
      subst (λ (l : Label). IsTrue (label_le l unshown)) before c.read_label-unshown.ensures.rises,
      rw (c.read_label-unshown.ensures.label, sym after) (c.show.ensures.rises i),
    )
