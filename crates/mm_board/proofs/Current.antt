-- The current labels and holders after a store, and at first.
use Rattle.std.proofs.Common.{◌≡◌, ℕ, ◌<◌, length, Option, None, ap, ◌∙◌, get_or-set_same}
use Rattle.mm_label.specs.Label.{Label, opening_label}
use Rattle.mm_board.specs.declared.views.Published.{Published}
use Rattle.mm_board.specs.Views.{last_label, history, current_label, current_holder, with_label, with_holder, opening_published}
use Rattle.mm_board.proofs.Histories.{last_of_longer, history_here}
use Rattle.mm_board.proofs.Opens.{history_at_first}

pub current_label_stored : (p : Published) (i : ℕ) (label : Label) → i < length p.histories → current_label (with_label p i label) i ≡ label
current_label_stored p i label inside = ap last_label (history_here p i label inside) ∙ last_of_longer (history p i) label

pub current_holder_stored : (p : Published) (i : ℕ) (holder : Option ℕ) → i < length p.holders → current_holder (with_holder p i holder) i ≡ holder
current_holder_stored p i holder inside = get_or-set_same p.holders i holder None inside

pub current_label_at_first : (processes i : ℕ) → i < processes → current_label (opening_published processes) i ≡ opening_label i
current_label_at_first processes i inside = ap last_label (history_at_first processes i inside)
