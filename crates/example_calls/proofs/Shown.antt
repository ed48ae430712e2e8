-- What a reader has seen to which a board was shown.
use Rattle.std.proofs.Common.{◌≡◌, ℕ, ap, ◌∙◌}
use Rattle.mm_label.specs.Label.{Label}
use Rattle.mm_board.specs.declared.views.Published.{Published}
use Rattle.mm_board.specs.declared.views.Seen.{Seen}
use Rattle.mm_board.specs.Views.{label_at, current_label, current_labels, new_seen}
use Rattle.mm_board.proofs.Histories.{current_labels_at}

pub shown_label : (p : Published) (reader : Seen) (i : ℕ) (label : Label) → reader ≡ new_seen (current_labels p) → current_label p i ≡ label → label_at reader.labels i ≡ label
shown_label p reader i label shown current = ap (λ (r : Seen). label_at r.labels i) shown ∙ current_labels_at p i ∙ current
