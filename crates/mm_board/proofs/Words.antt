-- The words after each kind of store.
use Rattle.std.proofs.Common.{◌≡◌, ◌≢◌, ℕ, ◌+◌, ◌<◌, List, length, set, IfSome, IsTrue, None, sym, ap, ◌∙◌, arith, inl, inr, length-set, get_or-set_same, get_or-set_other}
use Rattle.std.specs.Prelude.{slice_index}
use Rattle.std.proofs.lemmas.Bool.{cases_eq}
use Rattle.mm_label.specs.Label.{label_le, label_of}
use Rattle.mm_board.specs.declared.views.Published.{Published}
use Rattle.mm_board.specs.Views.{last_label, history, current_label, current_holder, with_label, with_holder, holder_of, IsAnother}
use Rattle.mm_board.specs.Rule.{IsPublished}
use Rattle.mm_board.proofs.Histories.{last_of_longer, history_longer, length-with_label, history_here, history_else, still_stored}

module _ (words : List ℕ) (p : Published) (i word : ℕ) (inside : i < length p.histories) (is : IsPublished words p) where
  pub label_stored : IsTrue (label_le (current_label p i) (label_of word)) → IsPublished (set words i word) (with_label p i (label_of word))
  label_stored above =
      let label = label_of word in
      let q : Published = with_label p i label in
      let sized : length q.histories ≡ length p.histories = length-with_label p i label in
      record {
        words_sized = omega (arith, length-set words i word, is.words_sized);
        holders_sized = is.holders_sized ∙ sym sized;
        labels = λ j low. elim (cases_eq j i) [
          | inl same ↦
              ap (λ k. label_of (slice_index (set words i word) k)) same
              ∙ ap label_of (get_or-set_same words i word 0 (omega (arith, is.words_sized)))
              ∙ sym (ap (λ k. last_label (history q k)) same ∙ ap last_label (history_here p i label inside) ∙ last_of_longer (history p i) label)
          | inr other ↦
              ap label_of (get_or-set_other words i j word 0 other) ∙ is.labels j (omega arith) ∙ sym (ap last_label (history_else p i label j other))
        ];
        holders = λ j low.
            let apart : length p.histories + j ≢ i = λ e. absurd (omega arith) in
            ap (λ n. holder_of (slice_index (set words i word) (n + j))) sized
            ∙ ap holder_of (get_or-set_other words i (length p.histories + j) word 0 apart)
            ∙ is.holders j (omega arith);
        others = λ j low. rw sized (is.others j (omega arith));
        histories = λ j low. elim (cases_eq j i) [
          | inl same ↦ rw (same, history_here p i label inside) (history_longer (history p i) label i (is.histories i inside) above)
          | inr other ↦ rw (history_else p i label j other) (is.histories j (omega arith))
        ];
        met = still_stored p i label p.met inside is.met;
      }

  pub holder_stored : IfSome (holder_of word) (λ holder. IsAnother (length p.histories) i holder) → IsPublished (set words (length p.histories + i) word) (with_holder p i (holder_of word))
  holder_stored another =
      let place : ℕ = length p.histories + i in
      record {
        words_sized = omega (arith, length-set words place word, is.words_sized);
        holders_sized = length-set p.holders i (holder_of word) ∙ is.holders_sized;
        labels = λ j low.
            let apart : j ≢ place = λ e. absurd (omega arith) in
            ap label_of (get_or-set_other words place j word 0 apart) ∙ is.labels j low;
        holders = λ j low. elim (cases_eq j i) [
          | inl same ↦
              ap (λ k. holder_of (slice_index (set words place word) (length p.histories + k))) same
              ∙ ap holder_of (get_or-set_same words place word 0 (omega (arith, is.words_sized)))
              ∙ sym (ap (current_holder (with_holder p i (holder_of word))) same ∙ get_or-set_same p.holders i (holder_of word) None (omega (arith, is.holders_sized)))
          | inr other ↦
              let apart : length p.histories + j ≢ place = λ e. other (omega arith) in
              ap holder_of (get_or-set_other words place (length p.histories + j) word 0 apart) ∙ is.holders j low ∙ sym (get_or-set_other p.holders i j (holder_of word) None other)
        ];
        others = λ j low. elim (cases_eq j i) [
          | inl same ↦ rw (same, get_or-set_same p.holders i (holder_of word) None (omega (arith, is.holders_sized))) another
          | inr other ↦ rw (get_or-set_other p.holders i j (holder_of word) None other) (is.others j low)
        ];
        histories = is.histories;
        met = is.met;
      }
