-- Each kind of step keeps the rule of the board, and tells what it says.
use Rattle.std.proofs.Common.{◌≡◌, ◌≢◌, ℕ, ◌+◌, ◌<◌, List, [], length, set, IfSome, IsTrue, refl, sym, ap, ◌∙◌, subst, ⊎_elim, arith}
use Rattle.std.specs.Prelude.{slice_index}
use mathlib.Core.Option.{none, some}
use lib.ListN.{get_elem?}
use Rattle.atomic_table.specs.Table.{step, keeps, Allows, Splits, Joins}
use Rattle.atomic_table.proofs.Lists.{at_set}
use Rattle.mm_label.specs.Label.{Label, label_le, label_of}
use Rattle.mm_board.specs.declared.views.Published.{Published}
use Rattle.mm_board.specs.declared.views.Seen.{Seen}
use Rattle.mm_board.specs.declared.views.View.{View}
use Rattle.mm_board.specs.declared.views.View.TheVariants.{Publishes, Reads, Spent}
use Rattle.mm_board.specs.Views.{label_at, current_label, current_labels, current_holder, with_label, with_holder, with_met, with_seen, holder_of, IsAnother}
use Rattle.mm_board.specs.Rule.{WereStored, IsPublished, BoardState, IsBoard}
use Rattle.mm_board.specs.Steps.{SeatState, LabelLoaded, HolderLoaded, LabelStored, HolderStored, Looked, reader_of_reader, reader_of_publisher, having_met}
use Rattle.mm_board.proofs.Histories.{still_stored, current_were_stored, seen_were_stored, stored_at_most, stored_never_fall}
use Rattle.mm_board.proofs.Words.{label_stored, holder_stored}
use Rattle.mm_board.proofs.Seats.{reader_apart, publisher_here, other_view, publisher_view, new_seat, unmoved}

pub loads_label : (slots seat : ℕ) (seen : Seen) (i : ℕ) → i < length seen.labels → Allows IsBoard slots seat (Reads seen, []) i (λ n. n) (LabelLoaded (step slots i 0 0 none) (Reads seen, []))
loads_label slots seat seen i low s b _ at small =
    let p = b.published in
    let mine : WereStored p seen.labels = b.views seat (Reads seen) at in
    let sized = mine.0 in
    let inside : i < length p.histories = omega arith in
    let found : label_of (slice_index s.words i) ≡ current_label p i = b.words.labels i inside in
    let view : View = Reads (with_seen seen i (label_of (slice_index s.words i))) in
    let known : WereStored p (set seen.labels i (label_of (slice_index s.words i))) = subst (λ (l : Label). WereStored p (set seen.labels i l)) (sym found) (seen_were_stored p b.words.histories seen.labels i inside mine) in
    let rises : IsTrue (label_le (label_at seen.labels i) (label_of (slice_index s.words i))) = subst (λ (l : Label). IsTrue (label_le (label_at seen.labels i) l)) (sym found) (stored_at_most p b.words.histories seen.labels mine i inside) in
    (view, keeps, tt, unmoved s i (set s.views seat view) (other_view s b seat view (reader_apart s b seat seen at) known), (refl, rises))

pub loads_holder : (slots seat : ℕ) (seen : Seen) (i : ℕ) → i < length seen.labels
    → Allows IsBoard slots seat (Reads seen, []) (length seen.labels + i) (λ n. n) (HolderLoaded (step slots (length seen.labels + i) 0 0 none) (Reads seen, []))
loads_holder slots seat seen i low s b _ at small =
    let p = b.published in
    let mine : WereStored p seen.labels = b.views seat (Reads seen) at in
    let sized = mine.0 in
    let n : ℕ = length seen.labels in
    let inside : i < length p.histories = omega arith in
    let found : holder_of (slice_index s.words (n + i)) ≡ current_holder p i = ap (λ (k : ℕ). holder_of (slice_index s.words (k + i))) sized ∙ b.words.holders i inside in
    let another : IfSome (holder_of (slice_index s.words (n + i))) (λ holder. IsAnother n i holder) = rw (found, sized) (b.words.others i inside) in (
      Reads seen,
      keeps,
      tt,
      unmoved s (n + i) (set s.views seat (Reads seen)) (other_view s b seat (Reads seen) (reader_apart s b seat seen at) mine),
      (refl, λ j e. let same : j ≡ i = omega arith in rw same another),
    )

-- the words are what the publisher's own view says
words_of : (s : BoardState) (b : IsBoard s) (seat : ℕ) (p : Published) → get_elem? s.views seat ≡ some (Publishes p) → IsPublished s.words p
words_of s b seat p at = subst (IsPublished s.words) (sym (publisher_here s b seat p at).1) b.words

pub stores_label : (slots seat : ℕ) (p : Published) (i word : ℕ) → i < length p.histories → IsTrue (label_le (current_label p i) (label_of word))
    → Allows IsBoard slots seat (Publishes p, []) i (λ _. word) (λ _. LabelStored (step slots i word 0 none) (Publishes p, []) word)
stores_label slots seat p i word inside above s b _ at small = (
  Publishes (with_label p i (label_of word)),
  keeps,
  tt,
  publisher_view s b seat p (set s.words i word) (with_label p i (label_of word)) at (label_stored s.words p i word inside (words_of s b seat p at) above) (λ labels. still_stored p i (label_of word) labels inside),
  refl,
)

pub stores_holder : (slots seat : ℕ) (p : Published) (i word : ℕ) → i < length p.histories → IfSome (holder_of word) (λ holder. IsAnother (length p.histories) i holder)
    → Allows IsBoard slots seat (Publishes p, []) (length p.histories + i) (λ _. word) (λ _. HolderStored (step slots (length p.histories + i) word 0 none) (Publishes p, []) word)
stores_holder slots seat p i word inside another s b _ at small = (
  Publishes (with_holder p i (holder_of word)),
  keeps,
  tt,
  publisher_view s b seat p (set s.words (length p.histories + i) word) (with_holder p i (holder_of word)) at (holder_stored s.words p i word inside (words_of s b seat p at) another) (λ labels were. were),
  λ j e. let same : i ≡ j = omega arith in ap (λ (k : ℕ). let view : View = Publishes (with_holder p k (holder_of word)) in let slots : List (ℕ × Unit {0}) = [] in let me : SeatState = (view, slots) in me) same,
)

pub splits_reader : (seat : ℕ) (seen : Seen) → Splits IsBoard seat (Reads seen) (Reads seen) (reader_of_reader (Reads seen))
splits_reader seat seen s b at = new_seat s b seat (Reads seen) (reader_of_reader (Reads seen)) at (λ _. b.views seat (Reads seen) at)

pub splits_publisher : (seat : ℕ) (p : Published) → Splits IsBoard seat (Publishes p) (Publishes p) (reader_of_publisher (Publishes p))
splits_publisher seat p s b at =
    let here = publisher_here s b seat p at in
    let stored : WereStored b.published (current_labels p) = subst (λ (o : Published). WereStored o (current_labels p)) here.1 (current_were_stored p (words_of s b seat p at).histories) in
    new_seat s b seat (Publishes p) (reader_of_publisher (Publishes p)) at (λ _. stored)

pub joins_reader : (seat : ℕ) (p : Published) (other : ℕ) (seen : Seen) → Joins IsBoard seat (Publishes p) other (Reads seen) (having_met (Publishes p) (Reads seen)) Spent
joins_reader seat p other seen s b at differs there =
    let q : Published = with_met p seen.labels in
    let old : get_elem? s.views other ≡ some (Reads seen) = ⊎_elim (λ (t : (other ≡ seat) × (Publishes q ≡ Reads seen)). absurd (differs t.0)) (λ (t : (other ≢ seat) × (get_elem? s.views other ≡ some (Reads seen))). t.1) (at_set s.views seat other (Publishes q) (Reads seen) there) in
    let theirs : WereStored p seen.labels = subst (λ (o : Published). WereStored o seen.labels) (sym (publisher_here s b seat p at).1) (b.views other (Reads seen) old) in
    let w = words_of s b seat p at in
    let is : IsPublished s.words q = record { words_sized = w.words_sized; holders_sized = w.holders_sized; labels = w.labels; holders = w.holders; others = w.others; histories = w.histories; met = theirs } in
    let joined = publisher_view s b seat p s.words q at is (λ labels were. were) in
    other_view _ joined other Spent (reader_apart _ joined other seen there) tt

pub looks : (slots seat : ℕ) (p : Published) (i : ℕ) → Allows IsBoard slots seat (Publishes p, []) i (λ n. n) (Looked (step slots i 0 0 none) (Publishes p, []))
looks slots seat p i s b _ at small =
    let w = words_of s b seat p at in (
      Publishes p,
      keeps,
      tt,
      unmoved s i (set s.views seat (Publishes p)) (publisher_view s b seat p s.words p at w (λ labels were. were)),
      (refl, stored_never_fall p w.histories p.met w.met),
    )
