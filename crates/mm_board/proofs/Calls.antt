-- The steps as the calls ask for them: at a seat that is known to be a reader's or the publisher's.
use Rattle.std.proofs.Common.{◌≡◌, ℕ, ◌+◌, ◌<◌, List, [], length, IfSome, IsTrue, sym, ap, ◌∙◌, subst}
use mathlib.Core.Option.{none}
use Rattle.atomic_table.specs.Table.{step, Allows, Splits, Joins}
use Rattle.mm_label.specs.Label.{label_le, label_of}
use Rattle.mm_board.specs.declared.views.Published.{Published}
use Rattle.mm_board.specs.declared.views.Seen.{Seen}
use Rattle.mm_board.specs.declared.views.View.{View}
use Rattle.mm_board.specs.declared.views.View.TheVariants.{Publishes, Reads, Spent}
use Rattle.mm_board.specs.Views.{current_label, with_met, holder_of, IsAnother}
use Rattle.mm_board.specs.Rule.{IsBoard}
use Rattle.mm_board.specs.Steps.{SeatState, published_of, seen_of, LabelLoaded, HolderLoaded, LabelStored, HolderStored, Looked, reader_of_reader, reader_of_publisher, having_met}
use Rattle.mm_board.specs.private.Seats.{IsReading, IsPublishing}
use Rattle.mm_board.proofs.Keeps.{loads_label, loads_holder, stores_label, stores_holder, splits_reader, splits_publisher, joins_reader, looks}

-- a seat with this view
abbrev pub seated : View → List (ℕ × Unit {0}) → SeatState
seated view held = (view, held)

module _ (slots seat : ℕ) (me : SeatState) where
  module _ (i : ℕ) (is : IsReading me) (inside : i < length (seen_of me.0).labels) where
    pub reader_loads_label : Allows IsBoard slots seat me i (λ n. n) (LabelLoaded (step slots i 0 0 none) me)
    reader_loads_label = subst (λ (m : SeatState). Allows IsBoard slots seat m i (λ n. n) (LabelLoaded (step slots i 0 0 none) m)) (sym is) (loads_label slots seat (seen_of me.0) i inside)

    pub reader_loads_holder : (word : ℕ) → word ≡ length (seen_of me.0).labels + i → Allows IsBoard slots seat me word (λ n. n) (HolderLoaded (step slots word 0 0 none) me)
    reader_loads_holder word place =
        let n : ℕ = length (seen_of me.0).labels + i in
        subst (λ (w : ℕ). Allows IsBoard slots seat me w (λ n. n) (HolderLoaded (step slots w 0 0 none) me)) (sym place)
        (subst (λ (m : SeatState). Allows IsBoard slots seat m n (λ n. n) (HolderLoaded (step slots n 0 0 none) m)) (sym is) (loads_holder slots seat (seen_of me.0) i inside))

  module _ (i x : ℕ) (is : IsPublishing me) (inside : i < length (published_of me.0).histories) where
    pub publisher_stores_label : IsTrue (label_le (current_label (published_of me.0) i) (label_of x)) → Allows IsBoard slots seat me i (λ _. x) (λ _. LabelStored (step slots i x 0 none) me x)
    publisher_stores_label above =
        subst (λ (m : SeatState). Allows IsBoard slots seat m i (λ _. x) (λ _. LabelStored (step slots i x 0 none) m x)) (sym is) (stores_label slots seat (published_of me.0) i x inside above)

    pub publisher_stores_holder : (word : ℕ) → word ≡ length (published_of me.0).histories + i → IfSome (holder_of x) (λ holder. IsAnother (length (published_of me.0).histories) i holder)
        → Allows IsBoard slots seat me word (λ _. x) (λ _. HolderStored (step slots word x 0 none) me x)
    publisher_stores_holder word place another =
        let n : ℕ = length (published_of me.0).histories + i in
        subst (λ (w : ℕ). Allows IsBoard slots seat me w (λ _. x) (λ _. HolderStored (step slots w x 0 none) me x)) (sym place)
        (subst (λ (m : SeatState). Allows IsBoard slots seat m n (λ _. x) (λ _. HolderStored (step slots n x 0 none) m x)) (sym is) (stores_holder slots seat (published_of me.0) i x inside another))

  pub publisher_looks : (i : ℕ) → IsPublishing me → Allows IsBoard slots seat me i (λ n. n) (Looked (step slots i 0 0 none) me)
  publisher_looks i is = subst (λ (m : SeatState). Allows IsBoard slots seat m i (λ n. n) (Looked (step slots i 0 0 none) m)) (sym is) (looks slots seat (published_of me.0) i)

module _ (seat : ℕ) (view : View) where
  pub reader_splits : view ≡ Reads (seen_of view) → Splits IsBoard seat view view (reader_of_reader view)
  reader_splits is = subst (λ (v : View). Splits IsBoard seat v v (reader_of_reader v)) (sym is) (splits_reader seat (seen_of view))

  module _ (is : view ≡ Publishes (published_of view)) where
    pub publisher_splits : Splits IsBoard seat view view (reader_of_publisher view)
    publisher_splits = subst (λ (v : View). Splits IsBoard seat v v (reader_of_publisher v)) (sym is) (splits_publisher seat (published_of view))

    pub publisher_joins : (other : ℕ) (old : View) → old ≡ Reads (seen_of old) → Joins IsBoard seat view other old (having_met view old) Spent
    publisher_joins other old was =
        subst (λ (v : View). Joins IsBoard seat v other old (having_met v old) Spent) (sym is)
        (subst (λ (v : View). Joins IsBoard seat (Publishes (published_of view)) other v (having_met (Publishes (published_of view)) v) Spent) (sym was) (joins_reader seat (published_of view) other (seen_of old)))

-- ---- the seat afterwards

pub is_publishing : (me : SeatState) (p : Published) → me ≡ (Publishes p, []) → IsPublishing me
is_publishing me p e = e ∙ ap (λ (m : SeatState). seated (Publishes (published_of m.0)) []) (sym e)

pub is_reading : (me : SeatState) (seen : Seen) → me ≡ (Reads seen, []) → IsReading me
is_reading me seen e = e ∙ ap (λ (m : SeatState). seated (Reads (seen_of m.0)) []) (sym e)

-- a seat that was the publisher's, and has another view of a publisher, is the publisher's
pub still_publishing : (old me : SeatState) (p : Published) → IsPublishing old → me ≡ (Publishes p, old.1) → IsPublishing me
still_publishing old me p was e = is_publishing me p (e ∙ ap (seated (Publishes p)) (ap (λ (m : SeatState). m.1) was))

-- after show's join
pub joined : (me split join old : SeatState) → IsPublishing me → split ≡ me → join ≡ (having_met split.0 old.0, split.1) → join ≡ (Publishes (with_met (published_of me.0) (seen_of old.0).labels), me.1)
joined me split join old is same e =
    let met : having_met split.0 old.0 ≡ Publishes (with_met (published_of me.0) (seen_of old.0).labels) = ap (λ (m : SeatState). having_met m.0 old.0) (same ∙ is) in
    e ∙ (λ k. (met k, ap (λ (m : SeatState). m.1) same k))
