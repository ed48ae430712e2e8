-- What keeps the rule: another view at a seat, at the publisher's seat, and at a new seat.
use Rattle.std.proofs.Common.{◌≡◌, ◌≢◌, ℕ, zero, suc, List, [], ◌∷◌, ◌++◌, get_or, set, refl, sym, ap, ◌∙◌, subst, ⊎_elim}
use mathlib.Core.Option.{some, some-injective, some-ne-none}
use lib.ListN.{get_elem?}
use lib.Seq.{set-get_or}
use Rattle.atomic_table.proofs.Lists.{at_set, set_else, set_again, at_longer, at_snoc}
use Rattle.mm_label.specs.Label.{Label}
use Rattle.mm_board.specs.declared.views.Published.{Published}
use Rattle.mm_board.specs.declared.views.Seen.{Seen}
use Rattle.mm_board.specs.declared.views.View.{View}
use Rattle.mm_board.specs.declared.views.View.TheVariants.{Publishes, Reads, Spent}
use Rattle.mm_board.specs.Rule.{WereStored, IsPublished, MayKnow, BoardState, IsBoard}

set_there : {A : Type 0} (l : List A) (i : ℕ) (a b : A) → get_elem? l i ≡ some a → get_elem? (set l i b) i ≡ some b
set_there [] i a b e = absurd (some-ne-none a (sym e))
set_there (x ∷ xs) zero a b e = refl
set_there (x ∷ xs) (suc i) a b e = set_there xs i a b e

-- all that was stored before was stored
abbrev pub StillStored : Published → Published → Type 0
StillStored p q = (labels : List Label) → WereStored p labels → WereStored q labels

still_known : (p q : Published) (publisher : ℕ) → StillStored p q → (seat : ℕ) (view : View) → seat ≢ publisher → MayKnow p publisher seat view → MayKnow q publisher seat view
still_known p q publisher stored seat (Publishes r) other known = absurd (other known.0)
still_known p q publisher stored seat (Reads seen) other known = stored seen.labels known
still_known p q publisher stored seat Spent other known = tt

module _ (s : BoardState) (b : IsBoard s) where
  -- a reader's seat is not the publisher's
  pub reader_apart : (seat : ℕ) (seen : Seen) → get_elem? s.views seat ≡ some (Reads seen) → seat ≢ b.publisher
  reader_apart seat seen at same =
      let view : Publishes b.published ≡ Reads seen = some-injective _ _ (sym b.publishes ∙ ap (get_elem? s.views) (sym same) ∙ at) in
      cc

  -- the publisher's seat is the one that the rule names, and its view is what was stored
  pub publisher_here : (seat : ℕ) (p : Published) → get_elem? s.views seat ≡ some (Publishes p) → (seat ≡ b.publisher) × (p ≡ b.published)
  publisher_here seat p at = b.views seat (Publishes p) at

  -- a seat other than the publisher's gets another view
  pub other_view : (seat : ℕ) (view : View) → seat ≢ b.publisher → MayKnow b.published b.publisher seat view → IsBoard record { words = s.words; homes = s.homes; views = set s.views seat view }
  other_view seat view other known = record {
    published = b.published;
    publisher = b.publisher;
    words = b.words;
    publishes = set_else s.views seat b.publisher view (λ e. other (sym e)) ∙ b.publishes;
    views = λ k v e. ⊎_elim
        (λ (here : (k ≡ seat) × (view ≡ v)). subst (λ (x : ℕ × View). MayKnow b.published b.publisher x.0 x.1) (λ i. (sym here.0 i, here.1 i)) known)
        (λ (there : (k ≢ seat) × (get_elem? s.views k ≡ some v)). b.views k v there.1)
        (at_set s.views seat k view v e);
  }

  new_publisher_view : (words : List ℕ) (q : Published) → IsPublished words q → StillStored b.published q → IsBoard record { words = words; homes = s.homes; views = set s.views b.publisher (Publishes q) }
  new_publisher_view words q is stored = record {
    published = q;
    publisher = b.publisher;
    words = is;
    publishes = set_there s.views b.publisher (Publishes b.published) (Publishes q) b.publishes;
    views = λ k v e. ⊎_elim
        (λ (here : (k ≡ b.publisher) × (Publishes q ≡ v)). subst (MayKnow q b.publisher k) here.1 (here.0, refl))
        (λ (there : (k ≢ b.publisher) × (get_elem? s.views k ≡ some v)). still_known b.published q b.publisher stored k v there.0 (b.views k v there.1))
        (at_set s.views b.publisher k (Publishes q) v e);
  }

  -- the publisher's seat gets another view, and the words are what it then has stored
  pub publisher_view : (seat : ℕ) (p : Published) (words : List ℕ) (q : Published) → get_elem? s.views seat ≡ some (Publishes p) → IsPublished words q → StillStored p q
      → IsBoard record { words = words; homes = s.homes; views = set s.views seat (Publishes q) }
  publisher_view seat p words q at is stored =
      let here = publisher_here seat p at in
      subst (λ (k : ℕ). IsBoard record { words = words; homes = s.homes; views = set s.views k (Publishes q) }) (sym here.0)
      (new_publisher_view words q is (subst (λ (o : Published). StillStored o q) here.1 stored))

  -- a new seat gets a view, and the seat that it is split off keeps its own
  pub new_seat : (seat : ℕ) (view new : View) → get_elem? s.views seat ≡ some view → ((k : ℕ) → MayKnow b.published b.publisher k new)
      → IsBoard record { words = s.words; homes = s.homes; views = set s.views seat view ++ new ∷ [] }
  new_seat seat view new at known =
      subst (λ (vs : List View). IsBoard record { words = s.words; homes = s.homes; views = vs ++ new ∷ [] }) (sym (set_again s.views seat view at)) record {
        published = b.published;
        publisher = b.publisher;
        words = b.words;
        publishes = at_longer s.views (new ∷ []) b.publisher (Publishes b.published) b.publishes;
        views = λ k v e. ⊎_elim (λ old. b.views k v old) (λ (same : new ≡ v). subst (MayKnow b.published b.publisher k) same (known k)) (at_snoc s.views new v k e);
      }

-- the words after a load are the words
pub unmoved : (s : BoardState) (i : ℕ) (views : List View) → IsBoard record { words = s.words; homes = s.homes; views = views } → IsBoard record { words = set s.words i (get_or s.words i 0); homes = s.homes; views = views }
unmoved s i views = subst (λ (ws : List ℕ). IsBoard record { words = ws; homes = s.homes; views = views }) (sym (set-get_or s.words i 0))
