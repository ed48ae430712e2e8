-- New labels: where each process keeps both its labels, or gets one new and greater label of its own, the laws of labels stay.
use Rattle.std.proofs.Common.{◌≡◌, ◌≢◌, ℕ, ◌<◌, ◌≤◌, ◌⊎◌, length, IsTrue, inl, inr, refl, sym, ap, ◌∙◌, arith, get_or-set_same, get_or-set_other}
use Rattle.std.proofs.lemmas.Bool.{cases_eq, leb-true}
use Rattle.mm_label.specs.Label.{Label, label_le, opening_label}
use Rattle.mm_rules.specs.TableState.{TableState, private_of, public_of}
use Rattle.mm_rules.specs.Change.{label_against, block, block_fits}
use Rattle.mm_rules.specs.Laws.{PrivateLabels, LabelBounds, Laws}
use Rattle.mm_rules.proofs.States.LabelOrder.{label_le_same, label_le_counter, at_most_to}

pub record KeepsLabels (s new : TableState) (k : ℕ) : Type 0 where
  pub private : private_of new k ≡ private_of s k
  pub public : public_of new k ≡ public_of s k

pub record GetsLabel (s new : TableState) (k : ℕ) (l : Label) : Type 0 where
  pub private : private_of new k ≡ l
  pub public : public_of new k ≡ l
  pub own : l.process ≡ k
  pub above : (public_of s k).counter < l.counter
  pub limit : l.counter ≤ s.config.label_limit

abbrev pub Relabels : TableState → TableState → ℕ → Type 0
Relabels s new k = KeepsLabels s new k ⊎ ((l : Label) × GetsLabel s new k l)

module _ (s new : TableState) (laws : Laws s) (each : (k : ℕ) → Relabels s new k) where
  private_own : (k : ℕ) → Relabels s new k → (private_of new k).process ≡ k
  private_own k (inl same) = ap (λ l. l.process) same.private ∙ laws.lawful.private_labels.own k
  private_own k (inr (l, now)) = ap (λ l. l.process) now.private ∙ now.own

  private_low : (k : ℕ) → Relabels s new k → IsTrue (label_le (private_of new k) (public_of new k))
  private_low k (inl same) = rw (same.private, same.public) (laws.lawful.private_labels.at_most_public k)
  private_low k (inr (l, now)) = rw (now.private, now.public) (label_le_same l)

  pub relabelled_private : PrivateLabels new
  relabelled_private = record { own = λ n. private_own n (each n); at_most_public = λ n. private_low n (each n) }

  -- no private label falls
  private_rises : (k : ℕ) → Relabels s new k → (private_of s k).counter ≤ (private_of new k).counter
  private_rises k (inl same) = omega (arith, ap (λ l. l.counter) same.private)
  private_rises k (inr (l, now)) =
      let low : (private_of s k).counter ≤ (public_of s k).counter
      = label_le_counter (private_of s k) (public_of s k) (laws.lawful.private_labels.at_most_public k) in
      omega (arith, ap (λ l. l.counter) now.private, now.above)

  newest : (n m : ℕ) → Relabels s new m → (public_of new m).process ≡ n → (public_of new m).counter ≤ (private_of new n).counter
  newest n m (inl same) e =
      let was : (public_of s m).counter ≤ (private_of s n).counter = laws.lawful.label_bounds.newest n m (sym (ap (λ l. l.process) same.public) ∙ e) in
      omega (arith, ap (λ l. l.counter) same.public, private_rises n (each n))
  newest n m (inr (l, now)) e =
      let own : m ≡ n = sym now.own ∙ sym (ap (λ l. l.process) now.public) ∙ e in
      omega (arith, ap (λ l. l.counter) now.public, ap (λ l. l.counter) now.private, ap (λ i. (private_of new i).counter) own)

  made : (m : ℕ) → Relabels s new m → m < s.config.processes → (public_of new m).process < s.config.processes
  made m (inl same) m_in = omega (arith, ap (λ l. l.process) same.public, laws.lawful.label_bounds.made m m_in)
  made m (inr (l, now)) m_in = omega (arith, ap (λ l. l.process) now.public, now.own)

  limited : (m : ℕ) → Relabels s new m → (public_of new m).counter ≤ s.config.label_limit
  limited m (inl same) = omega (arith, ap (λ l. l.counter) same.public, laws.lawful.label_bounds.limit m)
  limited m (inr (l, now)) = omega (arith, ap (λ l. l.counter) now.public, now.limit)

  pub relabelled_bounds : new.config ≡ s.config → LabelBounds new
  relabelled_bounds same = record {
    made = λ m m_in. rw same (made m (each m) (rw same at m_in));
    newest = λ n m e. newest n m (each m) e;
    limit = λ m. rw same (limited m (each m));
  }

  public_rises : (k : ℕ) → Relabels s new k → IsTrue (label_le (public_of s k) (public_of new k))
  public_rises k (inl same) = rw same.public (label_le_same (public_of s k))
  public_rises k (inr (l, now)) = rw now.public (at_most_to (public_of s k) l (inl now.above))

  pub relabelled_rise : (k : ℕ) → IsTrue (label_le (public_of s k) (public_of new k))
  relabelled_rise k = public_rises k (each k)

-- ---- the labels of a block

module _ (s : TableState) (n h : ℕ) where
  pub blocked_labels : n < length s.private → n < length s.public → IsTrue (block_fits s n h) → GetsLabel s (block s n h) n (label_against s n h)
  blocked_labels private_in public_in fits = record {
    private = get_or-set_same s.private n (label_against s n h) (opening_label n) private_in;
    public = get_or-set_same s.public n (label_against s n h) (opening_label n) public_in;
    own = refl;
    above = omega arith;
    limit = leb-true (label_against s n h).counter s.config.label_limit fits;
  }

  pub other_labels : (k : ℕ) → k ≢ n → KeepsLabels s (block s n h) k
  other_labels k apart = record {
    private = get_or-set_other s.private n k (label_against s n h) (opening_label k) apart;
    public = get_or-set_other s.public n k (label_against s n h) (opening_label k) apart;
  }

  pub block_relabels : n < length s.private → n < length s.public → IsTrue (block_fits s n h) → (k : ℕ) → Relabels s (block s n h) k
  block_relabels private_in public_in fits k = elim (cases_eq k n) [
    | inl e ↦ inr (label_against s n h, rw e (blocked_labels private_in public_in fits))
    | inr apart ↦ inl (other_labels k apart)
  ]
