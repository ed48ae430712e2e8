-- A state that keeps the laws has a lawful graph, in which labels tell their makers; and the one way back.
use Rattle.std.proofs.Common.{◌≡◌, ◌+◌, ℕ, ◌<◌, ◌≤◌, IsTrue, refl, sym, ap, ◌∙◌, arith}
use Rattle.std.specs.List.{count_by}
use Rattle.mm_label.specs.Label.{word_of, process_range}
use Rattle.mm_rules.specs.Graph.{LabelReturned}
use Rattle.mm_rules.specs.TableState.{TableState, private_of, public_of, has_verdict, graph_of}
use Rattle.mm_rules.specs.Laws.{WellFormed, PrivateLabels, LabelBounds, Laws}
use Rattle.mm_rules.proofs.Graph.Laws.{IsLawful, HasLabelMakers}
use Rattle.mm_rules.proofs.Graph.Deadlocked.{returned_are_deadlocked}
use Rattle.mm_rules.proofs.States.LabelOrder.{word_process, word_process_is, le_words}
use Rattle.mm_rules.proofs.States.Lookups.{holder_within, holder_apart}

module _ (s : TableState) (laws : Laws s) where
  private_is_own : (k : ℕ) → k < s.config.processes → word_process (word_of (private_of s k)) ≡ k
  private_is_own k k_in =
      let own : (private_of s k).process ≡ k = laws.lawful.private_labels.own k in
      word_process_is (private_of s k) (omega (arith, laws.lawful.well_formed.config.processes)) ∙ own

  pub public_within : (k : ℕ) → k < s.config.processes → (public_of s k).process < process_range
  public_within k k_in = omega (arith, laws.lawful.label_bounds.made k k_in, laws.lawful.well_formed.config.processes)

  pub private_within : (k : ℕ) → k < s.config.processes → (private_of s k).process < process_range
  private_within k k_in = omega (arith, laws.lawful.private_labels.own k, laws.lawful.well_formed.config.processes)

  pub graph_lawful : IsLawful (graph_of s)
  graph_lawful = record {
    ordered = λ k k_in. le_words (private_of s k) (public_of s k) (laws.lawful.private_labels.at_most_public k) (private_within k k_in);
    own = λ i j i_in j_in same. sym (private_is_own i i_in) ∙ ap word_process same ∙ private_is_own j j_in;
    within = holder_within s laws.lawful.well_formed;
    apart = holder_apart s laws.lawful.well_formed;
    rising = laws.lawful.rising;
    propagated = laws.lawful.propagated;
    topped = laws.topped;
  }

  public_tells : (k : ℕ) → k < s.config.processes → word_process (word_of (public_of s k)) ≡ (public_of s k).process
  public_tells k k_in = word_process_is (public_of s k) (public_within k k_in)

  pub graph_makers : HasLabelMakers word_process (graph_of s)
  graph_makers = record {
    named = private_is_own;
    made = λ k k_in. omega (arith, public_tells k k_in, laws.lawful.label_bounds.made k k_in);
    newest = λ k k_in.
        let maker : ℕ = (public_of s k).process in
        let own : (private_of s maker).process ≡ maker = laws.lawful.private_labels.own maker in
        let newest : (public_of s k).counter ≤ (private_of s maker).counter = laws.lawful.label_bounds.newest maker k refl in
        let words : word_of (public_of s k) ≤ word_of (private_of s maker) = omega arith in
        rw (public_tells k k_in) words;
  }

-- the way back
pub laws_by : (s : TableState) → WellFormed s → PrivateLabels s → LabelBounds s → IsLawful (graph_of s)
    → s.totals.verdicts ≡ s.totals.aborts + count_by (λ v. v) s.verdicts
    → ((v : ℕ) → IsTrue (has_verdict s v) → (h : ℕ) × LabelReturned (graph_of s) v h) → Laws s
laws_by s formed own bounds graph counted returned = record {
  lawful = record {
    well_formed = formed;
    private_labels = own;
    label_bounds = bounds;
    propagated = graph.propagated;
    rising = graph.rising;
    counted = counted;
  };
  convicted = λ v verdict.
      let back : (h : ℕ) × LabelReturned (graph_of s) v h = returned v verdict in
      (back.0, back.1, returned_are_deadlocked (graph_of s) v back.0 graph back.1);
  topped = graph.topped;
}
