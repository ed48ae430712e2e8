-- What the laws say of verdicts, in plain words.
use Rattle.std.proofs.Common.{◌≡◌, ◌≢◌, ◌<◌, ℕ, List, true, false, IsTrue, sym, ap, ◌∙◌}
use Rattle.mm_label.specs.Label.{Label, label_lt}
use Rattle.mm_lists.specs.Members.{Among}
use Rattle.mm_lists.proofs.Lemmas.Among.{all_at, all_from}
use Rattle.mm_rules.specs.Graph.{Cycle}
use Rattle.mm_rules.specs.TableState.{TableState, is_live, has_verdict, private_of, graph_of}
use Rattle.mm_rules.specs.Laws.{IsHeld, Laws, Quiet, HasSoundVerdicts}
use Rattle.mm_rules.proofs.Graph.Deadlocked.{one_returned_on_a_cycle}
use Rattle.mm_rules.proofs.Graph.IsSettled.{quiet_has_no_cycle}
use Rattle.mm_rules.proofs.States.LabelOrder.{lt_from_words}
use Rattle.mm_rules.proofs.States.Lookups.{holder_within}
use Rattle.mm_rules.proofs.States.Laws.{graph_lawful, private_within}

module _ (s : TableState) (laws : Laws s) where
  smaller : (v : ℕ) (verdict : IsTrue (has_verdict s v)) (k : ℕ) → Among k (laws.convicted v verdict).2.places → k ≢ v → IsTrue (label_lt (private_of s k) (private_of s v))
  smaller v verdict k among apart =
      let inside : v < s.config.processes = (holder_within s laws.lawful.well_formed v (laws.convicted v verdict).0 (laws.convicted v verdict).1.waits).0 in
      lt_from_words (private_of s k) (private_of s v) ((laws.convicted v verdict).2.greatest k among apart) (private_within s laws v inside)

  pub verdicts_are_sound : HasSoundVerdicts s
  verdicts_are_sound = record {
    owners = laws.lawful.well_formed.owners;
    waits = all_from _ s.waits (λ w among. (all_at (λ w. IsTrue (is_live s w.key) × IsHeld s w) s.waits w laws.lawful.well_formed.waits among).0);
    private = λ i j same. sym (laws.lawful.private_labels.own i) ∙ ap (λ (l : Label). l.process) same ∙ laws.lawful.private_labels.own j;
    deadlocked = λ v verdict. ((laws.convicted v verdict).2.places, (laws.convicted v verdict).2.cycle, smaller v verdict);
    one = λ k cycle is u v on_u on_v verdict_u verdict_v.
        one_returned_on_a_cycle (graph_of s) v (laws.convicted v verdict_v).0 u (laws.convicted u verdict_u).0 k cycle (graph_lawful s laws) is
        on_v (laws.convicted v verdict_v).1 on_u (laws.convicted u verdict_u).1;
  }

  pub quiet_no_cycle : Quiet s → (k : ℕ) (cycle : List ℕ) → Cycle (graph_of s) k cycle → ⊥
  quiet_no_cycle quiet k cycle is =
      quiet_has_no_cycle (graph_of s) (graph_lawful s laws) quiet.transmitted
      (λ v h returned. (let never : false ≡ true = sym (quiet.no_verdict v) ∙ quiet.detected v h returned in cc)) k cycle is
