-- A withdrawal from rest keeps the laws, and closes no cycle of waits.
use Rattle.std.proofs.Common.{◌≡◌, ◌≢◌, ◌&&◌, ℕ, ◌<◌, ◌≤◌, Bool, true, false, not, if◌then◌else◌, nat_eq, Result, IsTrue, IsFalse, inl, inr, refl, sym, ap, subst, ne_eqb, ◌∙◌, arith}
use Rattle.std.specs.Prelude.{⊤}
use Rattle.std.proofs.Math.Decide.{ℕ_discrete}
use Rattle.std.proofs.lemmas.Bool.{and_parts, and_from, not-false, not-true, eqb-false}
use Rattle.mm_label.specs.Label.{label_eq, word_of}
use Rattle.mm_arena.specs.declared.key.Key.{Key}
use Rattle.mm_rules.specs.declared.refusal.Refusal.{Refusal}
use Rattle.mm_rules.specs.Graph.{WaitsFor, IsWaiting, Propagated, IsSettled}
use Rattle.mm_rules.specs.TableState.{TableState, is_waiting, has_verdict, private_of, public_of, graph_of}
use Rattle.mm_rules.specs.Change.{block, block_fits, activate}
use Rattle.mm_rules.specs.Laws.{Laws, AtRest}
use Rattle.mm_rules.specs.Withdraw.{renew, renew_fits, shown_process, shows_waiting, withdraw, withdraw_tests, withdrawn, Withdraws}
use Rattle.mm_rules.proofs.Graph.Change.{Loose, MayActivate}
use Rattle.mm_rules.proofs.Graph.Walks.{walk_again, OnTheWay}
use Rattle.mm_rules.proofs.Graph.IsSettled.{falls_to}
use Rattle.mm_rules.proofs.Graph.Renew.{renewed_loose, settled_loose}
use Rattle.mm_rules.proofs.States.LabelOrder.{label_eq_true, label_eq_is, label_le_counter, same_label, word_process, word_tells}
use Rattle.mm_rules.proofs.States.Lookups.{holder_within, waiting_has_holder, waiting_is_some}
use Rattle.mm_rules.proofs.States.Laws.{graph_lawful, graph_makers, public_within, private_within}
use Rattle.mm_rules.proofs.States.Outcome.{KeepsLaws, keeps_same, keeps_then, counting_keeps, outcome_keeps}
use Rattle.mm_rules.proofs.States.Activate.{activated_with_keeps}
use Rattle.mm_rules.proofs.States.ClosesNone.{ClosesNone, closes_none_itself, closes_none_then, counting_closes_none}
use Rattle.mm_rules.proofs.States.EventsCloseNone.{activated_closes_none}
use Rattle.mm_rules.proofs.States.Renew.{block_renews, block_renewed_keeps, renew_is, renew_fits_is, renewed_closes_none}

-- the laws stay, and no cycle is closed
pub record Keeps (s new : TableState) : Type 0 where
  pub laws : KeepsLaws s new
  pub closes : ClosesNone s new

-- n, which waits for h without a verdict, waits no longer
activated_keeps : (s : TableState) (n h : ℕ) → Laws s → WaitsFor (graph_of s) n h → IsFalse (has_verdict s n) → MayActivate (graph_of s) n h → Keeps s (activate s n)
activated_keeps s n h laws waits none may =
    let before : (v : ℕ) → has_verdict s v ≡ true → (v ≢ n) × IsTrue (has_verdict s v)
    = λ v verdict. (λ e. (let never : true ≡ false = sym verdict ∙ ap (has_verdict s) e ∙ none in absurd (cc)), verdict) in
    record {
      laws = activated_with_keeps s n h s.verdicts s.totals laws waits may before refl laws.lawful.counted;
      closes = activated_closes_none s n s.verdicts s.totals (λ v apart was. was);
    }

-- ---- whose label n shows

module _ (s : TableState) (n : ℕ) (laws : Laws s) where
  shows_own : shown_process s n ≡ n → private_of s n ≡ public_of s n
  shows_own e =
      let low : (private_of s n).counter ≤ (public_of s n).counter = label_le_counter (private_of s n) (public_of s n) (laws.lawful.private_labels.at_most_public n) in
      let newest : (public_of s n).counter ≤ (private_of s n).counter = laws.lawful.label_bounds.newest n n e in
      same_label (private_of s n) (public_of s n) (omega arith) (laws.lawful.private_labels.own n ∙ sym e)

  -- n shows the label of m, another process that waits with it
  pub record ShowsWaiting (m : ℕ) : Type 0 where
    pub apart : n ≢ m
    pub waiting : IsTrue (is_waiting s m)
    pub label : private_of s m ≡ public_of s n

  pub shows_waiting_gives : shows_waiting s n ≡ true → ShowsWaiting (shown_process s n)
  shows_waiting_gives is =
      let m = shown_process s n in
      let parts = and_parts (not (nat_eq m n)) (is_waiting s m && label_eq (private_of s m) (public_of s n)) is in
      let more = and_parts (is_waiting s m) (label_eq (private_of s m) (public_of s n)) parts.1 in
      record {
        apart = λ e. eqb-false m n (not-true (nat_eq m n) parts.0) (sym e);
        waiting = more.0;
        label = label_eq_true (private_of s m) (public_of s n) more.1;
      }

  -- where it shows no other one's, it shows its own, or none with which a process waits
  unowned : n < s.config.processes → shown_process s n ≢ n → shows_waiting s n ≡ false → (w : ℕ) → IsWaiting (graph_of s) w → (graph_of s).private w ≢ (graph_of s).public n
  unowned n_in apart is w waiting e =
      let w_in : w < s.config.processes = (holder_within s laws.lawful.well_formed w waiting.0 waiting.1).0 in
      let same : private_of s w ≡ public_of s n = word_tells (private_of s w) (public_of s n) (private_within s laws w w_in) (public_within s laws n n_in) e in
      let m : w ≡ shown_process s n = sym (laws.lawful.private_labels.own w) ∙ ap (λ l. l.process) same in
      let yes : shows_waiting s n ≡ true = and_from (not (nat_eq (shown_process s n) n)) _ (ap not (ne_eqb (shown_process s n) n apart))
      (and_from (is_waiting s (shown_process s n)) _ (rw (← m) (waiting_is_some s w waiting.0 waiting.1)) (label_eq_is (private_of s (shown_process s n)) (public_of s n) (rw (← m) same))) in
      let never : true ≡ false = sym yes ∙ is in
      absurd (cc)

-- ---- the change

module _ (s : TableState) (n : ℕ) (laws : Laws s) (settled : IsSettled (graph_of s)) (waiting : IsTrue (is_waiting s n)) (none : IsFalse (has_verdict s n)) where
  waits : IsWaiting (graph_of s) n
  waits = waiting_has_holder s laws.lawful.well_formed n waiting

  within : n < s.config.processes
  within = (holder_within s laws.lawful.well_formed n waits.0 waits.1).0

  -- where nobody is renewed
  alone_keeps : shows_waiting s n ≡ false → Keeps s (activate s n)
  alone_keeps is = elim (ℕ_discrete (shown_process s n) n) [
    | yes e ↦ activated_keeps s n waits.0 laws waits.1 none (inr (inl (ap word_of (sym (shows_own s n laws e)))))
    | no apart ↦ activated_keeps s n waits.0 laws waits.1 none (inr (inr (settled_loose (graph_of s) n settled (unowned s n laws within apart is))))
  ]

  module _ (m : ℕ) (shows : ShowsWaiting s n laws m) where
    m_waits : IsWaiting (graph_of s) m
    m_waits = waiting_has_holder s laws.lawful.well_formed m shows.waiting

    m_within : m < s.config.processes
    m_within = (holder_within s laws.lawful.well_formed m m_waits.0 m_waits.1).0

    -- at rest the one whose label came to n shows it too
    m_own : private_of s m ≡ public_of s m
    m_own =
        let g = graph_of s in
        let came : Propagated g (g.private m) n m = laws.lawful.propagated m m_waits.0 n m_waits.1 within shows.apart (ap word_of (sym shows.label)) in
        let down : g.public m ≤ g.public n = falls_to g settled n came.places m (walk_again g g (OnTheWay g (g.private m) m) (λ k. ⊤) (λ k j w each. (tt, w)) n came.places m came.along) in
        word_tells (private_of s m) (public_of s m) (private_within s laws m m_within) (public_within s laws m m_within)
        (omega (arith, ap word_of shows.label, (graph_lawful s laws).ordered m m_within))

    renewed_keeps : IsFalse (has_verdict s m) → IsTrue (renew_fits s m) → Keeps s (activate (renew s m) n)
    renewed_keeps m_none fits =
        let h = m_waits.0 in
        let fit : IsTrue (block_fits s m h) = sym (renew_fits_is s m h m_waits.1) ∙ fits in
        let t = block s m h in
        let first : KeepsLaws s t = block_renewed_keeps s m h laws m_waits.1 m_own fit m_none in
        let loose : Loose (graph_of t) n = renewed_loose word_process (graph_of s) (graph_of t) m h _ (block_renews s m h laws m_waits.1 m_own fit) (graph_lawful s laws) (graph_makers s laws)
        n within shows.apart (ap word_of (sym shows.label)) settled in
        let later : Keeps t (activate t n) = activated_keeps t n waits.0 first.laws waits.1 none (inr (inr loose)) in
        rw (renew_is s m h m_waits.1) (record {
          laws = keeps_then s t (activate t n) first later.laws;
          closes = closes_none_then s t (activate t n) (renewed_closes_none s m h) later.closes first later.laws;
        })

  by_case : (b : Bool) → shows_waiting s n ≡ b → (b && has_verdict s (shown_process s n)) ≡ false → (b && not (renew_fits s (shown_process s n))) ≡ false
      → Keeps s (activate (if b then renew s (shown_process s n) else s) n)
  by_case false is carried fits = alone_keeps is
  by_case true is carried fits = renewed_keeps (shown_process s n) (shows_waiting_gives s n laws is) carried (not-false (renew_fits s (shown_process s n)) fits)

withdrawn_keeps : (s : TableState) (k : Key) → Laws s → AtRest s → Keeps s (withdrawn s k).state
withdrawn_keeps s k laws rest =
    outcome_keeps (λ t. Keeps s t) (λ t n was. record { laws = counting_keeps s t n was.laws; closes = counting_closes_none s t n was.closes })
    s tt (withdraw s k.process) (withdraw_tests s k) (record { laws = keeps_same s laws; closes = closes_none_itself s })
    (λ passed. by_case s k.process laws rest.transmitted (not-false (is_waiting s k.process) passed.1.1.0) passed.1.1.1.0 (shows_waiting s k.process) refl passed.1.1.1.1.0 passed.1.1.1.1.1.0)

pub withdraw_keeps : (k : Key) (old new : TableState) (reply : Result (Unit {0}) Refusal) → Withdraws k old reply new → Laws old → AtRest old → Keeps old new
withdraw_keeps k old new reply step laws rest = let P : TableState → Type 0 = λ t. Keeps old t in subst P (sym step.1) (withdrawn_keeps old k laws rest)
