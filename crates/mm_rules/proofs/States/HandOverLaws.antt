-- The state after a hand-over to a waiter: its graph is that of a hand-over, and it keeps the laws.
use Rattle.std.proofs.Common.{◌≡◌, ◌≢◌, ◌⊎◌, ℕ, ◌<◌, List, ◌∷◌, length, map, nat_eq, true, not, Some, None, option_map, option_and_then, IsTrue, inl, inr, refl, sym, ap, subst, ◌∙◌, arith, length-set}
use Rattle.std.specs.List.{list_all}
use Rattle.std.proofs.lemmas.Bool.{cases_eq, cases_lt, eq-eqb, eqb-true, leb-true}
use Rattle.std.proofs.lemmas.List.{get_or_past}
use Rattle.mm_label.specs.Label.{Label, word_of}
use Rattle.mm_arena.specs.declared.key.Key.{Key}
use Rattle.mm_lists.specs.Members.{Among, NoRepeat}
use Rattle.mm_lists.proofs.Lemmas.Among.{all_at, all_from, among_map, among_map_gives, among_or_not, list_all_at}
use Rattle.mm_lists.proofs.Lemmas.Filter.{filter_gives, filter_keeps}
use Rattle.mm_lists.proofs.Lemmas.NoRepeat.{no_repeat_filter}
use Rattle.mm_rules.specs.Graph.{WaitsFor, LabelReturned}
use Rattle.mm_rules.specs.TableState.{TableState, Wait, is_of, is_live, owner_of, wait_of, has_verdict, waiters_of, public_of, graph_of}
use Rattle.mm_rules.specs.Change.{label_against, activate, block_fits}
use Rattle.mm_rules.specs.Laws.{IsHeld, WellFormed, Laws}
use Rattle.mm_rules.proofs.States.IsSized.{same_lengths}
use Rattle.mm_rules.proofs.Graph.Change.{SameAt}
use Rattle.mm_rules.proofs.Graph.HandOver.{HandsOver, KeepsAll, hand_over_keeps_all}
use Rattle.mm_rules.proofs.Graph.Closes.{hand_over_waits, hand_over_keeps_inner}
use Rattle.mm_rules.proofs.States.LabelOrder.{word_process, word_process_is, fresh_above, at_most_to}
use Rattle.mm_rules.proofs.States.ClosesNone.{ClosesNone, closes_none_by}
use Rattle.mm_rules.proofs.States.Lookups.{WaitsHere, waits_here, waiter_waits, waiter_within, waiter_live, no_holder, holder_is, waiting_is_some}
use Rattle.mm_rules.proofs.States.Laws.{graph_lawful, graph_makers, laws_by, public_within}
use Rattle.mm_rules.proofs.States.Outcome.{KeepsLaws}
use Rattle.mm_rules.proofs.States.Relabels.{KeepsLabels, GetsLabel, Relabels, relabelled_private, relabelled_bounds, relabelled_rise}
use Rattle.mm_rules.proofs.States.Grant.{owned_by, owner_now, owner_else, holder_same}
use Rattle.mm_rules.proofs.States.Activate.{wait_of_another, waits_no_longer, waits_else}
use Rattle.mm_rules.proofs.States.Block.{process_of, LabelsAfter}

-- r went to the first waiter, and labels are these
abbrev pub given_to_first : TableState → ℕ → Wait → List Label → List Label → TableState
given_to_first s r first privates publics = record (activate (owned_by s r (Some first.key)) first.key.process) { private = privates; public = publics }

-- what r's owner has to be for a hand-over, and who waits for r
pub record MayHandOver (s : TableState) (r : ℕ) (owner : Key) : Type 0 where
  pub laws : Laws s
  pub owned : owner_of s r ≡ Some owner
  pub active : wait_of s owner.process ≡ None

module _ (s : TableState) (r : ℕ) (owner : Key) (may : MayHandOver s r owner) where
  pub owner_within : r < length s.owners
  owner_within = elim (cases_lt r (length s.owners)) [
    | inl inside ↦ inside
    | inr past ↦ (let never : None ≡ Some owner = sym (get_or_past s.owners r None past) ∙ may.owned in absurd (cc))
  ]

  -- who waits for r is a waiter of r, and the other way round
  pub waiter_gives : (w : Wait) → Among w (waiters_of s r) → Among w s.waits × (w.resource ≡ r)
  waiter_gives w among =
      let was : Among w s.waits × (nat_eq w.resource r ≡ true) = filter_gives (λ w. nat_eq w.resource r) s.waits w among in
      (was.0, eqb-true w.resource r was.1)

  pub waiter_is : (w : Wait) → Among w s.waits → w.resource ≡ r → Among w (waiters_of s r)
  waiter_is w among e = filter_keeps (λ w. nat_eq w.resource r) s.waits w among (eq-eqb w.resource r e)

  waits_for_owner : (w : Wait) → Among w (waiters_of s r) → WaitsFor (graph_of s) w.key.process owner.process
  waits_for_owner w among =
      let was : Among w s.waits × (w.resource ≡ r) = waiter_gives w among in
      holder_is s w.key.process r owner (waiter_waits s may.laws.lawful.well_formed w w.key.process was.0 refl ∙ ap Some was.1) may.owned

  module _ (first : Wait) (others : List Wait) (are : waiters_of s r ≡ first ∷ others) (privates publics : List Label) where
    pub waiter_here : (w : Wait) → Among w (first ∷ others) → Among w (waiters_of s r)
    waiter_here w among = rw are among

    pub waiters_once : NoRepeat (map process_of (first ∷ others))
    waiters_once = rw are at (no_repeat_filter process_of (λ w. nat_eq w.resource r) s.waits may.laws.lawful.well_formed.waits_once)

    -- who waits for r is the first waiter, or one of the others
    waiter_cases : (k : ℕ) → wait_of s k ≡ Some r → (k ≡ first.key.process) ⊎ Among k (map process_of others)
    waiter_cases k waits =
        let here : WaitsHere s k r = waits_here s k r waits in
        let among : Among here.wait (first ∷ others) = rw are at (waiter_is here.wait here.among here.resource) in
        elim (among_map process_of (first ∷ others) here.wait among) [
          | inl e ↦ inl (sym here.process ∙ e)
          | inr later ↦ inr (let P : ℕ → Type 0 = λ x. Among x (map process_of others) in subst P here.process later)
        ]

    module _ (fits : list_all (λ w. block_fits s w.key.process first.key.process) others ≡ true)
        (labels : LabelsAfter s first.key.process others (given_to_first s r first privates publics)) where
      first_in : first.key.process < s.config.processes
      first_in = waiter_within s may.laws.lawful.well_formed first (waiter_gives first (waiter_here first (inl refl))).0

      other_of : (k : ℕ) → Among k (map process_of others) → (w : Wait) × Among w others × (k ≡ w.key.process)
      other_of k among = among_map_gives process_of others k among

      other_in : (k : ℕ) → Among k (map process_of others) → k < s.config.processes
      other_in k among =
          let w : (w : Wait) × Among w others × (k ≡ w.key.process) = other_of k among in
          omega (arith, w.2, waiter_within s may.laws.lawful.well_formed w.0 (waiter_gives w.0 (waiter_here w.0 (inr w.1))).0)

      other_waits : (k : ℕ) → Among k (map process_of others) → WaitsFor (graph_of s) k owner.process
      other_waits k among =
          let w : (w : Wait) × Among w others × (k ≡ w.key.process) = other_of k among in
          rw w.2 (waits_for_owner w.0 (waiter_here w.0 (inr w.1)))

      other_wait : (k : ℕ) → Among k (map process_of others) → wait_of s k ≡ Some r
      other_wait k among =
          let w : (w : Wait) × Among w others × (k ≡ w.key.process) = other_of k among in
          let was : Among w.0 s.waits × (w.0.resource ≡ r) = waiter_gives w.0 (waiter_here w.0 (inr w.1)) in
          waiter_waits s may.laws.lawful.well_formed w.0 k was.0 (sym w.2) ∙ ap Some was.1

      not_first : (k : ℕ) → Among k (map process_of others) → k ≢ first.key.process
      not_first k among e = waiters_once.0 (rw e at among)

      not_an_other : Among first.key.process (map process_of others) → ⊥
      not_an_other = waiters_once.0

      owner_is_first : owner_of (given_to_first s r first privates publics) r ≡ Some first.key
      owner_is_first = owner_now s r (Some first.key) owner_within

      others_wait_now : (k : ℕ) → Among k (map process_of others) → WaitsFor (graph_of (given_to_first s r first privates publics)) k first.key.process
      others_wait_now k among =
          holder_is (given_to_first s r first privates publics) k r first.key (waits_else s first.key.process k (not_first k among) ∙ other_wait k among) owner_is_first

      elsewhere_same : (k : ℕ) → k ≢ first.key.process → (Among k (map process_of others) → ⊥) → SameAt (graph_of s) (graph_of (given_to_first s r first privates publics)) k
      elsewhere_same k apart never =
          let other : (q : ℕ) → wait_of s k ≡ Some q → q ≢ r = λ q waits e. elim (waiter_cases k (waits ∙ ap Some e)) [ inl d ↦ apart d | inr among ↦ never among ] in
          let same : KeepsLabels s (given_to_first s r first privates publics) k = labels.others k never in
          record {
            holder = ap (λ o. option_map (λ (k : Key). k.process) (option_and_then (owner_of (owned_by s r (Some first.key))) o)) (waits_else s first.key.process k apart)
                ∙ holder_same s r (Some first.key) k (wait_of s k) other;
            private = ap word_of same.private;
            public = ap word_of same.public;
          }

      hands_over : HandsOver word_process (graph_of s) owner.process first.key.process (map process_of others) (λ k. word_of (label_against s k first.key.process)) (graph_of (given_to_first s r first privates publics))
      hands_over = record {
        giver = no_holder s owner.process may.active;
        first = waits_for_owner first (waiter_here first (inl refl));
        waiting = other_waits;
        simple = waiters_once;
        above = λ k among. fresh_above (public_of s k) (public_of s first.key.process) k (public_within s may.laws k (other_in k among));
        named = λ k among. word_process_is (label_against s k first.key.process) (omega (arith, other_in k among, may.laws.lawful.well_formed.config.processes));
        processes = refl;
        first_now = (
          no_holder (given_to_first s r first privates publics) first.key.process (waits_no_longer s first.key.process),
          ap word_of (labels.others first.key.process not_an_other).private,
          ap word_of (labels.others first.key.process not_an_other).public,
        );
        rest_now = λ k among. (others_wait_now k among, ap word_of (labels.waiters k among).0, ap word_of (labels.waiters k among).1);
        others = elsewhere_same;
      }

      kept : KeepsAll word_process (graph_of s) (graph_of (given_to_first s r first privates publics))
      kept = hand_over_keeps_all word_process (graph_of s) owner.process first.key.process (λ k. word_of (label_against s k first.key.process)) (map process_of others)
          (graph_of (given_to_first s r first privates publics)) hands_over (graph_lawful s may.laws) (graph_makers s may.laws)

      returned : (v : ℕ) → IsTrue (has_verdict s v) → (h : ℕ) × LabelReturned (graph_of (given_to_first s r first privates publics)) v h
      returned v verdict = ((may.laws.convicted v verdict).0, kept.returned v (may.laws.convicted v verdict).0 (may.laws.convicted v verdict).1)

      gets_label : (k : ℕ) → Among k (map process_of others) → GetsLabel s (given_to_first s r first privates publics) k (label_against s k first.key.process)
      gets_label k among =
          let w : (w : Wait) × Among w others × (k ≡ w.key.process) = other_of k among in
          let fit : IsTrue (block_fits s k first.key.process) = rw w.2 (list_all_at (λ w. block_fits s w.key.process first.key.process) others w.0 fits w.1) in
          record {
            private = (labels.waiters k among).0;
            public = (labels.waiters k among).1;
            own = refl;
            above = omega arith;
            limit = leb-true (label_against s k first.key.process).counter s.config.label_limit fit;
          }

      relabels : (k : ℕ) → Relabels s (given_to_first s r first privates publics) k
      relabels k = elim (among_or_not k (map process_of others)) [
        | inl among ↦ inr (label_against s k first.key.process, gets_label k among)
        | inr never ↦ inl (labels.others k never)
      ]

      held_now : (w : Wait) → Among w (given_to_first s r first privates publics).waits → IsTrue (is_live s w.key) × IsHeld (given_to_first s r first privates publics) w
      held_now w among =
          let was : Among w s.waits × (w.key.process ≢ first.key.process) = wait_of_another s first.key.process w among in
          let before : IsTrue (is_live s w.key) × IsHeld s w = all_at (λ w. IsTrue (is_live s w.key) × IsHeld s w) s.waits w may.laws.lawful.well_formed.waits was.0 in (
            before.0,
            elim (cases_eq w.resource r) [
              | inl e ↦ rw (ap (owner_of (given_to_first s r first privates publics)) e ∙ owner_is_first) (λ d. was.1 (sym d))
              | inr apart ↦ rw (owner_else s r w.resource (Some first.key) apart) before.1
            ],
          )

      given_formed : WellFormed (given_to_first s r first privates publics)
      given_formed = record {
        config = may.laws.lawful.well_formed.config;
        sizes = same_lengths s _ may.laws.lawful.well_formed.sizes refl refl refl labels.private_sized labels.public_sized refl (length-set s.owners r (Some first.key));
        owners = λ q k owned. elim (cases_eq q r) [
          | inl e ↦
              let same : Some first.key ≡ Some k = sym owner_is_first ∙ ap (owner_of (given_to_first s r first privates publics)) (sym e) ∙ owned in
              let key : first.key ≡ k = cc in
              rw (← key) (waiter_live s may.laws.lawful.well_formed first (waiter_gives first (waiter_here first (inl refl))).0)
          | inr apart ↦ may.laws.lawful.well_formed.owners q k (sym (owner_else s r q (Some first.key) apart) ∙ owned)
        ];
        waits = all_from _ (given_to_first s r first privates publics).waits held_now;
        waits_once = no_repeat_filter process_of (λ w. not (is_of first.key.process w)) s.waits may.laws.lawful.well_formed.waits_once;
        verdicts = λ v verdict. waiting_is_some (given_to_first s r first privates publics) v (returned v verdict).0 (returned v verdict).1.waits;
        free = may.laws.lawful.well_formed.free;
        free_once = may.laws.lawful.well_formed.free_once;
      }

      pub given_to_first_keeps : KeepsLaws s (given_to_first s r first privates publics)
      given_to_first_keeps = record {
        laws = laws_by (given_to_first s r first privates publics) given_formed
            (relabelled_private s (given_to_first s r first privates publics) may.laws relabels)
            (relabelled_bounds s (given_to_first s r first privates publics) may.laws relabels refl)
            kept.lawful may.laws.lawful.counted returned;
        rise = relabelled_rise s (given_to_first s r first privates publics) may.laws relabels;
      }

      pub given_closes_none : ClosesNone s (given_to_first s r first privates publics)
      given_closes_none =
          let g = graph_of s in
          let new = graph_of (given_to_first s r first privates publics) in
          let rest = map process_of others in
          let label : ℕ → ℕ = λ k. word_of (label_against s k first.key.process) in
          closes_none_by s (given_to_first s r first privates publics)
          (hand_over_keeps_inner word_process g owner.process first.key.process rest label new hands_over)
          (λ v h waits was. was)
          (λ n h waits same. elim (hand_over_waits word_process g owner.process first.key.process rest label new hands_over n h waits) [
            | inl to_first ↦
                let holder : public_of (given_to_first s r first privates publics) h ≡ public_of s first.key.process
                = ap (public_of (given_to_first s r first privates publics)) to_first.1 ∙ (labels.others first.key.process not_an_other).public in
                inr (rw (holder, (labels.waiters n to_first.0).1) (at_most_to (public_of s first.key.process) (label_against s n first.key.process) (inl (omega arith))))
            | inr before ↦ inl before
          ])
