-- A hand-over keeps the laws, and leaves what the next hand-over of the same owner needs.
use Rattle.std.proofs.Common.{◌≡◌, ◌≢◌, ℕ, ◌<◌, List, [], ◌∷◌, length, map, nat_eq, true, not, Some, None, IsTrue, inl, inr, refl, sym, ap, subst, ◌∙◌, arith}
use Rattle.std.specs.List.{list_all}
use Rattle.std.proofs.lemmas.Bool.{cases_eq, eqb-true, ne_eqb, not_from_false}
use Rattle.mm_label.specs.Label.{Label}
use Rattle.mm_arena.specs.declared.key.Key.{Key}
use Rattle.mm_lists.specs.Members.{Among}
use Rattle.mm_lists.proofs.Lemmas.Among.{among_map_gives, list_all_at, list_all_from}
use Rattle.mm_lists.proofs.Lemmas.Filter.{filter_filter, filter_gives}
use Rattle.mm_rules.specs.Graph.{Graph}
use Rattle.mm_rules.specs.TableState.{TableState, Wait, is_of, owner_of, wait_of, waiters_of, public_of}
use Rattle.mm_rules.specs.Change.{activate, block_fits, give_to, give_to_fits, hand_over, hand_over_fits}
use Rattle.mm_rules.proofs.States.Lookups.{WaitsHere, waits_here, waiter_waits, waiter_within}
use Rattle.mm_rules.proofs.States.Outcome.{KeepsLaws}
use Rattle.mm_rules.proofs.States.ClosesNone.{ClosesNone, same_holders_close_none}
use Rattle.mm_rules.proofs.States.Grant.{owned_by, owner_now, owner_else, unwaited_graph, unwaited_keeps}
use Rattle.mm_rules.proofs.States.Activate.{waits_no_longer, waits_else}
use Rattle.mm_rules.proofs.States.Block.{process_of, blocked_all, blocked_is, LabelsAfter, labels_after}
use Rattle.mm_rules.proofs.States.HandOverLaws.{MayHandOver, given_to_first, owner_within, waiter_gives, waiter_is, waiter_here, waiters_once, given_to_first_keeps, given_closes_none}

-- r's owner o handed it over, from s to new
pub record HandedOver (s : TableState) (r o : ℕ) (new : TableState) : Type 0 where
  pub keeps : KeepsLaws s new
  pub closes : ClosesNone s new
  pub config : new.config ≡ s.config
  pub generations : new.generations ≡ s.generations
  pub live : new.live ≡ s.live
  pub free : new.free ≡ s.free
  pub gone : (k : Key) → owner_of new r ≡ Some k → k.process ≢ o
  pub owners : (q : ℕ) → q ≢ r → owner_of new q ≡ owner_of s q
  pub still : wait_of s o ≡ None → wait_of new o ≡ None
  pub waiters : (q : ℕ) → q ≢ r → waiters_of new q ≡ waiters_of s q
  pub publics : (w : Wait) → Among w s.waits → w.resource ≢ r → public_of new w.key.process ≡ public_of s w.key.process

module _ (s : TableState) (r : ℕ) (owner : Key) (may : MayHandOver s r owner) where
  -- nobody waits for r
  to_nobody : waiters_of s r ≡ [] → HandedOver s r owner.process (owned_by s r None)
  to_nobody empty =
      let none : (w : Wait) → Among w s.waits → w.resource ≢ r = λ w among e. rw empty at (waiter_is s r owner may w among e) in
      record {
        keeps = unwaited_keeps s r None (λ n waits. let here : WaitsHere s n r = waits_here s n r waits in none here.wait here.among here.resource) none
            (λ k e. absurd (cc)) may.laws;
        closes = same_holders_close_none s (owned_by s r None) (λ n. ap (λ (g : Graph). g.holder n) (unwaited_graph s r None (λ m waits. let here : WaitsHere s m r = waits_here s m r waits in none here.wait here.among here.resource)))
            (λ v was. was);
        config = refl;
        generations = refl;
        live = refl;
        free = refl;
        gone = λ k owned. (let never : None ≡ Some k = sym (owner_now s r None (owner_within s r owner may)) ∙ owned in absurd (cc));
        owners = λ q apart. owner_else s r q None apart;
        still = λ active. active;
        waiters = λ q apart. refl;
        publics = λ w among apart. refl;
      }

  module _ (first : Wait) (others : List Wait) (are : waiters_of s r ≡ first ∷ others) (fits : list_all (λ w. block_fits s w.key.process first.key.process) others ≡ true) where
    -- the labels of the new state, over s
    labels_now : (privates publics : List Label) → LabelsAfter (activate (owned_by s r (Some first.key)) first.key.process) first.key.process others (given_to_first s r first privates publics)
        → LabelsAfter s first.key.process others (given_to_first s r first privates publics)
    labels_now privates publics labels = record {
      waiters = labels.waiters;
      others = λ k never. record { private = (labels.others k never).private; public = (labels.others k never).public };
      private_sized = labels.private_sized;
      public_sized = labels.public_sized;
    }

    -- who waits for another resource is none of the waiters of r
    not_waiter : (w : Wait) → Among w s.waits → w.resource ≢ r → Among w.key.process (map process_of (first ∷ others)) → ⊥
    not_waiter w among apart found =
        let other : (x : Wait) × Among x (first ∷ others) × (w.key.process ≡ x.key.process) = among_map_gives process_of (first ∷ others) w.key.process found in
        let was : Among other.0 s.waits × (other.0.resource ≡ r) = waiter_gives s r owner may other.0 (waiter_here s r owner may first others are [] [] other.0 other.1) in
        let mine : wait_of s w.key.process ≡ Some w.resource = waiter_waits s may.laws.lawful.well_formed w w.key.process among refl in
        let its : wait_of s w.key.process ≡ Some other.0.resource = waiter_waits s may.laws.lawful.well_formed other.0 w.key.process was.0 (sym other.2) in
        let same : Some w.resource ≡ Some other.0.resource = sym mine ∙ its in
        let resource : w.resource ≡ other.0.resource = cc in
        apart (resource ∙ was.1)

    to_first : (privates publics : List Label) → LabelsAfter s first.key.process others (given_to_first s r first privates publics) → HandedOver s r owner.process (given_to_first s r first privates publics)
    to_first privates publics labels = record {
      keeps = given_to_first_keeps s r owner may first others are privates publics fits labels;
      closes = given_closes_none s r owner may first others are privates publics fits labels;
      config = refl;
      generations = refl;
      live = refl;
      free = refl;
      gone = λ k owned e.
          let same : Some first.key ≡ Some k = sym (owner_now s r (Some first.key) (owner_within s r owner may)) ∙ owned in
          let key : first.key ≡ k = cc in
          let was : Among first s.waits × (first.resource ≡ r) = waiter_gives s r owner may first (waiter_here s r owner may first others are privates publics first (inl refl)) in
          let waits : wait_of s owner.process ≡ Some first.resource = waiter_waits s may.laws.lawful.well_formed first owner.process was.0 (ap (λ (k : Key). k.process) key ∙ e) in
          let never : None ≡ Some first.resource = sym may.active ∙ waits in
          absurd (cc);
      owners = λ q apart. owner_else s r q (Some first.key) apart;
      still = λ active. elim (cases_eq owner.process first.key.process) [
        | inl e ↦ rw e (waits_no_longer s first.key.process)
        | inr apart ↦ waits_else s first.key.process owner.process apart ∙ active
      ];
      waiters = λ q apart. filter_filter (λ w. nat_eq w.resource q) (λ w. not (is_of first.key.process w)) s.waits (λ w among for_q.
          let other : w.resource ≢ r = λ e. apart (sym (eqb-true w.resource q for_q) ∙ e) in
          not_from_false (is_of first.key.process w) (ne_eqb w.key.process first.key.process (λ e. not_waiter w among other (inl e))));
      publics = λ w among apart. (labels.others w.key.process (λ found. not_waiter w among apart (inr found))).public;
    }

    others_within : (w : Wait) → Among w others → (w.key.process < length s.private) × (w.key.process < length s.public)
    others_within w among =
        let was : Among w s.waits × (w.resource ≡ r) = waiter_gives s r owner may w (waiter_here s r owner may first others are [] [] w (inr among)) in
        let within : w.key.process < s.config.processes = waiter_within s may.laws.lawful.well_formed w was.0 in
        (omega (arith, may.laws.lawful.well_formed.sizes.private), omega (arith, may.laws.lawful.well_formed.sizes.public))

    blocked : HandedOver s r owner.process (blocked_all (activate (owned_by s r (Some first.key)) first.key.process) first.key.process others)
    blocked =
        let privates : List Label = (blocked_all (activate (owned_by s r (Some first.key)) first.key.process) first.key.process others).private in
        let publics : List Label = (blocked_all (activate (owned_by s r (Some first.key)) first.key.process) first.key.process others).public in
        let is : blocked_all (activate (owned_by s r (Some first.key)) first.key.process) first.key.process others ≡ given_to_first s r first privates publics
        = blocked_is (activate (owned_by s r (Some first.key)) first.key.process) first.key.process others in
        let after : LabelsAfter (activate (owned_by s r (Some first.key)) first.key.process) first.key.process others
        (blocked_all (activate (owned_by s r (Some first.key)) first.key.process) first.key.process others)
        = labels_after (activate (owned_by s r (Some first.key)) first.key.process) first.key.process others
        (waiters_once s r owner may first others are [] []).1 (waiters_once s r owner may first others are [] []).0 others_within in
        let labels : LabelsAfter (activate (owned_by s r (Some first.key)) first.key.process) first.key.process others (given_to_first s r first privates publics)
        = subst (λ t. LabelsAfter (activate (owned_by s r (Some first.key)) first.key.process) first.key.process others t) is after in
        subst (λ t. HandedOver s r owner.process t) (sym is) (to_first privates publics (labels_now privates publics labels))

  pub give_to_keeps : (ws : List Wait) → waiters_of s r ≡ ws → IsTrue (give_to_fits s ws) → HandedOver s r owner.process (give_to s r ws)
  give_to_keeps [] are fits = to_nobody are
  give_to_keeps (first ∷ others) are fits = blocked first others are fits

  pub hand_over_keeps : IsTrue (hand_over_fits s r) → HandedOver s r owner.process (hand_over s r)
  hand_over_keeps fits = give_to_keeps (waiters_of s r) refl fits

-- ---- the label limit, after the hand-over of another resource

pub fits_again : (s new : TableState) (ws : List Wait) → new.config ≡ s.config → ((w : Wait) → Among w ws → public_of new w.key.process ≡ public_of s w.key.process)
    → IsTrue (give_to_fits s ws) → IsTrue (give_to_fits new ws)
fits_again s new [] config same fits = refl
fits_again s new (first ∷ others) config same fits = list_all_from (λ w. block_fits new w.key.process first.key.process) others (λ w among.
    let was : block_fits s w.key.process first.key.process ≡ true = list_all_at (λ w. block_fits s w.key.process first.key.process) others w fits among in
    rw (same w (inr among), same first (inl refl), config) was)

pub others_fit : (s new : TableState) (r o q : ℕ) → HandedOver s r o new → q ≢ r → IsTrue (hand_over_fits s q) → IsTrue (hand_over_fits new q)
others_fit s new r o q over apart fits = rw (over.waiters q apart) (fits_again s new (waiters_of s q) over.config (λ w among.
    let was : Among w s.waits × (nat_eq w.resource q ≡ true) = filter_gives (λ w. nat_eq w.resource q) s.waits w among in
    over.publics w was.0 (λ e. apart (sym (eqb-true w.resource q was.1) ∙ e))) fits)
