-- What a release and the end of a transaction leave of owners, waits and verdicts.
use Rattle.std.proofs.Common.{◌≡◌, ◌≢◌, ◌⊎◌, ◌<◌, ◌+◌, ℕ, Bool, true, false, length, fold, nat_eq, Some, None, Ok, IsTrue, slice_index_or, inl, inr, sym, ap, subst, ◌∙◌, arith}
use Rattle.std.specs.List.{range_with_len}
use Rattle.std.proofs.lemmas.Bool.{cases_lt, eqb-true, eqb-false, not-false}
use Rattle.std.proofs.lemmas.List.{get_or_past}
use Rattle.mm_arena.specs.declared.key.Key.{Key}
use Rattle.mm_lists.specs.Members.{Among}
use Rattle.mm_lists.proofs.Lemmas.Filter.{filter_gives, filter_keeps}
use Rattle.mm_lists.proofs.Lemmas.Range.{among_range, no_repeat_filter_range}
use Rattle.mm_rules.specs.declared.reply.Released.{Released}
use Rattle.mm_rules.specs.TableState.{TableState, has_verdict, owner_of, owns, resources_of, wait_of, waited_for, waiters_of}
use Rattle.mm_rules.specs.Change.{free_slot, hand_over, hand_over_fits, vacate, vacate_fits}
use Rattle.mm_rules.specs.Event.{Release, Finish, Step, release_tests, release_answer, finish_tests}
use Rattle.mm_rules.specs.Laws.{Laws}
use Rattle.mm_rules.proofs.States.Config.{event_config}
use Rattle.mm_rules.proofs.States.HandOver.{hand_over_keeps}
use Rattle.mm_rules.proofs.States.HandOverLaws.{MayHandOver, owner_within}
use Rattle.mm_rules.proofs.States.Lookups.{none_of_is_some}
use Rattle.mm_rules.proofs.States.Outcome.{counting}
use Rattle.mm_rules.proofs.States.Release.{owns_gives, may_hand_over}
use Rattle.mm_rules.proofs.States.Vacate.{vacating_begins, vacating_ends}
use Rattle.mm_settled.proofs.Lemmas.Accepted.{IsAccepted, accepted}
use Rattle.mm_settled.proofs.Lemmas.HandsOn.{HandsAll, hand_over_else, hand_over_owner, hand_over_verdicts, hand_over_wait, hands_all, next_waits, free_slot_owners, free_slot_waits, free_slot_verdicts}

-- m waited for what it owns now, and waits no longer
pub record IsGranted (s new : TableState) (m : ℕ) : Type 0 where
  pub resource : ℕ
  pub key : Key
  pub process : key.process ≡ m
  pub waited : wait_of s m ≡ Some resource
  pub owns : owner_of new resource ≡ Some key
  pub goes_on : wait_of new m ≡ None

-- from s to new the resources that pass the test were handed over, and nothing else was, by process n
pub record HandsOn (s : TableState) (n : ℕ) (p : ℕ → Bool) (new : TableState) : Type 0 where
  pub config : new.config ≡ s.config
  pub others : (r : ℕ) → p r ≡ false → owner_of new r ≡ owner_of s r
  pub handed : (r : ℕ) (k : Key) → p r ≡ true → owner_of new r ≡ Some k → wait_of s k.process ≡ Some r
  pub own : wait_of new n ≡ None
  pub ended : (m : ℕ) → m ≢ n → (wait_of new m ≡ wait_of s m) ⊎ IsGranted s new m
  pub verdicts : (v : ℕ) → v ≢ n → has_verdict new v ≡ has_verdict s v

pub owner_in_range : (s : TableState) → Laws s → (r : ℕ) (k : Key) → owner_of s r ≡ Some k → r < s.config.resources
owner_in_range s laws r k is = elim (cases_lt r (length s.owners)) [
  | inl within ↦ omega (arith, within, laws.lawful.well_formed.sizes.owners)
  | inr past ↦ (let none : owner_of s r ≡ None = get_or_past s.owners r None past in let never : None ≡ Some k = sym none ∙ is in absurd (cc))
]

-- ---- a release

pub release_hands_on : (s new : TableState) (k : Key) (r : ℕ) (answer : Released) → Laws s → Step (Release k r) s (Ok answer) new → HandsOn s k.process (λ q. nat_eq q r) new
release_hands_on s new k r answer laws step =
    let done : IsAccepted Released (release_tests s k r) (release_answer (waiters_of s r)) (hand_over s r) answer new
    = accepted (release_tests s k r) s (release_answer (waiters_of s r)) (hand_over s r) answer new step in
    let owner : (h : Key) × (owner_of s r ≡ Some h) × (h.process ≡ k.process) = owns_gives s k.process r (not-false (owns s k.process r) done.passed.1.1.1.1.0) in
    let active : wait_of s k.process ≡ None = none_of_is_some (wait_of s k.process) done.passed.1.1.1.0 in
    let may : MayHandOver s r owner.0 = may_hand_over s k.process r owner.0 laws active owner.1 owner.2 in
    let over = hand_over_keeps s r owner.0 may (not-false (hand_over_fits s r) done.passed.1.1.1.1.1.0) in
    let within : r < length s.owners = owner_within s r owner.0 may in
    let is = done.state in
    let owners : (q : ℕ) → owner_of new q ≡ owner_of (hand_over s r) q = λ q. ap (λ t. owner_of t q) is in
    let waits : (m : ℕ) → wait_of new m ≡ wait_of (hand_over s r) m = λ m. ap (λ t. wait_of t m) is in
    let first : (q : ℕ) → q ≡ r → owner_of new q ≡ owner_of (hand_over s r) r = λ q e. owners q ∙ ap (owner_of (hand_over s r)) e in
    record {
      config = event_config (Release k r) s new (Ok answer) step;
      others = λ q other. owners q ∙ hand_over_else s r q (eqb-false q r other);
      handed = λ q h here owned. rw (eqb-true q r here)
          (next_waits s r h laws (sym (hand_over_owner s r within) ∙ sym (first q (eqb-true q r here)) ∙ owned));
      own = waits k.process ∙ subst (λ m. wait_of (hand_over s r) m ≡ None) owner.2 (over.still (subst (λ m. wait_of s m ≡ None) (sym owner.2) active));
      ended = λ m apart. elim (hand_over_wait s r m) [
        | inl same ↦ inl (waits m ∙ same)
        | inr next ↦ inr record {
          resource = r;
          key = next.0.key;
          process = next.0.process;
          waited = subst (λ n. wait_of s n ≡ Some r) next.0.process (next_waits s r next.0.key laws next.0.next);
          owns = owners r ∙ hand_over_owner s r within ∙ next.0.next;
          goes_on = waits m ∙ next.1;
        }
      ];
      verdicts = λ v apart. ap (λ t. has_verdict t v) is ∙ ap (λ vs. slice_index_or vs v false) (hand_over_verdicts s r);
    }

-- ---- the end of a transaction

abbrev pub emptied : TableState → ℕ → TableState
emptied s n = fold hand_over s (resources_of s n)

all_handed : (s : TableState) (n : ℕ) → Laws s → wait_of s n ≡ None → IsTrue (vacate_fits s n) → HandsAll s (resources_of s n) (emptied s n)
all_handed s n laws active fits = hands_all s s n (resources_of s n) (no_repeat_filter_range (owns s n) 0 s.config.resources) (vacating_begins s n laws active fits)

mine_listed : (s : TableState) (n r : ℕ) → Laws s → owns s n r ≡ true → Among r (resources_of s n)
mine_listed s n r laws mine =
    let owner = owns_gives s n r mine in
    let within = owner_in_range s laws r owner.0 owner.1 in
    filter_keeps (owns s n) (range_with_len 0 s.config.resources) r (among_range 0 s.config.resources r (omega arith) (omega arith)) mine

listed_mine : (s : TableState) (n r : ℕ) → Among r (resources_of s n) → owns s n r ≡ true
listed_mine s n r among = (filter_gives (owns s n) (range_with_len 0 s.config.resources) r among).1

-- the slot is freed, and the event counted: owners, waits and verdicts are those after the hand-overs
pub record EndsAs (t new : TableState) : Type 0 where
  pub owners : new.owners ≡ t.owners
  pub waits : new.waits ≡ t.waits
  pub verdicts : new.verdicts ≡ t.verdicts

vacated_hands_on : (s new : TableState) (n : ℕ) → Laws s → wait_of s n ≡ None → IsTrue (vacate_fits s n) → new.config ≡ s.config → EndsAs (emptied s n) new → HandsOn s n (owns s n) new
vacated_hands_on s new n laws active fits config is =
    let all = all_handed s n laws active fits in
    let owners : (q : ℕ) → owner_of new q ≡ owner_of (emptied s n) q = λ q. ap (λ os. slice_index_or os q None) is.owners in
    let waits : (m : ℕ) → wait_of new m ≡ wait_of (emptied s n) m = λ m. ap (λ ws. waited_for ws m) is.waits in
    record {
      config = config;
      others = λ r other. owners r ∙ all.outside r (λ among. let never : true ≡ false = sym (listed_mine s n r among) ∙ other in cc);
      handed = λ r k mine owned. next_waits s r k laws (sym (all.inside r (mine_listed s n r laws mine)) ∙ sym (owners r) ∙ owned);
      own = waits n ∙ (vacating_ends s n laws active fits).active;
      ended = λ m apart. elim (all.waits m) [
        | inl same ↦ inl (waits m ∙ same)
        | inr next ↦ inr record {
          resource = next.0;
          key = next.2.key;
          process = next.2.process;
          waited = subst (λ i. wait_of s i ≡ Some next.0) next.2.process (next_waits s next.0 next.2.key laws next.2.next);
          owns = owners next.0 ∙ all.inside next.0 next.1 ∙ next.2.next;
          goes_on = waits m ∙ next.3;
        }
      ];
      verdicts = λ v apart. ap (λ vs. slice_index_or vs v false) (is.verdicts ∙ all.verdicts);
    }

ends_as : (t new : TableState) (n : ℕ) → new ≡ counting (free_slot t n) ((free_slot t n).totals.accepted + 1) → EndsAs t new
ends_as t new n is = record {
  owners = ap (λ (u : TableState). u.owners) is ∙ free_slot_owners t n;
  waits = ap (λ (u : TableState). u.waits) is ∙ free_slot_waits t n;
  verdicts = ap (λ (u : TableState). u.verdicts) is ∙ free_slot_verdicts t n;
}

pub finish_hands_on : (s new : TableState) (k : Key) → Laws s → Step (Finish k) s (Ok tt) new → HandsOn s k.process (owns s k.process) new
finish_hands_on s new k laws step =
    let n = k.process in
    let done : IsAccepted (Unit {0}) (finish_tests s k) tt (vacate s n) tt new = accepted (finish_tests s k) s tt (vacate s n) tt new step in
    vacated_hands_on s new n laws (none_of_is_some (wait_of s n) done.passed.1.1.0) (not-false (vacate_fits s n) done.passed.1.1.1.0)
    (event_config (Finish k) s new (Ok tt) step) (ends_as (emptied s n) new n done.state)
