-- Events that need no settle: a begin, a request that is granted, and a refused event. Nobody is granted anything.
use Rattle.std.proofs.Common.{◌≡◌, ◌⊎◌, ◌+◌, ℕ, [], length, drop, Option, Some, None, Result, Ok, true, slice_set, slice_index, inl, inr, refl, sym, ap, ◌∙◌, arith, length-set, get_or-set_same, get_or-set_other}
use Rattle.std.proofs.lemmas.Bool.{cases_eq, cases_lt}
use Rattle.std.proofs.lemmas.List.{get_or_past}
use Rattle.mm_arena.specs.declared.key.Key.{Key}
use Rattle.mm_rules.specs.declared.refusal.Refusal.{Refusal}
use Rattle.mm_rules.specs.declared.reply.Acquired.{Acquired}
use Rattle.mm_rules.specs.declared.reply.Acquired.TheVariants.{Granted}
use Rattle.mm_rules.specs.TableState.{TableState, key_of, owner_of, wait_of, public_of, has_verdict, graph_of}
use Rattle.mm_rules.specs.Event.{Event, Begin, Acquire, Answer, Step, begin_tests, acquire_tests, acquire_answer, acquire_change}
use Rattle.mm_rules.specs.Laws.{Laws, AtRest}
use Rattle.mm_rules.specs.Victims.{IsOnCycle}
use Rattle.mm_rules.proofs.Graph.IsSettled.{start_waits}
use Rattle.mm_rules.proofs.Graph.Walks.{active_waits_not}
use Rattle.mm_rules.proofs.States.Lookups.{none_of_is_some, no_holder}
use Rattle.mm_rules.proofs.States.Outcome.{counting}
use Rattle.mm_rules.proofs.States.Rest.{rest_stays}
use Rattle.mm_settled.specs.Grants.{grants}
use Rattle.mm_settled.proofs.Lemmas.Accepted.{IsAccepted, accepted, either}
use Rattle.mm_settled.proofs.Lemmas.Grants.{same_owners_grant_none, owner_or_idle_grants_none}

-- from s to t nobody is granted anything, and no verdict and no public label changes
pub record IsQuiet (s t : TableState) : Type 0 where
  pub granted : grants s t ≡ []
  pub public : (n : ℕ) → public_of t n ≡ public_of s n
  pub verdicts : (n : ℕ) → has_verdict t n ≡ has_verdict s n

pub quiet_rests : (e : Event) (s t : TableState) (reply : Result (Answer e) Refusal) → Step e s reply t → Laws s → AtRest s → IsQuiet s t → AtRest t
quiet_rests e s t reply step laws rest quiet = rest_stays e s t reply step laws rest (λ n h waits. quiet.public h)

pub same_is_quiet : (s t : TableState) → Laws s → t ≡ s → IsQuiet s t
same_is_quiet s t laws is = record {
  granted = same_owners_grant_none s t laws (ap (λ (u : TableState). u.owners) is);
  public = λ n. ap (λ u. public_of u n) is;
  verdicts = λ n. ap (λ u. has_verdict u n) is;
}

-- ---- begin

pub begin_quiet : (s t : TableState) (reply : Result Key Refusal) → Laws s → Step Begin s reply t → IsQuiet s t
begin_quiet s t reply laws step =
    let n = slice_index s.free 0 in
    let begun = record s { free = drop 1 s.free; live = slice_set s.live n true } in
    elim (either (begin_tests s) s (key_of s n) begun reply t step) [
      | inl same ↦ same_is_quiet s t laws same
      | inr is ↦ record {
        granted = same_owners_grant_none s t laws (ap (λ (u : TableState). u.owners) is);
        public = λ m. ap (λ u. public_of u m) is;
        verdicts = λ m. ap (λ u. has_verdict u m) is;
      }
    ]

-- ---- a request that is granted

pub record GrantsNow (s : TableState) (k : Key) (t : TableState) : Type 0 where
  pub quiet : IsQuiet s t
  pub idle : wait_of t k.process ≡ None

granted_by : (s t : TableState) (k : Key) (r : ℕ) (o : Option Key) → Laws s → owner_of s r ≡ o → wait_of s k.process ≡ None → acquire_answer s k o ≡ Granted
    → (m : ℕ) → t ≡ counting (acquire_change s k r o) m → GrantsNow s k t
granted_by s t k r (Some h) laws owned idle answer m is = absurd (cc)
granted_by s t k r None laws owned idle answer m is =
    record {
      quiet = record {
        granted = owner_or_idle_grants_none s t laws (λ q j owned_now. by q j (sym (ap (λ u. owner_of u q) is) ∙ owned_now));
        public = λ n. ap (λ u. public_of u n) is;
        verdicts = λ n. ap (λ u. has_verdict u n) is;
      };
      idle = ap (λ u. wait_of u k.process) is ∙ idle;
    }
  where
    by : (q : ℕ) (j : Key) → owner_of (acquire_change s k r None) q ≡ Some j → (owner_of s q ≡ Some j) ⊎ (wait_of s j.process ≡ None)
    by q j now = elim (cases_eq q r) [
      | inr apart ↦ inl (sym (get_or-set_other s.owners r q (Some k) None apart) ∙ now)
      | inl e ↦ elim (cases_lt r (length s.owners)) [
        | inl within ↦
            let some : Some k ≡ Some j = sym (get_or-set_same s.owners r (Some k) None within) ∙ ap (owner_of (acquire_change s k r None)) (sym e) ∙ now in
            let key : k ≡ j = cc in
            inr (ap (λ (h : Key). wait_of s h.process) (sym key) ∙ idle)
        | inr past ↦
            let none : owner_of (acquire_change s k r None) r ≡ None
            = get_or_past (slice_set s.owners r (Some k)) r None (omega (arith, past, length-set s.owners r (Some k))) in
            let never : None ≡ Some j = sym none ∙ ap (owner_of (acquire_change s k r None)) (sym e) ∙ now in
            absurd (cc)
      ]
    ]

pub granted_quiet : (s t : TableState) (k : Key) (r : ℕ) → Laws s → Step (Acquire k r) s (Ok Granted) t → GrantsNow s k t
granted_quiet s t k r laws step =
    let change = acquire_change s k r (owner_of s r) in
    let done : IsAccepted Acquired (acquire_tests s k r) (acquire_answer s k (owner_of s r)) change Granted t
    = accepted (acquire_tests s k r) s (acquire_answer s k (owner_of s r)) change Granted t step in
    granted_by s t k r (owner_of s r) laws refl (none_of_is_some (wait_of s k.process) done.passed.1.1.1.0) done.answer (change.totals.accepted + 1) done.state

-- who does not wait is on no cycle
pub idle_on_no_cycle : (s : TableState) (n : ℕ) → wait_of s n ≡ None → IsOnCycle s n → ⊥
idle_on_no_cycle s n idle (cycle, is) = active_waits_not (graph_of s) n (no_holder s n idle) (start_waits (graph_of s) n cycle is)
