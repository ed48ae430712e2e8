-- What follows of a withdrawal: it is counted, finds no victim, and is a give-up where that is accepted.
use Rattle.std.proofs.Common.{◌≡◌, ◌&&◌, ℕ, Bool, true, false, not, if◌then◌else◌, [], ◌∷◌, Option, Some, None, Result, Ok, Err, refl, sym, ap, subst, ◌∙◌}
use Rattle.std.specs.Prelude.{⊤}
use Rattle.std.specs.List.{AllByRecursion}
use Rattle.std.specs.Option.{option_map_or}
use Rattle.std.proofs.lemmas.Bool.{and_parts, not-false, eq-eqb}
use Rattle.mm_label.specs.Label.{Label, label_eq, word_of}
use Rattle.mm_arena.specs.declared.key.Key.{Key}
use Rattle.mm_rules.specs.declared.refusal.Refusal.{Refusal}
use Rattle.mm_rules.specs.declared.refusal.Refusal.TheVariants.{Stale, NotWaiting, UnderVerdict, Carried, LabelsExhausted, CountsExhausted}
use Rattle.mm_rules.specs.Graph.{IsWaiting, Propagated}
use Rattle.mm_rules.specs.TableState.{TableState, is_waiting, has_verdict, holder_of, private_of, public_of, graph_of}
use Rattle.mm_rules.specs.Change.{block, activate}
use Rattle.mm_rules.specs.Event.{GiveUp, Settle, Outcome, Tests, allowed, decided, give_up_tests}
use Rattle.mm_rules.specs.Laws.{Laws}
use Rattle.mm_rules.specs.Victims.{EachCycleHasVerdict}
use Rattle.mm_rules.specs.Withdraw.{renew, renew_fits, shown_process, shows_waiting, withdraw, withdraw_tests, withdrawn, Withdraws, WithdrawKeepsLaws, WithdrawLowersNone, WithdrawHasNoVictim, WithdrawStaysAtRest, WithdrawCounts, GiveUpIsWithdraw, IsBehindVictim, CarriedIsBehindVictim, NoVictimNoCarried}
use Rattle.mm_rules.proofs.Graph.Walks.{walk_again, OnTheWay}
use Rattle.mm_rules.proofs.States.LabelOrder.{label_eq_true}
use Rattle.mm_rules.proofs.States.Lookups.{holder_within, waiting_has_holder}
use Rattle.mm_rules.proofs.States.Outcome.{tests_false, outcome_keeps}
use Rattle.mm_rules.proofs.States.Counts.{adds_nothing, decided_counts, gives_counts}
use Rattle.mm_rules.proofs.States.EventsKeepLaws.{event_keeps}
use Rattle.mm_rules.proofs.States.Settle.{settle_gives_rest}
use Rattle.mm_rules.proofs.States.NoVictim.{closing_none_keeps, settle_gives_none}
use Rattle.mm_rules.proofs.States.Rest.{closing_none_stays}
use Rattle.mm_rules.proofs.States.Withdraw.{Keeps, ShowsWaiting, shows_waiting_gives, withdraw_keeps}

pub withdraw_keeps_laws : WithdrawKeepsLaws
withdraw_keeps_laws k old new reply step laws rest = (withdraw_keeps k old new reply step laws rest).laws.laws

pub withdraw_lowers_none : WithdrawLowersNone
withdraw_lowers_none k old new reply step laws rest = (withdraw_keeps k old new reply step laws rest).laws.rise

pub withdraw_has_no_victim : WithdrawHasNoVictim
withdraw_has_no_victim k old mid new reply answer step settle laws rest =
    let keeps : Keeps old mid = withdraw_keeps k old mid reply step laws rest in
    let each : EachCycleHasVerdict mid = closing_none_keeps old mid keeps.laws.laws rest.cycles keeps.closes in
    let none = settle_gives_none mid new answer settle keeps.laws.laws each in
    record {
      none = none.0;
      verdicts = none.1;
      laws = (event_keeps Settle mid new (Ok answer) settle keeps.laws.laws).laws;
      rests = settle_gives_rest mid new answer settle keeps.laws.laws;
    }

pub withdraw_stays_at_rest : WithdrawStaysAtRest
withdraw_stays_at_rest k old new reply step laws rest same =
    let keeps : Keeps old new = withdraw_keeps k old new reply step laws rest in
    closing_none_stays old new laws keeps.laws keeps.closes rest same

-- ---- counts

-- but for labels and waits, and the count of accepted events, t is as s
pub record Leaves (s t : TableState) : Type 0 where
  pub config : t.config ≡ s.config
  pub owners : t.owners ≡ s.owners
  pub verdicts : t.verdicts ≡ s.verdicts

leaves_by : (s : TableState) (m n : ℕ) (b : Bool) (o : Option ℕ) → Leaves s (activate (if b then option_map_or (λ h. block s m h) o s else s) n)
leaves_by s m n false o = record { config = refl; owners = refl; verdicts = refl }
leaves_by s m n true None = record { config = refl; owners = refl; verdicts = refl }
leaves_by s m n true (Some h) = record { config = refl; owners = refl; verdicts = refl }

totals_by : (s : TableState) (m n : ℕ) (b : Bool) (o : Option ℕ) → (activate (if b then option_map_or (λ h. block s m h) o s else s) n).totals ≡ s.totals
totals_by s m n false o = refl
totals_by s m n true None = refl
totals_by s m n true (Some h) = refl

withdrawn_leaves : (s : TableState) (k : Key) → Leaves s (withdrawn s k).state
withdrawn_leaves s k = outcome_keeps (Leaves s) (λ t n was. record { config = was.config; owners = was.owners; verdicts = was.verdicts }) s tt (withdraw s k.process) (withdraw_tests s k)
    (record { config = refl; owners = refl; verdicts = refl })
    (λ passed. leaves_by s (shown_process s k.process) k.process (shows_waiting s k.process) (holder_of s (shown_process s k.process)))

pub withdraw_leaves : (k : Key) (old new : TableState) (reply : Result (Unit {0}) Refusal) → Withdraws k old reply new → Leaves old new
withdraw_leaves k old new reply step = let P : TableState → Type 0 = Leaves old in subst P (sym step.1) (withdrawn_leaves old k)

pub withdraw_counts : WithdrawCounts
withdraw_counts k old new reply step = (
  gives_counts (GiveUp k) old new reply (withdrawn old k) step (decided_counts (GiveUp k) old tt (withdraw old k.process) (allowed (withdraw_tests old k)) (adds_nothing old (withdraw old k.process) (totals_by old (shown_process old k.process) k.process (shows_waiting old k.process) (holder_of old (shown_process old k.process))))),
  (withdraw_leaves k old new reply step).verdicts,
)

-- ---- a give-up

all_false : (tests : Tests) → AllByRecursion (λ t. t.0 ≡ false) tests → allowed tests ≡ Ok tt
all_false [] all = refl
all_false ((true, refusal) ∷ tests) all = (let never : true ≡ false = all.0 in absurd (cc))
all_false ((false, refusal) ∷ tests) all = all_false tests all.1

abbrev answered : Result (Unit {0}) Refusal → TableState → TableState → Outcome (Unit {0})
answered r old new = decided r old tt new

was_allowed : (r : Result (Unit {0}) Refusal) (old new : TableState) → Ok tt ≡ (answered r old new).reply → r ≡ Ok tt
was_allowed (Err refusal) old new is = (let never : Ok tt ≡ Err refusal = is in absurd (cc))
was_allowed (Ok u) old new is = refl

own_shows_none : (s : TableState) (n : ℕ) → Laws s → private_of s n ≡ public_of s n → shows_waiting s n ≡ false
own_shows_none s n laws own =
    let e : shown_process s n ≡ n = ap (λ (l : Label). l.process) (sym own) ∙ laws.lawful.private_labels.own n in
    ap (λ b. not b && (is_waiting s (shown_process s n) && label_eq (private_of s (shown_process s n)) (public_of s n))) (eq-eqb (shown_process s n) n e)

pub give_up_is_withdraw : GiveUpIsWithdraw
give_up_is_withdraw k old new step laws =
    let n = k.process in
    let ok : allowed (give_up_tests old k) ≡ Ok tt = was_allowed (allowed (give_up_tests old k)) old (activate old n) step.0 in
    let passed = tests_false (give_up_tests old k) ok in
    let own : private_of old n ≡ public_of old n = label_eq_true (private_of old n) (public_of old n) (not-false (label_eq (private_of old n) (public_of old n)) passed.1.1.1.1.0) in
    let alone : shows_waiting old n ≡ false = own_shows_none old n laws own in
    let now : allowed (withdraw_tests old k) ≡ Ok tt = all_false (withdraw_tests old k)
    (passed.0, (passed.1.0, (passed.1.1.0, (passed.1.1.1.0, (ap (λ b. b && has_verdict old (shown_process old n)) alone, (ap (λ b. b && not (renew_fits old (shown_process old n))) alone, tt)))))) in
    let same : withdraw old n ≡ activate old n = ap (λ b. activate (if b then renew old (shown_process old n) else old) n) alone in (
      ap (λ r. (answered r old (withdraw old n)).reply) (sym now),
      step.1 ∙ ap (λ r. (answered r old (activate old n)).state) ok ∙ ap (λ t. (answered (Ok tt) old t).state) (sym same) ∙ ap (λ r. (answered r old (withdraw old n)).state) (sym now),
    )

-- ---- a refusal

was_refused : (r : Result (Unit {0}) Refusal) (old new : TableState) (refusal : Refusal) → Err refusal ≡ (answered r old new).reply → r ≡ Err refusal
was_refused (Err other) old new refusal is = sym is
was_refused (Ok u) old new refusal is = (let never : Err refusal ≡ Ok tt = is in absurd (cc))

was_carried : (a b c d e f : Bool) → allowed ((a, CountsExhausted) ∷ (b, Stale) ∷ (c, NotWaiting) ∷ (d, UnderVerdict) ∷ (e, Carried) ∷ (f, LabelsExhausted) ∷ []) ≡ Err Carried
    → (c ≡ false) × (e ≡ true)
was_carried true b c d e f is = (let never : Err CountsExhausted ≡ Err Carried = is in absurd (cc))
was_carried false true c d e f is = (let never : Err Stale ≡ Err Carried = is in absurd (cc))
was_carried false false true d e f is = (let never : Err NotWaiting ≡ Err Carried = is in absurd (cc))
was_carried false false false true e f is = (let never : Err UnderVerdict ≡ Err Carried = is in absurd (cc))
was_carried false false false false true f is = (refl, refl)
was_carried false false false false false true is = (let never : Err LabelsExhausted ≡ Err Carried = is in absurd (cc))
was_carried false false false false false false is = (let never : Ok tt ≡ Err Carried = is in absurd (cc))

pub carried_is_behind_victim : CarriedIsBehindVictim
carried_is_behind_victim k old new step laws =
    let n = k.process in
    let g = graph_of old in
    let carried = was_carried _ _ _ _ _ _ (was_refused (allowed (withdraw_tests old k)) old (withdraw old n) Carried step.0) in
    let parts = and_parts (shows_waiting old n) (has_verdict old (shown_process old n)) carried.1 in
    let shows : ShowsWaiting old n laws (shown_process old n) = shows_waiting_gives old n laws parts.0 in
    let m = shown_process old n in
    let waits : IsWaiting g n = waiting_has_holder old laws.lawful.well_formed n (not-false (is_waiting old n) carried.0) in
    let m_waits : IsWaiting g m = waiting_has_holder old laws.lawful.well_formed m shows.waiting in
    let within = (holder_within old laws.lawful.well_formed n waits.0 waits.1).0 in
    let came : Propagated g (g.private m) n m = laws.lawful.propagated m m_waits.0 n m_waits.1 within shows.apart (ap word_of (sym shows.label)) in
    record {
      victim = m;
      apart = came.apart;
      verdict = parts.1;
      way = came.places;
      path = walk_again g g (OnTheWay g (g.private m) m) (λ k. ⊤) (λ k j w each. (tt, w)) n came.places m came.along;
    }

pub no_victim_no_carried : NoVictimNoCarried
no_victim_no_carried k old new laws none step =
    let behind : IsBehindVictim old k.process = carried_is_behind_victim k old new step laws in
    let is : has_verdict old behind.victim ≡ true = behind.verdict in
    let is_not : has_verdict old behind.victim ≡ false = none behind.victim in
    let never : true ≡ false = sym is ∙ is_not in
    absurd (cc)
