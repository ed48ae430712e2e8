-- The events that close no cycle of waits: all but an acquire by which somebody begins to wait that others wait for.
use Rattle.std.proofs.Common.{◌≡◌, ◌≢◌, ◌⊎◌, ◌+◌, ℕ, List, Bool, true, false, slice_set, slice_index_or, option_map, option_and_then, Some, Result, IsTrue, inl, refl, sym, ap, ◌∙◌, get_or-set_other}
use Rattle.std.specs.List.{AllByRecursion}
use Rattle.std.proofs.lemmas.Bool.{not-false}
use Rattle.mm_arena.specs.declared.key.Key.{Key}
use Rattle.mm_rules.specs.declared.refusal.Refusal.{Refusal}
use Rattle.mm_rules.specs.declared.reply.Totals.{Totals}
use Rattle.mm_rules.specs.Graph.{WaitsFor, IsActive}
use Rattle.mm_rules.specs.TableState.{TableState, is_live, owner_of, owns, wait_of, has_verdict, graph_of}
use Rattle.mm_rules.specs.Change.{activate, hand_over, hand_over_fits, vacate, vacate_fits, take_back, abort, transmit, detect}
use Rattle.mm_rules.specs.Event.{Event, Begin, Acquire, Release, Finish, Transmit, Detect, Abort, Settle, GiveUp, Answer, Step, Tests, outcome, begin_tests, release_tests, finish_tests, waiting_tests, abort_tests, give_up_tests, released, finished, aborted}
use Rattle.mm_rules.specs.Laws.{Laws}
use Rattle.mm_rules.specs.Victims.{BeginsWait}
use Rattle.mm_rules.specs.Rest.{HoldersShowTheSame}
use Rattle.mm_rules.proofs.Graph.Walks.{active_waits_not}
use Rattle.mm_rules.proofs.Graph.Closes.{activate_keeps_inner}
use Rattle.mm_rules.proofs.States.Lookups.{none_of_is_some, no_holder}
use Rattle.mm_rules.proofs.States.Outcome.{KeepsLaws, outcome_keeps}
use Rattle.mm_rules.proofs.States.ClosesNone.{ClosesNone, closes_none_by, closes_none_itself, closes_none_then, same_holders_close_none, counting_closes_none}
use Rattle.mm_rules.proofs.States.Activate.{activated_with, waits_no_longer, waits_else}
use Rattle.mm_rules.proofs.States.GiveUp.{take_back_keeps}
use Rattle.mm_rules.proofs.States.HandOverLaws.{MayHandOver}
use Rattle.mm_rules.proofs.States.HandOver.{hand_over_keeps}
use Rattle.mm_rules.proofs.States.Release.{owns_gives, may_hand_over}
use Rattle.mm_rules.proofs.States.Vacate.{live_process, vacate_keeps, vacate_closes_none}
use Rattle.mm_rules.proofs.States.Abort.{fits_still}
use Rattle.mm_rules.proofs.States.AcquireWaits.{acquire_cases, acquire_closes_none}
use Rattle.mm_rules.proofs.States.SettleKeeps.{SettleKeeps, same_holders, transmit_leaves, detect_leaves, settle_keeps}

gives_closes_none : (old new state : TableState) → new ≡ state → ClosesNone old state → ClosesNone old new
gives_closes_none old new state is closes = rw is closes

outcome_closes_none : {A : Type 0} (s : TableState) (answer : A) (new : TableState) (tests : Tests)
    → (AllByRecursion (λ t. t.0 ≡ false) tests → ClosesNone s new) → ClosesNone s (outcome tests s answer new).state
outcome_closes_none s answer new tests after =
    outcome_keeps (λ t. ClosesNone s t) (λ t n. counting_closes_none s t n) s answer new tests (closes_none_itself s) after

left_closes_none : (s t : TableState) → SettleKeeps s t → ClosesNone s t
left_closes_none s t keeps = same_holders_close_none s t (same_holders s t keeps) keeps.verdicts

-- n waits no longer, and every other verdict stands
pub activated_closes_none : (s : TableState) (n : ℕ) (verdicts : List Bool) (totals : Totals)
    → ((v : ℕ) → v ≢ n → IsTrue (has_verdict s v) → slice_index_or verdicts v false ≡ true) → ClosesNone s (activated_with s n verdicts totals)
activated_closes_none s n verdicts totals stand =
    let new = activated_with s n verdicts totals in
    let active : IsActive (graph_of new) n = no_holder new n (waits_no_longer s n) in
    let apart : (m h : ℕ) → WaitsFor (graph_of new) m h → m ≢ n = λ m h waits e. active_waits_not (graph_of new) m (rw e active) (h, waits) in
    let same : (m : ℕ) → m ≢ n → (graph_of new).holder m ≡ (graph_of s).holder m
    = λ m other. ap (λ o. option_map (λ (k : Key). k.process) (option_and_then (owner_of s) o)) (waits_else s n m other) in
    closes_none_by s new (activate_keeps_inner (graph_of s) (graph_of new) n active same)
    (λ v h waits was. stand v (apart v h waits) was)
    (λ m h waits shows. inl (sym (same m (apart m h waits)) ∙ waits))

release_closes_none : (s : TableState) (k : Key) (r : ℕ) → Laws s → ClosesNone s (released s k r).state
release_closes_none s k r laws = outcome_closes_none s _ (hand_over s r) (release_tests s k r) (λ passed.
    let owner : (h : Key) × (owner_of s r ≡ Some h) × (h.process ≡ k.process) = owns_gives s k.process r (not-false (owns s k.process r) passed.1.1.1.1.0) in
    let may : MayHandOver s r owner.0 = may_hand_over s k.process r owner.0 laws (none_of_is_some (wait_of s k.process) passed.1.1.1.0) owner.1 owner.2 in
    (hand_over_keeps s r owner.0 may (not-false (hand_over_fits s r) passed.1.1.1.1.1.0)).closes)

finish_closes_none : (s : TableState) (k : Key) → Laws s → ClosesNone s (finished s k).state
finish_closes_none s k laws = outcome_closes_none s tt (vacate s k.process) (finish_tests s k) (λ passed.
    vacate_closes_none s k.process laws (live_process s k (not-false (is_live s k) passed.1.0)) (none_of_is_some (wait_of s k.process) passed.1.1.0)
    (not-false (vacate_fits s k.process) passed.1.1.1.0))

abort_change_closes_none : (s : TableState) (k : Key) → Laws s → IsTrue (is_live s k) → IsTrue (has_verdict s k.process) → IsTrue (vacate_fits s k.process) → ClosesNone s (abort s k.process)
abort_change_closes_none s k laws live verdict fits =
    let n = k.process in
    let withdrawn : KeepsLaws s (take_back s n) = take_back_keeps s n laws verdict in
    let still : IsTrue (vacate_fits (take_back s n) n) = fits_still s n laws fits in
    let first : ClosesNone s (take_back s n)
    = activated_closes_none s n (slice_set s.verdicts n false) (record s.totals { aborts = s.totals.aborts + 1 }) (λ v apart was. get_or-set_other s.verdicts n v false false apart ∙ was) in
    closes_none_then s (take_back s n) (abort s n) first
    (vacate_closes_none (take_back s n) n withdrawn.laws (live_process s k live) (waits_no_longer s n) still) withdrawn
    (vacate_keeps (take_back s n) n withdrawn.laws (live_process s k live) (waits_no_longer s n) still)

abort_closes_none : (s : TableState) (k : Key) → Laws s → ClosesNone s (aborted s k).state
abort_closes_none s k laws = outcome_closes_none s tt (abort s k.process) (abort_tests s k) (λ passed.
    abort_change_closes_none s k laws (not-false (is_live s k) passed.1.0) (not-false (has_verdict s k.process) passed.1.1.0) (not-false (vacate_fits s k.process) passed.1.1.1.0))

pub event_closes_none : (e : Event) (old new : TableState) (reply : Result (Answer e) Refusal) → Step e old reply new → Laws old
    → (BeginsWait e reply → ⊥) ⊎ HoldersShowTheSame old new → ClosesNone old new
event_closes_none Begin old new reply step laws none =
    gives_closes_none old new _ step.1 (outcome_closes_none old _ _ (begin_tests old) (λ passed. same_holders_close_none old _ (λ n. refl) (λ v was. was)))
event_closes_none (Acquire k r) old new reply step laws none = acquire_closes_none old new k r reply laws step none (acquire_cases old new k r reply laws step)
event_closes_none (Release k r) old new reply step laws none = gives_closes_none old new _ step.1 (release_closes_none old k r laws)
event_closes_none (Finish k) old new reply step laws none = gives_closes_none old new _ step.1 (finish_closes_none old k laws)
event_closes_none (Transmit k) old new reply step laws none =
    gives_closes_none old new _ step.1 (outcome_closes_none old _ (transmit old k.process) (waiting_tests old k) (λ passed. left_closes_none old _ (transmit_leaves old k.process)))
event_closes_none (Detect k) old new reply step laws none =
    gives_closes_none old new _ step.1 (outcome_closes_none old _ (detect old k.process) (waiting_tests old k) (λ passed. left_closes_none old _ (detect_leaves old k.process)))
event_closes_none (Abort k) old new reply step laws none = gives_closes_none old new _ step.1 (abort_closes_none old k laws)
event_closes_none Settle old new reply step laws none = left_closes_none old new (settle_keeps old new reply step)
event_closes_none (GiveUp k) old new reply step laws none =
    gives_closes_none old new _ step.1
    (outcome_closes_none old tt (activate old k.process) (give_up_tests old k) (λ passed. activated_closes_none old k.process old.verdicts old.totals (λ v apart was. was)))
