-- A settle gives no verdict where each cycle of waits has one, and it has one after each event by which nobody begins to wait.
use Rattle.std.proofs.Common.{◌≡◌, ◌≢◌, ◌+◌, ℕ, ◌<◌, List, length, Bool, true, false, cond, count_by, slice_set, slice_index_or, Ok, IsTrue, inl, inr, refl, sym, ap, subst, ◌∙◌, arith, length-set, get_or-set_same, get_or-set_other}
use Rattle.std.proofs.lemmas.Bool.{cases_eq}
use Rattle.std.proofs.lemmas.List.{ext_get_or}
use Rattle.std.proofs.lemmas.List.Sums.{sum_by-set}
use Rattle.mm_lists.specs.Members.{Among}
use Rattle.mm_lists.proofs.Lemmas.Set.{true_within}
use Rattle.mm_rules.specs.declared.reply.Settled.{Settled}
use Rattle.mm_rules.specs.Graph.{Cycle, Deadlocked}
use Rattle.mm_rules.specs.TableState.{TableState, has_verdict, graph_of}
use Rattle.mm_rules.specs.Event.{Settle, Step}
use Rattle.mm_rules.specs.Laws.{Laws, HasOneVerdict, Counts}
use Rattle.mm_rules.specs.Victims.{EachCycleHasVerdict, OnlyWaitsCloseCycles, OthersHaveNoVictim}
use Rattle.mm_rules.proofs.Graph.Cycles.{start_on_cycle}
use Rattle.mm_rules.proofs.Graph.Closes.{same_holders_keep, cycle_before}
use Rattle.mm_rules.proofs.Graph.Deadlocked.{returned_is_greatest}
use Rattle.mm_rules.proofs.States.Laws.{graph_lawful}
use Rattle.mm_rules.proofs.States.Counts.{event_counts}
use Rattle.mm_rules.proofs.States.SoundVerdicts.{verdicts_are_sound}
use Rattle.mm_rules.proofs.States.EventsKeepLaws.{event_keeps}
use Rattle.mm_rules.proofs.States.ClosesNone.{ClosesNone}
use Rattle.mm_rules.proofs.States.SettleKeeps.{SettleKeeps, same_holders, settle_keeps}
use Rattle.mm_rules.proofs.States.EventsCloseNone.{event_closes_none}

-- where one with a verdict stands on a cycle, that is its one verdict
has_one : (s : TableState) → Laws s → (k : ℕ) (cycle : List ℕ) → Cycle (graph_of s) k cycle → (v : ℕ) → Among v cycle → IsTrue (has_verdict s v) → HasOneVerdict s cycle
has_one s laws k cycle is v on verdict = record {
  victim = v;
  on_cycle = on;
  verdict = verdict;
  only = λ u u_on its. (verdicts_are_sound s laws).one k cycle is u v u_on on its verdict;
  greatest = returned_is_greatest (graph_of s) v (laws.convicted v verdict).0 (graph_lawful s laws) (laws.convicted v verdict).1 k cycle is on;
}

pub closing_none_keeps : (old new : TableState) → Laws new → EachCycleHasVerdict old → ClosesNone old new → EachCycleHasVerdict new
closing_none_keeps old new laws each closes k cycle is =
    let was : HasOneVerdict old cycle = each k cycle (closes.cycles k cycle is) in
    has_one new laws k cycle is was.victim was.on_cycle (closes.verdicts k cycle is was.victim was.on_cycle was.verdict)

pub only_waits_close_cycles : OnlyWaitsCloseCycles
only_waits_close_cycles e old new reply step none laws each =
    closing_none_keeps old new (event_keeps e old new reply step laws).laws each (event_closes_none e old new reply step laws (inl none))

-- ---- verdicts before and after

-- whoever has a verdict had one before, where verdicts stood, and one of them on its cycle
pub verdict_before : (s t : TableState) (laws : Laws t) → ((u : ℕ) → IsTrue (has_verdict s u) → IsTrue (has_verdict t u))
    → (v : ℕ) (verdict : IsTrue (has_verdict t v)) → HasOneVerdict s (laws.convicted v verdict).2.places → IsTrue (has_verdict s v)
verdict_before s t laws stand v verdict one =
    let locked : Deadlocked (graph_of t) v = (laws.convicted v verdict).2 in
    let same : one.victim ≡ v
    = (verdicts_are_sound t laws).one v locked.places locked.cycle one.victim v one.on_cycle (start_on_cycle (graph_of t) v locked.places locked.cycle) (stand one.victim one.verdict) verdict in
    subst (λ (i : ℕ). IsTrue (has_verdict s i)) same one.verdict

pub cycle_left : (s t : TableState) → SettleKeeps s t → (k : ℕ) (cycle : List ℕ) → Cycle (graph_of t) k cycle → Cycle (graph_of s) k cycle
cycle_left s t keeps = cycle_before (graph_of s) (graph_of t) (same_holders_keep (graph_of s) (graph_of t) (same_holders s t keeps))

pub same_bool : (a b : Bool) → (a ≡ true → b ≡ true) → (b ≡ true → a ≡ true) → a ≡ b
same_bool true true there back = refl
same_bool true false there back = sym (there refl)
same_bool false true there back = back refl
same_bool false false there back = refl

-- ---- how many verdicts a settle gives

pub verdicts_given : (s t : TableState) (answer : Settled) → Step Settle s (Ok answer) t → Laws s → Laws t
    → answer.verdicts + count_by (λ v. v) s.verdicts ≡ count_by (λ v. v) t.verdicts
verdicts_given s t answer step before after =
    let counts : Counts Settle (Ok answer) s.totals t.totals = event_counts Settle s t (Ok answer) step in
    omega (arith, counts.1, counts.2, before.lawful.counted, after.lawful.counted)

pub sized_alike : (s t : TableState) → Laws s → Laws t → SettleKeeps s t → length t.verdicts ≡ length s.verdicts
sized_alike s t before after keeps =
    after.lawful.well_formed.sizes.verdicts ∙ ap (λ c. c.processes) keeps.config ∙ sym before.lawful.well_formed.sizes.verdicts

pub count_alike : (xs ys : List Bool) → length ys ≡ length xs → ((i : ℕ) → slice_index_or ys i false ≡ slice_index_or xs i false) → count_by (λ v. v) ys ≡ count_by (λ v. v) xs
count_alike xs ys sized same = ap (count_by (λ (v : Bool). v)) (ext_get_or false ys xs sized (λ i inside. same i))

pub count_one_more : (xs ys : List Bool) (n : ℕ) → length ys ≡ length xs → ((i : ℕ) → i ≢ n → slice_index_or ys i false ≡ slice_index_or xs i false)
    → slice_index_or xs n false ≡ false → slice_index_or ys n false ≡ true → count_by (λ v. v) ys ≡ count_by (λ v. v) xs + 1
count_one_more xs ys n sized same before after =
    let within : n < length xs = omega (arith, true_within ys n after, sized) in
    let is : ys ≡ slice_set xs n true = ext_get_or false ys (slice_set xs n true) (sized ∙ sym (length-set xs n true)) (λ i inside. elim (cases_eq i n) [
      | inl e ↦ rw e (after ∙ sym (get_or-set_same xs n true false within))
      | inr apart ↦ same i apart ∙ sym (get_or-set_other xs n i true false apart)
    ]) in
    let more : count_by (λ v. v) (slice_set xs n true) + cond (slice_index_or xs n false) 1 0 ≡ count_by (λ v. v) xs + 1
    = sum_by-set (λ (v : Bool). cond v 1 0) xs n true false within in
    rw is (omega (arith, rw before at more))

-- ---- no verdict where each cycle has one

pub settle_gives_none : (mid new : TableState) (answer : Settled) → Step Settle mid (Ok answer) new → Laws mid → EachCycleHasVerdict mid
    → (answer.verdicts ≡ 0) × ((v : ℕ) → has_verdict new v ≡ has_verdict mid v)
settle_gives_none mid new answer settle laws_mid now =
    let laws_new : Laws new = (event_keeps Settle mid new (Ok answer) settle laws_mid).laws in
    let keeps : SettleKeeps mid new = settle_keeps mid new (Ok answer) settle in
    let same : (v : ℕ) → has_verdict new v ≡ has_verdict mid v = λ v. same_bool (has_verdict new v) (has_verdict mid v)
    (λ verdict.
    let locked : Deadlocked (graph_of new) v = (laws_new.convicted v verdict).2 in
    verdict_before mid new laws_new keeps.verdicts v verdict (now v locked.places (cycle_left mid new keeps v locked.places locked.cycle)))
    (keeps.verdicts v) in
    (omega (arith, verdicts_given mid new answer settle laws_mid laws_new, count_alike mid.verdicts new.verdicts (sized_alike mid new laws_mid laws_new keeps) same), same)

pub others_have_no_victim : OthersHaveNoVictim
others_have_no_victim e old mid new reply answer step none settle laws each =
    settle_gives_none mid new answer settle (event_keeps e old mid reply step laws).laws (only_waits_close_cycles e old mid reply step none laws each)
