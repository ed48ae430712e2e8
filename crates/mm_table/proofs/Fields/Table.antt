-- Each event keeps what holds of every table.
use Rattle.std.proofs.Common.{◌≡◌, ◌&&◌, ◌||◌, not, nat_eq, ℕ, Bool, false, List, length, Result, Ok, Err, replicate, inl, inr, refl, ap, sym, ◌∙◌, arith}
use Rattle.std.specs.Result.{result_eq}
use Rattle.std.proofs.lemmas.Bool.{cases_lt, and_parts, not-false, eqb-true}
use Rattle.std.proofs.lemmas.List.{get_or_past, get_or-replicate, length-replicate}
use Rattle.mm_bit_set.specs.BitSet.{has, members}
use Rattle.mm_rules.specs.declared.config.Config.{Config}
use Rattle.mm_rules.specs.declared.refusal.Refusal.{Refusal}
use Rattle.mm_rules.specs.declared.reply.Settled.{Settled}
use Rattle.mm_rules.specs.contracts.refusal.RefusalPartialEq.TheImpl.{eq-value as refusal_eq}
use Rattle.mm_rules.specs.contracts.reply.SettledPartialEq.TheImpl.{eq-value as settled_eq}
use Rattle.mm_rules.specs.TableState.{TableState, opening}
use Rattle.mm_rules.specs.Event.{Event, Answer, Step, Settle, decided}
use Rattle.mm_rules.specs.Laws.{Laws}
use Rattle.mm_rules.proofs.States.EventsKeepLaws.{event_keeps}
use Rattle.mm_rules.proofs.States.Config.{event_config}
use Rattle.mm_settle_lemmas.specs.Touched.{Touches, changed_processes}
use Rattle.mm_settle_lemmas.specs.Steps.Changed.{AreChanged}
use Rattle.mm_settle_lemmas.specs.Steps.Marked.{SetsAreSized}
use Rattle.mm_settle_lemmas.proofs.Lemmas.Changed.{changes_keep, none_changed}
use Rattle.mm_settle_lemmas.proofs.Lemmas.Frames.{idle_transmits_not, idle_detects_not}
use Rattle.mm_settle_lemmas.proofs.Lemmas.Told.{told, touches_union}
use Rattle.mm_settle_lemmas.proofs.Lemmas.Touched.{touches_changes}
use Rattle.mm_settle_lemmas.proofs.Lemmas.Untouched.{nothing, none_touched}
use Rattle.mm_table.specs.declared.table.Table.TheInside.{Inside}
use Rattle.mm_table.specs.private.Table.{IsLawfulTable}

-- ---- an accepted event is counted, a refused one changes nothing

pub counted_changed : {A : Type 0} (v : Result (Unit {0}) Refusal) (old : TableState) (answer : A) (t : TableState) (set : List Bool) → AreChanged old set → AreChanged t set
    → AreChanged (decided v old answer t).state set
counted_changed (Err refusal) old answer t set was are = was
counted_changed (Ok u) old answer t set was are = record { transmits = are.transmits; detects = are.detects }

-- who begins changes nobody
pub begun_changed : (s : TableState) (free : List ℕ) (live set : List Bool) → AreChanged s set → AreChanged (record s { free = free; live = live }) set
begun_changed s free live set are = record { transmits = are.transmits; detects = are.detects }

-- nobody is in an empty set
pub emptied : (set : List Bool) (size : ℕ) → set ≡ replicate size false → (k : ℕ) → has set k ≡ false
emptied set size is k = ap (λ ms. has ms k) is ∙ elim (cases_lt k size) [
  | inl inside ↦ get_or-replicate size k false false inside
  | inr past ↦ get_or_past (replicate size false) k false (omega (arith, length-replicate size false))
]

-- nobody can transmit or detect at first
pub opened_changed : (c : Config) (set : List Bool) → AreChanged (opening c) set
opened_changed c set = none_changed (opening c) set (λ k. idle_transmits_not (opening c) k refl) (λ k. idle_detects_not (opening c) k refl)

-- ---- events

-- whatever keeps the laws and the configuration
module _ (old : Inside) (new : TableState) (laws : Laws new) (config : new.config ≡ old.records.config) (kept : IsLawfulTable old) where
  lawful_processes : new.config.processes ≡ old.records.config.processes
  lawful_processes = ap (λ c. c.processes) config

  -- whoever may transmit or newly detect afterwards is among these
  laws_keep_table : (changed touched : List Bool) → AreChanged new changed → length changed ≡ length old.sets.changed → length touched ≡ length old.sets.touched → ((k : ℕ) → has touched k ≡ false)
      → IsLawfulTable (record { records = new; sets = record old.sets { changed = changed; touched = touched } })
  laws_keep_table changed touched are changed_sized touched_sized none = record {
    laws = laws;
    changed = are;
    sized = record {
      changed_sized = changed_sized ∙ kept.sized.changed_sized ∙ sym lawful_processes;
      pending_sized = kept.sized.pending_sized ∙ sym lawful_processes;
      checks_sized = kept.sized.checks_sized ∙ sym lawful_processes;
    };
    touched_sized = touched_sized ∙ kept.touched_sized ∙ sym lawful_processes;
    touched_none = none;
  }

  -- those that it changed were added to the changed
  pub touch_keeps_lawful : (changed : List Bool) → Touches old.records new old.sets.changed changed → IsLawfulTable (record { records = new; sets = record old.sets { changed = changed } })
  touch_keeps_lawful changed touches =
      laws_keep_table changed old.sets.touched (changes_keep old.records new old.sets.changed changed (touches_changes old.records new old.sets.changed changed touches) kept.changed) touches.sized refl kept.touched_none

  -- they were listed first
  pub listing_keeps_lawful : (touched changed left : List Bool) → Touches old.records new old.sets.touched touched → ((k : ℕ) → has changed k ≡ (has old.sets.changed k || has touched k))
      → length changed ≡ length old.sets.changed → left ≡ replicate (length touched) false → IsLawfulTable (record { records = new; sets = record old.sets { changed = changed; touched = left } })
  listing_keeps_lawful touched changed left touches union sized is =
      laws_keep_table changed left (touches_union old.records new old.sets.touched touched old.sets.changed changed touches kept.changed union) sized
      (ap length is ∙ length-replicate (length touched) false ∙ touches.sized) (emptied left (length touched) is)

-- they are the list
pub are_listed : (old : Inside) (new : TableState) → IsLawfulTable old → (touched : List Bool) (list : List ℕ) → Touches old.records new old.sets.touched touched → list ≡ members touched
    → list ≡ changed_processes old.records new
are_listed old new kept touched list touches is = is ∙ told old.records new old.sets.touched touched touches kept.touched_none kept.touched_sized

module _ (e : Event) (old : Inside) (new : TableState) (reply : Result (Answer e) Refusal) (step : Step e old.records reply new) (kept : IsLawfulTable old) where
  lawful : Laws new
  lawful = (event_keeps e old.records new reply step kept.laws).laws

  config_kept : new.config ≡ old.records.config
  config_kept = event_config e old.records new reply step

  processes : new.config.processes ≡ old.records.config.processes
  processes = ap (λ c. c.processes) config_kept

  pub step_keeps_table : (changed touched : List Bool) → AreChanged new changed → length changed ≡ length old.sets.changed → length touched ≡ length old.sets.touched → ((k : ℕ) → has touched k ≡ false)
      → IsLawfulTable (record { records = new; sets = record old.sets { changed = changed; touched = touched } })
  step_keeps_table = laws_keep_table old new lawful config_kept kept

  pub touch_keeps_table : (changed : List Bool) → Touches old.records new old.sets.changed changed → IsLawfulTable (record { records = new; sets = record old.sets { changed = changed } })
  touch_keeps_table = touch_keeps_lawful old new lawful config_kept kept

  pub listing_keeps_table : (touched changed left : List Bool) → Touches old.records new old.sets.touched touched → ((k : ℕ) → has changed k ≡ (has old.sets.changed k || has touched k))
      → length changed ≡ length old.sets.changed → left ≡ replicate (length touched) false → IsLawfulTable (record { records = new; sets = record old.sets { changed = changed; touched = left } })
  listing_keeps_table = listing_keeps_lawful old new lawful config_kept kept

  pub listed : (touched : List Bool) (list : List ℕ) → Touches old.records new old.sets.touched touched → list ≡ members touched → list ≡ changed_processes old.records new
  listed = are_listed old new kept

  -- a settle
  pub settled_keeps_table : (changed touched left pending checks : List Bool) → AreChanged new changed → SetsAreSized new changed pending checks → Touches old.records new old.sets.touched touched
      → left ≡ replicate (length touched) false → IsLawfulTable (record { records = new; sets = record { changed = changed; touched = left; pending = pending; checks = checks } })
  settled_keeps_table changed touched left pending checks are sized touches is = record {
    laws = (event_keeps e old.records new reply step kept.laws).laws;
    changed = are;
    sized = sized;
    touched_sized = ap length is ∙ length-replicate (length touched) false ∙ touches.sized ∙ kept.touched_sized ∙ sym processes;
    touched_none = emptied left (length touched) is;
  }

-- a settle that raises and convicts nobody
pub still_keeps_table : (old : Inside) (new : TableState) → Step Settle old.records (Ok nothing) new → IsLawfulTable old → (changed touched pending checks : List Bool) → AreChanged new changed
    → SetsAreSized new changed pending checks → Touches old.records new old.sets.touched touched → IsLawfulTable (record { records = new; sets = record { changed = changed; touched = touched; pending = pending; checks = checks } })
still_keeps_table old new step kept changed touched pending checks are sized touches = record {
  laws = (event_keeps Settle old.records new (Ok nothing) step kept.laws).laws;
  changed = are;
  sized = sized;
  touched_sized = touches.sized ∙ kept.touched_sized ∙ sym (processes Settle old new (Ok nothing) step kept);
  touched_none = none_touched old.records new step old.sets.touched touched touches kept.touched_none;
}

-- an answer that equals it is that one
pub answer_is : (answer : Result Settled Refusal) → not (result_eq settled_eq.it refusal_eq.it answer (Ok nothing)) ≡ false → answer ≡ Ok nothing
answer_is (Err refusal) same = absurd (cc)
answer_is (Ok answer) same =
    let both = and_parts (nat_eq answer.raises 0) (nat_eq answer.verdicts 0) (not-false (nat_eq answer.raises 0 && nat_eq answer.verdicts 0) same) in
    let raises : answer.raises ≡ 0 = eqb-true answer.raises 0 both.0 in
    let verdicts : answer.verdicts ≡ 0 = eqb-true answer.verdicts 0 both.1 in
    λ i. Ok (record { raises = raises i; verdicts = verdicts i })
