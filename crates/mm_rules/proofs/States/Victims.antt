-- Who closes a cycle of waits is convicted by the settle that follows, and nobody else.
use Rattle.std.specs.Prelude.{⊤}
use Rattle.std.proofs.Common.{◌≡◌, ◌≢◌, ◌⊎◌, ℕ, ◌<◌, ◌≤◌, List, length, true, false, slice_index_or, Result, Ok, IsTrue, inl, inr, sym, ap, subst, ◌∙◌, arith}
use Rattle.std.proofs.Math.Decide.{ℕ_discrete}
use Rattle.std.proofs.lemmas.Bool.{cases_Bool}
use Rattle.mm_label.specs.Label.{Label, word_of}
use Rattle.mm_arena.specs.declared.key.Key.{Key}
use Rattle.mm_lists.specs.Members.{Among}
use Rattle.mm_rules.specs.declared.refusal.Refusal.{Refusal}
use Rattle.mm_rules.specs.declared.reply.Acquired.{Acquired}
use Rattle.mm_rules.specs.declared.reply.Acquired.TheVariants.{Waits}
use Rattle.mm_rules.specs.declared.reply.Settled.{Settled}
use Rattle.mm_rules.specs.Graph.{Path, Cycle, Deadlocked}
use Rattle.mm_rules.specs.TableState.{TableState, has_verdict, graph_of}
use Rattle.mm_rules.specs.Change.{label_against}
use Rattle.mm_rules.specs.Event.{Acquire, Settle, Step}
use Rattle.mm_rules.specs.Laws.{Laws, HasOneVerdict, AtRest}
use Rattle.mm_rules.specs.Victims.{IsOnCycle, EachCycleHasVerdict, IsNewest, NewestCloserIsVictim, VictimIsNewest, OnlyCloserIsConvicted, CloserIsVictim}
use Rattle.mm_rules.proofs.Graph.Walks.{active_waits_not, walk_again}
use Rattle.mm_rules.proofs.Graph.Cycles.{start_on_cycle, cycles_meet, cycle_holds_next, cycle_holds_reached}
use Rattle.mm_rules.proofs.Graph.Closes.{same_holders_keep, cycle_before, cycle_waits, settled_newest, greatest_was_on_cycle}
use Rattle.mm_rules.proofs.States.Laws.{graph_lawful}
use Rattle.mm_rules.proofs.States.EventsKeepLaws.{event_keeps}
use Rattle.mm_rules.proofs.States.Settle.{settle_gives_rest}
use Rattle.mm_rules.proofs.States.AcquireWaits.{WaitsNow, acquire_cases}
use Rattle.mm_rules.proofs.States.SettleKeeps.{SettleKeeps, same_holders, same_privates, settle_keeps}
use Rattle.mm_rules.proofs.States.NoVictim.{verdict_before, cycle_left, same_bool, verdicts_given, sized_alike, count_alike, count_one_more}

module _ (old mid new : TableState) (k i : Key) (answer : Settled) (before : Laws old) (laws_mid : Laws mid) (now : WaitsNow old k i mid) (settle : Step Settle mid (Ok answer) new) where
  laws_new : Laws new
  laws_new = (event_keeps Settle mid new (Ok answer) settle laws_mid).laws

  keeps : SettleKeeps mid new
  keeps = settle_keeps mid new (Ok answer) settle

  same_verdict : (v : ℕ) → has_verdict mid v ≡ has_verdict old v
  same_verdict v = ap (λ vs. slice_index_or vs v false) now.verdicts

  stand : (v : ℕ) → IsTrue (has_verdict old v) → IsTrue (has_verdict new v)
  stand v was = keeps.verdicts v (same_verdict v ∙ was)

  none_before : has_verdict old k.process ≡ false
  none_before = elim (cases_Bool (has_verdict old k.process)) [
    | inl verdict ↦ absurd (active_waits_not (graph_of old) k.process now.blocks.was_active ((before.convicted k.process verdict).0, (before.convicted k.process verdict).1.waits))
    | inr none ↦ none
  ]

  -- in the old graph a path from the holder is one of the new graph, as far as k
  path_after : (n : ℕ) (places : List ℕ) (m : ℕ) → Path (graph_of old) n places m → Path (graph_of mid) n places m
  path_after = walk_again (graph_of old) (graph_of mid) (λ _. ⊤) (λ _. ⊤)
      (λ m h waits each. (tt, (now.blocks.others m (λ e. active_waits_not (graph_of old) m (rw e now.blocks.was_active) (h, waits))).holder ∙ waits))

  -- a cycle of the old graph does not have the one that begins to wait
  old_cycle_without : (v : ℕ) → IsTrue (has_verdict old v) → (cycle : List ℕ) → Cycle (graph_of mid) k.process cycle → Among v cycle → ⊥
  old_cycle_without v verdict cycle is on =
      let g = graph_of old in
      let locked : Deadlocked g v = (before.convicted v verdict).2 in
      let still : Cycle (graph_of mid) v locked.places = record {
        closed = path_after v locked.places v locked.cycle.closed;
        moves = locked.cycle.moves;
        simple = locked.cycle.simple;
      } in
      let among : Among k.process locked.places
      = cycles_meet (graph_of mid) k.process v cycle locked.places is still v on (start_on_cycle g v locked.places locked.cycle) k.process (start_on_cycle (graph_of mid) k.process cycle is) in
      active_waits_not g k.process now.blocks.was_active (cycle_waits g v locked.places locked.cycle k.process among)

  is_convicted : IsTrue (has_verdict new k.process) → IsOnCycle mid k.process
  is_convicted verdict =
      let locked : Deadlocked (graph_of new) k.process = (laws_new.convicted k.process verdict).2 in
      (locked.places, cycle_left mid new keeps k.process locked.places locked.cycle)

  sized : length new.verdicts ≡ length mid.verdicts
  sized = sized_alike mid new laws_mid laws_new keeps

  none_mid : has_verdict mid k.process ≡ false
  none_mid = same_verdict k.process ∙ none_before

  -- who is convicted has the greatest label of its cycle, and along the waits from its holder nobody else stands
  victim_is_newest_here : IsTrue (has_verdict new k.process) → (way : List ℕ) (m : ℕ) → Path (graph_of old) i.process way m
      → (graph_of old).private m < word_of (label_against old k.process i.process)
  victim_is_newest_here verdict way m path = elim (ℕ_discrete m k.process) [
    | yes e ↦
        let ordered : (graph_of old).private k.process ≤ (graph_of old).public k.process = (graph_lawful old before).ordered k.process now.blocks.within.0 in
        rw e (omega (arith, ordered, now.blocks.above))
    | no apart ↦
        let g = graph_of mid in
        let locked : Deadlocked (graph_of new) k.process = (laws_new.convicted k.process verdict).2 in
        let cycle : Cycle g k.process locked.places = cycle_left mid new keeps k.process locked.places locked.cycle in
        let holder_on : Among i.process locked.places
        = cycle_holds_next g k.process locked.places cycle k.process i.process (start_on_cycle g k.process locked.places cycle) now.blocks.waits in
        let on : Among m locked.places = cycle_holds_reached g k.process locked.places cycle i.process way m holder_on (path_after i.process way m path) in
        omega (arith, locked.greatest m on apart, ap word_of (same_privates mid new keeps m), ap word_of (same_privates mid new keeps k.process), (now.blocks.others m apart).private, now.blocks.private_now)
  ]

  module _ (each : EachCycleHasVerdict old) (newest : (way : List ℕ) (m : ℕ) → Path (graph_of old) i.process way m → (graph_of old).private m < word_of (label_against old k.process i.process)) where
    convicted_before : (v : ℕ) → v ≢ k.process → IsTrue (has_verdict new v) → IsTrue (has_verdict old v)
    convicted_before v apart verdict =
        let locked : Deadlocked (graph_of new) v = (laws_new.convicted v verdict).2 in
        let was : Cycle (graph_of mid) v locked.places = cycle_left mid new keeps v locked.places locked.cycle in
        let greatest : (j : ℕ) → Among j locked.places → j ≢ v → (graph_of mid).private j < (graph_of mid).private v = λ j among other.
        omega (arith, locked.greatest j among other, ap word_of (same_privates mid new keeps j), ap word_of (same_privates mid new keeps v)) in
        let is : Cycle (graph_of old) v locked.places
        = greatest_was_on_cycle (graph_of old) (graph_of mid) k.process i.process (word_of (label_against old k.process i.process)) now.blocks (graph_lawful old before) newest
        v locked.places apart was greatest in
        verdict_before old new laws_new stand v verdict (each v locked.places is)

    others_same : (v : ℕ) → v ≢ k.process → has_verdict new v ≡ has_verdict old v
    others_same v apart = same_bool (has_verdict new v) (has_verdict old v) (convicted_before v apart) (stand v)

    convicts : IsOnCycle mid k.process → IsTrue (has_verdict new k.process)
    convicts (cycle, is) =
        let rests : AtRest new = (settle_gives_rest mid new answer settle laws_mid).at_rest in
        let cycle_new : Cycle (graph_of new) k.process cycle
        = cycle_before (graph_of new) (graph_of mid) (same_holders_keep (graph_of new) (graph_of mid) (λ n. sym (same_holders mid new keeps n))) k.process cycle is in
        let one : HasOneVerdict new cycle = rests.cycles k.process cycle cycle_new in
        elim (ℕ_discrete one.victim k.process) [
          | yes e ↦ subst (λ (v : ℕ). IsTrue (has_verdict new v)) e one.verdict
          | no apart ↦ absurd (old_cycle_without one.victim (convicted_before one.victim apart one.verdict) cycle is one.on_cycle)
        ]

    others_mid : (v : ℕ) → v ≢ k.process → has_verdict new v ≡ has_verdict mid v
    others_mid v apart = others_same v apart ∙ sym (same_verdict v)

    given : (IsOnCycle mid k.process × (answer.verdicts ≡ 1)) ⊎ ((IsOnCycle mid k.process → ⊥) × (answer.verdicts ≡ 0))
    given = elim (cases_Bool (has_verdict new k.process)) [
      | inl verdict ↦
          inl (is_convicted verdict, omega (arith, verdicts_given mid new answer settle laws_mid laws_new, count_one_more mid.verdicts new.verdicts k.process sized others_mid none_mid verdict))
      | inr none ↦
          let same : (v : ℕ) → has_verdict new v ≡ has_verdict mid v = λ v. elim (ℕ_discrete v k.process) [
            | yes e ↦ rw e (none ∙ sym none_mid)
            | no apart ↦ others_mid v apart
          ] in
          inr (λ on. (let never : true ≡ false = sym (convicts on) ∙ none in cc), omega (arith, verdicts_given mid new answer settle laws_mid laws_new, count_alike mid.verdicts new.verdicts sized same))
    ]

    only_closer : OnlyCloserIsConvicted old mid new k.process answer
    only_closer = record { before = none_before; others = others_same; closer = (is_convicted, convicts); verdicts = given }

newest_at : (s : TableState) (h i : Key) (l m : Label) → h ≡ i → l ≡ m → IsNewest s h.process l → IsNewest s i.process m
newest_at s h i l m holder label newest = rw (← holder, ← label) newest

module _ (old mid new : TableState) (k h : Key) (r : ℕ) (l : Label) (answer : Settled) (acquire : Step (Acquire k r) old (Ok (Waits h l)) mid) (settle : Step Settle mid (Ok answer) new) (laws : Laws old) where
  laws_after : Laws mid
  laws_after = (event_keeps (Acquire k r) old mid (Ok (Waits h l)) acquire laws).laws

  begins : (i : Key) × WaitsNow old k i mid × (◌≡◌ {A = Result Acquired Refusal} (Ok (Waits h l)) (Ok (Waits i (label_against old k.process i.process))))
  begins = elim (acquire_cases old mid k r (Ok (Waits h l)) laws acquire) [
    | inl none ↦ absurd (none.0 tt)
    | inr now ↦ now.1
  ]

  holder_is : h ≡ begins.0
  holder_is = (let is = begins.2 in cc)

  label_is : l ≡ label_against old k.process begins.0.process
  label_is = (let is = begins.2 in cc)

  by_newest : EachCycleHasVerdict old → IsNewest old h.process l → OnlyCloserIsConvicted old mid new k.process answer
  by_newest each newest = only_closer old mid new k begins.0 answer laws laws_after begins.1 settle each (newest_at old h begins.0 l (label_against old k.process begins.0.process) holder_is label_is newest)

  by_rest : AtRest old → OnlyCloserIsConvicted old mid new k.process answer
  by_rest rest = only_closer old mid new k begins.0 answer laws laws_after begins.1 settle rest.cycles
      (settled_newest (graph_of old) (graph_of mid) k.process begins.0.process (word_of (label_against old k.process begins.0.process)) begins.1.blocks (graph_lawful old laws) rest.transmitted begins.1.above)

  is_newest : IsTrue (has_verdict new k.process) → IsNewest old h.process l
  is_newest verdict = newest_at old begins.0 h (label_against old k.process begins.0.process) l (sym holder_is) (sym label_is)
      (victim_is_newest_here old mid new k begins.0 answer laws laws_after begins.1 settle verdict)

pub newest_closer_is_victim : NewestCloserIsVictim
newest_closer_is_victim old mid new k h r l answer acquire settle laws each newest = by_newest old mid new k h r l answer acquire settle laws each newest

pub victim_is_newest : VictimIsNewest
victim_is_newest old mid new k h r l answer acquire settle laws verdict = is_newest old mid new k h r l answer acquire settle laws verdict

pub closer_is_victim : CloserIsVictim
closer_is_victim old mid new k h r l answer acquire settle laws rest = by_rest old mid new k h r l answer acquire settle laws rest
