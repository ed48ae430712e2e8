-- Which cycles a change closes: none but through who comes to wait, and on those its new label is the greatest.
use Rattle.std.specs.Prelude.{ℕ, ◌≡◌, ◌≢◌, ◌<◌, ◌⊎◌, List, [], ◌∷◌, ⊤}
use Rattle.std.proofs.Common.{inl, inr, arith, sym, ◌∙◌}
use Rattle.std.proofs.Math.Decide.{ℕ_discrete}
use Rattle.mm_lists.specs.Members.{Among}
use Rattle.mm_lists.proofs.Lemmas.Among.{among_or_not}
use Rattle.mm_rules.specs.Graph.{Graph, WaitsFor, IsWaiting, IsActive, Path, Cycle, IsSettled}
use Rattle.mm_rules.proofs.Graph.Laws.{IsLawful}
use Rattle.mm_rules.proofs.Graph.Change.{Blocks}
use Rattle.mm_rules.proofs.Graph.Walks.{one_holder, active_waits_not, begins_waiting}
use Rattle.mm_rules.proofs.Graph.IsSettled.{falls_to, start_waits, all_wait}
use Rattle.mm_rules.proofs.Graph.HandOver.{HandsOver}

-- somebody waits for k
abbrev pub IsWaitedFor : Graph → ℕ → Type 0
IsWaitedFor g k = (n : ℕ) × WaitsFor g n k

-- each wait for one who waits too, by one who is waited for, stood in g
abbrev pub KeepsInnerWaits : Graph → Graph → Type 0
KeepsInnerWaits g new = (i j : ℕ) → IsWaitedFor new i → IsWaiting new j → WaitsFor new i j → WaitsFor g i j

-- the end of a path is waited for
end_waited_for : (g : Graph) (n : ℕ) (places : List ℕ) (m : ℕ) → Path g n places m → IsWaitedFor g n → IsWaitedFor g m
end_waited_for g n [] m end waited = rw (← end) waited
end_waited_for g n (j ∷ places) m path waited = end_waited_for g j places m path.2 (n, path.1)

start_waited_for : (g : Graph) (s : ℕ) (places : List ℕ) → Cycle g s places → IsWaitedFor g s
start_waited_for g s [] cycle = absurd (omega (arith, cycle.moves))
start_waited_for g s (j ∷ places) cycle = end_waited_for g j places s cycle.closed.2 (s, cycle.closed.1)

path_before : (g new : Graph) → KeepsInnerWaits g new → (n : ℕ) (places : List ℕ) (m : ℕ) → Path new n places m → IsWaitedFor new n → IsWaiting new m → Path g n places m
path_before g new keeps n [] m end waited waiting = end
path_before g new keeps n (j ∷ places) m path waited waiting =
    let next : IsWaiting new j = begins_waiting new (λ _. ⊤) j places m path.2 waiting in
    (tt, keeps n j waited next path.1, path_before g new keeps j places m path.2 (n, path.1) waiting)

-- so a cycle of the new graph was one before
pub cycle_before : (g new : Graph) → KeepsInnerWaits g new → (s : ℕ) (places : List ℕ) → Cycle new s places → Cycle g s places
cycle_before g new keeps s places cycle = record {
  closed = path_before g new keeps s places s cycle.closed (start_waited_for new s places cycle) (start_waits new s places cycle);
  moves = cycle.moves;
  simple = cycle.simple;
}

pub cycle_waits : (g : Graph) (s : ℕ) (places : List ℕ) → Cycle g s places → (k : ℕ) → Among k places → IsWaiting g k
cycle_waits g s places cycle k = all_wait g s places s k cycle.closed (start_waits g s places cycle)

-- ---- changes that close no cycle

pub same_holders_keep : (g new : Graph) → ((k : ℕ) → new.holder k ≡ g.holder k) → KeepsInnerWaits g new
same_holders_keep g new same i j waited waiting waits = sym (same i) ∙ waits

pub activate_keeps_inner : (g new : Graph) (n : ℕ) → IsActive new n → ((k : ℕ) → k ≢ n → new.holder k ≡ g.holder k) → KeepsInnerWaits g new
activate_keeps_inner g new n active same i j waited waiting waits =
    let apart : i ≢ n = λ e. active_waits_not new i (rw e active) (j, waits) in
    sym (same i apart) ∙ waits

module _ (number : ℕ → ℕ) (g : Graph) (o f : ℕ) (rest : List ℕ) (label : ℕ → ℕ) (new : Graph) (over : HandsOver number g o f rest label new) where
  -- after a hand-over, who waits is one that waits for the first, or waited for the same before
  pub hand_over_waits : (i j : ℕ) → WaitsFor new i j → (Among i rest × (j ≡ f)) ⊎ WaitsFor g i j
  hand_over_waits i j waits = elim (ℕ_discrete i f) [
    | yes e ↦ absurd (active_waits_not new i (rw e over.first_now.0) (j, waits))
    | no apart ↦ elim (among_or_not i rest) [
      | inl among ↦ inl (among, one_holder new i j f waits (over.rest_now i among).0)
      | inr never ↦ inr (sym (over.others i apart never).holder ∙ waits)
    ]
  ]

  pub hand_over_keeps_inner : KeepsInnerWaits g new
  hand_over_keeps_inner i j waited waiting waits = elim (hand_over_waits i j waits) [
    | inl to_first ↦ absurd (active_waits_not new j (rw to_first.1 over.first_now.0) waiting)
    | inr before ↦ before
  ]

-- each place of a path from within is within
path_within : (g : Graph) → IsLawful g → (n : ℕ) (places : List ℕ) (m : ℕ) → n < g.processes → Path g n places m → m < g.processes
path_within g laws n [] m within end = rw (← end) within
path_within g laws n (j ∷ places) m within path = path_within g laws j places m (laws.within n j path.1).1 path.2

-- ---- a block

module _ (g new : Graph) (n h L : ℕ) (b : Blocks g n h L new) where
  -- where nobody waits for who blocks, it closes no cycle
  pub unseen_block_keeps_inner : (IsWaitedFor new n → ⊥) → KeepsInnerWaits g new
  unseen_block_keeps_inner unseen i j waited waiting waits =
      let apart : i ≢ n = λ e. unseen (rw e at waited) in
      sym (b.others i apart).holder ∙ waits

  -- a path that leads to another than n was one before, or it leaves n, and from there on it was one from h
  left_last : (k : ℕ) (places : List ℕ) (m : ℕ) → Path new k places m → m ≢ n → Path g k places m ⊎ (Among n (k ∷ places) × ((way : List ℕ) × Path g h way m))
  left_last k [] m end apart = inl end
  left_last k (j ∷ places) m path apart = elim (left_last j places m path.2 apart) [
    | inr later ↦ inr (inr later.0, later.1)
    | inl rest ↦ elim (ℕ_discrete k n) [
      | yes e ↦
          let same : j ≡ h = one_holder new n j h (rw e at path.1) b.waits in
          inr (inl (sym e), (places, rw same at rest))
      | no other ↦ inl (tt, sym (b.others k other).holder ∙ path.1, rest)
    ]
  ]

  -- where no label can be raised, a label above the public one of h is above each private one along the waits from h
  pub settled_newest : IsLawful g → IsSettled g → g.public h < L → (way : List ℕ) (m : ℕ) → Path g h way m → g.private m < L
  settled_newest laws settled above way m path =
      omega (arith, laws.ordered m (path_within g laws h way m b.within.1 path), falls_to g settled h way m path, above)

  module _ (laws : IsLawful g) (newest : (way : List ℕ) (m : ℕ) → Path g h way m → g.private m < L) where
    -- where the new label is above each private one along the waits from h, who has the greatest private label of a cycle, and is another than n, was on that cycle before
    pub greatest_was_on_cycle : (v : ℕ) (places : List ℕ) → v ≢ n → Cycle new v places
        → ((k : ℕ) → Among k places → k ≢ v → new.private k < new.private v) → Cycle g v places
    greatest_was_on_cycle v places apart cycle greatest = elim (left_last v places v cycle.closed apart) [
      | inl path ↦ record { closed = path; moves = cycle.moves; simple = cycle.simple }
      | inr left ↦ elim left.0 [
        | inl e ↦ absurd (apart (sym e))
        | inr found ↦
            let newer : new.private n < new.private v = greatest n found (λ e. apart (sym e)) in
            absurd (omega (arith, newest left.1.0 v left.1.1, (b.others v apart).private, b.private_now, newer))
      ]
    ]
