-- What an acquire does to the wait-for graph: nothing, or the caller is blocked on the owner, under a label above that of both.
use Rattle.std.proofs.Common.{◌≡◌, ◌≢◌, ◌⊎◌, ℕ, ◌<◌, Option, Some, None, Result, Ok, Err, IsTrue, inl, inr, refl, sym, ap, ◌∙◌, arith, not, false, nat_eq}
use Rattle.std.proofs.Math.Decide.{ℕ_discrete}
use Rattle.std.specs.List.{AllByRecursion}
use Rattle.std.proofs.lemmas.Bool.{eqb-false, not-false}
use Rattle.mm_label.specs.Label.{Label, word_of, label_le, fresh_label, process_range}
use Rattle.mm_arena.specs.declared.key.Key.{Key}
use Rattle.mm_lists.specs.Members.{Among}
use Rattle.mm_rules.specs.declared.refusal.Refusal.{Refusal}
use Rattle.mm_rules.specs.declared.reply.Acquired.{Acquired}
use Rattle.mm_rules.specs.declared.reply.Acquired.TheVariants.{Waits}
use Rattle.mm_rules.specs.Graph.{Graph}
use Rattle.mm_rules.specs.TableState.{TableState, Wait, is_live, owner_of, wait_of, public_of, graph_of}
use Rattle.mm_rules.specs.Change.{label_against, block, block_fits}
use Rattle.mm_rules.specs.Event.{Acquire, Step, allowed, decided, acquire_tests, acquire_answer, acquire_change}
use Rattle.mm_rules.specs.Laws.{Laws}
use Rattle.mm_rules.specs.Victims.{BeginsWait}
use Rattle.mm_rules.specs.Rest.{HoldersShowTheSame}
use Rattle.mm_rules.proofs.Graph.Change.{Blocks}
use Rattle.mm_rules.proofs.Graph.Walks.{one_holder}
use Rattle.mm_rules.proofs.Graph.Closes.{IsWaitedFor, unseen_block_keeps_inner}
use Rattle.mm_rules.proofs.States.LabelOrder.{at_most_to}
use Rattle.mm_rules.proofs.States.Lookups.{WaitsHere, waits_here, none_of_is_some, held, live_within}
use Rattle.mm_rules.proofs.States.Grant.{owned_by, unwaited_graph}
use Rattle.mm_rules.proofs.States.Laws.{public_within}
use Rattle.mm_rules.proofs.States.Outcome.{tests_false}
use Rattle.mm_rules.proofs.States.Relabels.{KeepsLabels, other_labels}
use Rattle.mm_rules.proofs.States.Acquire.{queued, queued_blocks, own_label}
use Rattle.mm_rules.proofs.States.ClosesNone.{ClosesNone, closes_none_by, same_holders_close_none}

-- k waits for h from now on
pub record WaitsNow (s : TableState) (k h : Key) (new : TableState) : Type 0 where
  pub blocks : Blocks (graph_of s) k.process h.process (word_of (label_against s k.process h.process)) (graph_of new)
  pub above : word_of (public_of s h.process) < word_of (label_against s k.process h.process)
  pub shown : IsTrue (label_le (public_of new h.process) (public_of new k.process))
  pub verdicts : new.verdicts ≡ s.verdicts

above_holder : (own holder : Label) (n : ℕ) → holder.process < process_range → word_of holder < word_of (fresh_label own holder n)
above_holder own holder n inside = omega arith

module _ (s : TableState) (k : Key) (r : ℕ) (laws : Laws s) (live : IsTrue (is_live s k)) (active : wait_of s k.process ≡ None) where
  granted_closes_none : owner_of s r ≡ None → ClosesNone s (owned_by s r (Some k))
  granted_closes_none owned =
      let none : (w : Wait) → Among w s.waits → w.resource ≢ r = λ w among e.
      let other : (h : Key) × (owner_of s w.resource ≡ Some h) × (h.process ≢ w.key.process) = held s laws.lawful.well_formed w among in
      let never : None ≡ Some other.0 = sym owned ∙ ap (owner_of s) (sym e) ∙ other.1 in
      absurd (cc) in
      same_holders_close_none s (owned_by s r (Some k))
      (λ n. ap (λ (g : Graph). g.holder n) (unwaited_graph s r (Some k) (λ m waits. let here : WaitsHere s m r = waits_here s m r waits in none here.wait here.among here.resource)))
      (λ v was. was)

  waits_now : (h : Key) → owner_of s r ≡ Some h → h.process ≢ k.process → IsTrue (block_fits s k.process h.process) → WaitsNow s k h (block (queued s k r) k.process h.process)
  waits_now h owned apart fits =
      let blocks : Blocks (graph_of s) k.process h.process (word_of (label_against s k.process h.process)) (graph_of (block (queued s k r) k.process h.process))
      = queued_blocks s k r h laws live active owned apart fits in
      let h_in : h.process < s.config.processes = live_within s h laws.lawful.well_formed.sizes (laws.lawful.well_formed.owners r h owned) in
      let same : KeepsLabels (queued s k r) (block (queued s k r) k.process h.process) h.process = other_labels (queued s k r) k.process h.process h.process apart in
      let now : public_of (block (queued s k r) k.process h.process) k.process ≡ label_against s k.process h.process = own_label s k r h laws live active owned apart fits in
      record {
        blocks = blocks;
        above = above_holder (public_of s k.process) (public_of s h.process) k.process (public_within s laws h.process h_in);
        shown = rw (same.public, now) (at_most_to (public_of s h.process) (label_against s k.process h.process) (inl (omega arith)));
        verdicts = refl;
      }

-- who begins to wait closes no cycle, where nobody waits for it
unseen_closes_none : (s : TableState) (k h : Key) (new : TableState) → WaitsNow s k h new → HoldersShowTheSame s new → ClosesNone s new
unseen_closes_none s k h new now shows =
    let g = graph_of s in
    let unseen : IsWaitedFor (graph_of new) k.process → ⊥ = λ (waited : IsWaitedFor (graph_of new) k.process).
    omega (arith, ap word_of (shows waited.0 k.process waited.1), now.blocks.public_now, now.blocks.above) in
    closes_none_by s new
    (unseen_block_keeps_inner g (graph_of new) k.process h.process (word_of (label_against s k.process h.process)) now.blocks unseen)
    (λ v i waits was. rw now.verdicts was)
    (λ n i waits same. elim (ℕ_discrete n k.process) [
      | yes e ↦
          let holder : i ≡ h.process = one_holder (graph_of new) n i h.process waits (rw e now.blocks.waits) in
          inr (rw (holder, e) now.shown)
      | no apart ↦ inl (sym (now.blocks.others n apart).holder ∙ waits)
    ])

-- an acquire by which nobody begins to wait, or one by which k does
abbrev pub AcquireCases : TableState → Key → ℕ → Result Acquired Refusal → TableState → Type 0
AcquireCases s k r reply new = ((BeginsWait (Acquire k r) reply → ⊥) × ClosesNone s new) ⊎ (BeginsWait (Acquire k r) reply × ((h : Key) × WaitsNow s k h new × (reply ≡ Ok (Waits h (label_against s k.process h.process)))))

by_case : (s new : TableState) (k : Key) (r : ℕ) (reply : Result Acquired Refusal) → Laws s → (o : Option Key) → owner_of s r ≡ o
    → (a : Result (Unit {0}) Refusal) → allowed (acquire_tests s k r) ≡ a → reply ≡ (decided a s (acquire_answer s k o) (acquire_change s k r o)).reply
    → new ≡ (decided a s (acquire_answer s k o) (acquire_change s k r o)).state → AcquireCases s k r reply new
by_case s new k r reply laws o owned (Err refusal) is replied state = inl (rw replied (λ never. never), rw state (same_holders_close_none s s (λ n. refl) (λ v was. was)))
by_case s new k r reply laws None owned (Ok u) is replied state =
    let passed : AllByRecursion (λ t. t.0 ≡ false) (acquire_tests s k r) = tests_false (acquire_tests s k r) is in
    let closes : ClosesNone s (owned_by s r (Some k)) = granted_closes_none s k r laws (not-false (is_live s k) passed.1.0) (none_of_is_some (wait_of s k.process) passed.1.1.1.0) owned in
    inl (rw replied (λ never. never), rw state record { cycles = closes.cycles; verdicts = closes.verdicts; waits = closes.waits })
by_case s new k r reply laws (Some h) owned (Ok u) is replied state =
    let passed : AllByRecursion (λ t. t.0 ≡ false) (acquire_tests s k r) = tests_false (acquire_tests s k r) is in
    let not_own : nat_eq h.process k.process ≡ false = rw owned at passed.1.1.1.1.0 in
    let fits : not (block_fits s k.process h.process) ≡ false = rw owned at passed.1.1.1.1.1.0 in
    let now : WaitsNow s k h (block (queued s k r) k.process h.process) = waits_now s k r laws (not-false (is_live s k) passed.1.0) (none_of_is_some (wait_of s k.process) passed.1.1.1.0)
    h owned (eqb-false h.process k.process not_own) (not-false (block_fits s k.process h.process) fits) in
    inr (rw replied tt, (h, rw state record { blocks = now.blocks; above = now.above; shown = now.shown; verdicts = now.verdicts }, replied))

pub acquire_cases : (s new : TableState) (k : Key) (r : ℕ) (reply : Result Acquired Refusal) → Laws s → Step (Acquire k r) s reply new → AcquireCases s k r reply new
acquire_cases s new k r reply laws step = by_case s new k r reply laws (owner_of s r) refl (allowed (acquire_tests s k r)) refl step.0 step.1

pub acquire_closes_none : (s new : TableState) (k : Key) (r : ℕ) (reply : Result Acquired Refusal) → Laws s → Step (Acquire k r) s reply new
    → (BeginsWait (Acquire k r) reply → ⊥) ⊎ HoldersShowTheSame s new → AcquireCases s k r reply new → ClosesNone s new
acquire_closes_none s new k r reply laws step none (inl closes) = closes.1
acquire_closes_none s new k r reply laws step (inr shows) (inr now) = unseen_closes_none s k now.1.0 new now.1.1 shows
acquire_closes_none s new k r reply laws step (inl none) (inr now) = absurd (none now.0)
