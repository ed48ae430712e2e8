-- A change that closes no cycle of waits, and after which whoever begins to wait shows at least its holder's label.
use Rattle.std.proofs.Common.{◌≡◌, ◌⊎◌, ℕ, List, IsTrue, inl, inr, refl, sym, ◌∙◌}
use Rattle.mm_label.specs.Label.{label_le}
use Rattle.mm_lists.specs.Members.{Among}
use Rattle.mm_rules.specs.Graph.{WaitsFor, IsWaiting, Cycle}
use Rattle.mm_rules.specs.TableState.{TableState, holder_of, public_of, has_verdict, graph_of}
use Rattle.mm_rules.proofs.Graph.Closes.{KeepsInnerWaits, cycle_before, cycle_waits, same_holders_keep}
use Rattle.mm_rules.proofs.States.LabelOrder.{label_le_both, label_le_then}
use Rattle.mm_rules.proofs.States.Outcome.{KeepsLaws, counting}

-- each cycle stood before, and its verdicts stand; and each wait for one that shows the same label stood before, or shows no lower label than its holder
pub record ClosesNone (old new : TableState) : Type 0 where
  pub cycles : (k : ℕ) (cycle : List ℕ) → Cycle (graph_of new) k cycle → Cycle (graph_of old) k cycle
  pub verdicts : (k : ℕ) (cycle : List ℕ) → Cycle (graph_of new) k cycle → (v : ℕ) → Among v cycle → IsTrue (has_verdict old v) → IsTrue (has_verdict new v)
  pub waits : (n h : ℕ) → WaitsFor (graph_of new) n h → public_of new h ≡ public_of old h
      → WaitsFor (graph_of old) n h ⊎ IsTrue (label_le (public_of new h) (public_of new n))

pub closes_none_by : (old new : TableState) → KeepsInnerWaits (graph_of old) (graph_of new)
    → ((v h : ℕ) → WaitsFor (graph_of new) v h → IsTrue (has_verdict old v) → IsTrue (has_verdict new v))
    → ((n h : ℕ) → WaitsFor (graph_of new) n h → public_of new h ≡ public_of old h
    → WaitsFor (graph_of old) n h ⊎ IsTrue (label_le (public_of new h) (public_of new n)))
    → ClosesNone old new
closes_none_by old new inner verdicts waits = record {
  cycles = cycle_before (graph_of old) (graph_of new) inner;
  verdicts = λ k cycle is v among was. let now : IsWaiting (graph_of new) v = cycle_waits (graph_of new) k cycle is v among in verdicts v now.0 now.1 was;
  waits = waits;
}

-- holders are the same, and verdicts stand
pub same_holders_close_none : (old new : TableState) → ((n : ℕ) → holder_of new n ≡ holder_of old n)
    → ((v : ℕ) → IsTrue (has_verdict old v) → IsTrue (has_verdict new v)) → ClosesNone old new
same_holders_close_none old new same verdicts =
    closes_none_by old new (same_holders_keep (graph_of old) (graph_of new) same) (λ v h waits. verdicts v) (λ n h waits shows. inl (sym (same n) ∙ waits))

pub closes_none_itself : (s : TableState) → ClosesNone s s
closes_none_itself s = same_holders_close_none s s (λ n. refl) (λ v was. was)

pub closes_none_then : (a b c : TableState) → ClosesNone a b → ClosesNone b c → KeepsLaws a b → KeepsLaws b c → ClosesNone a c
closes_none_then a b c first second before after = record {
  cycles = λ k cycle is. first.cycles k cycle (second.cycles k cycle is);
  verdicts = λ k cycle is v among was. second.verdicts k cycle is v among (first.verdicts k cycle (second.cycles k cycle is) v among was);
  waits = λ n h waits same.
      let low : IsTrue (label_le (public_of c h) (public_of b h)) = rw same (before.rise h) in
      let now : public_of c h ≡ public_of b h = label_le_both (public_of c h) (public_of b h) low (after.rise h) in
      elim (second.waits n h waits now) [
        | inr shown ↦ inr shown
        | inl still ↦ elim (first.waits n h still (sym now ∙ same)) [
          | inl was ↦ inl was
          | inr shown ↦ inr (label_le_then (public_of c h) (public_of b n) (public_of c n) (rw now shown) (after.rise n))
        ]
      ];
}

pub counting_closes_none : (old new : TableState) (n : ℕ) → ClosesNone old new → ClosesNone old (counting new n)
counting_closes_none old new n closes = record { cycles = closes.cycles; verdicts = closes.verdicts; waits = closes.waits }
