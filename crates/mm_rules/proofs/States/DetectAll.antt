-- Detects of several processes: none of them touches the graph, and afterwards each of these whose label has returned has a verdict.
use Rattle.std.proofs.Common.{◌≡◌, ◌&&◌, ℕ, ◌<◌, List, [], ◌∷◌, fold, true, false, not, IsTrue, inl, inr, refl, ap, subst, ◌∙◌, arith, get_or-set_same}
use Rattle.std.specs.Option.{option_map_or}
use Rattle.std.proofs.lemmas.Bool.{cases_Bool, and_from, not_from_false}
use Rattle.mm_label.specs.Label.{label_eq}
use Rattle.mm_lists.specs.Members.{Among}
use Rattle.mm_lists.proofs.Lemmas.Set.{true_still}
use Rattle.mm_rules.specs.Graph.{LabelReturned}
use Rattle.mm_rules.specs.TableState.{TableState, holder_of, private_of, public_of, has_verdict, graph_of}
use Rattle.mm_rules.specs.Change.{can_detect, detect}
use Rattle.mm_rules.specs.Laws.{Laws}
use Rattle.mm_rules.proofs.States.LabelOrder.{word_tells, label_eq_is}
use Rattle.mm_rules.proofs.States.Lookups.{holder_within}
use Rattle.mm_rules.proofs.States.Laws.{public_within, private_within}
use Rattle.mm_rules.proofs.States.Outcome.{KeepsLaws, keeps_same, keeps_then}
use Rattle.mm_rules.proofs.States.Detect.{convicted, detect_still, detect_convicts, detect_keeps}

pub detect_graph : (s : TableState) (n : ℕ) → graph_of (detect s n) ≡ graph_of s
detect_graph s n = elim (cases_Bool (can_detect s n)) [
  | inl can ↦ ap graph_of (detect_convicts s n can)
  | inr no_detect ↦ ap graph_of (detect_still s n no_detect)
]

pub detects_graph : (s : TableState) (ks : List ℕ) → graph_of (fold detect s ks) ≡ graph_of s
detects_graph s [] = refl
detects_graph s (k ∷ ks) = detects_graph (detect s k) ks ∙ detect_graph s k

pub detects_keep : (s : TableState) (ks : List ℕ) → Laws s → KeepsLaws s (fold detect s ks)
detects_keep s [] laws = keeps_same s laws
detects_keep s (k ∷ ks) laws =
    let now : KeepsLaws s (detect s k) = detect_keeps s k laws in
    keeps_then s (detect s k) (fold detect (detect s k) ks) now (detects_keep (detect s k) ks now.laws)

module _ (s : TableState) (laws : Laws s) (v h : ℕ) (returned : LabelReturned (graph_of s) v h) where
  both_in : (v < s.config.processes) × (h < s.config.processes)
  both_in = holder_within s laws.lawful.well_formed v h returned.waits

  -- where a label has returned and there is no verdict, there will be one
  returned_can : has_verdict s v ≡ false → can_detect s v ≡ true
  returned_can fresh =
      let own : private_of s v ≡ public_of s v = word_tells (private_of s v) (public_of s v) (private_within s laws v both_in.0) (public_within s laws v both_in.0) returned.own in
      let back : public_of s v ≡ public_of s h = word_tells (public_of s v) (public_of s h) (public_within s laws v both_in.0) (public_within s laws h both_in.1) returned.back in
      let first : (not (has_verdict s v) && label_eq (private_of s v) (public_of s v)) ≡ true
      = and_from (not (has_verdict s v)) (label_eq (private_of s v) (public_of s v)) (not_from_false (has_verdict s v) fresh) (label_eq_is (private_of s v) (public_of s v) own) in
      let second : option_map_or (λ i. label_eq (public_of s v) (public_of s i)) (holder_of s v) false ≡ true
      = ap (λ o. option_map_or (λ i. label_eq (public_of s v) (public_of s i)) o false) returned.waits ∙ label_eq_is (public_of s v) (public_of s h) back in
      and_from (not (has_verdict s v) && label_eq (private_of s v) (public_of s v)) (option_map_or (λ i. label_eq (public_of s v) (public_of s i)) (holder_of s v) false) first second

  verdict_given : IsTrue (has_verdict (convicted s v) v)
  verdict_given = get_or-set_same s.verdicts v true false (omega (arith, both_in, laws.lawful.well_formed.sizes.verdicts))

  detect_finds : IsTrue (has_verdict (detect s v) v)
  detect_finds = elim (cases_Bool (has_verdict s v)) [
    | inl standing ↦ elim (cases_Bool (can_detect s v)) [
      | inl can ↦ rw (detect_convicts s v can) verdict_given
      | inr no_detect ↦ rw (detect_still s v no_detect) standing
    ]
    | inr fresh ↦ rw (detect_convicts s v (returned_can fresh)) verdict_given
  ]

-- a verdict stands
detect_keeps_verdict : (s : TableState) (n v : ℕ) → IsTrue (has_verdict s v) → IsTrue (has_verdict (detect s n) v)
detect_keeps_verdict s n v verdict = elim (cases_Bool (can_detect s n)) [
  | inl can ↦ rw (detect_convicts s n can) (true_still s.verdicts n v verdict)
  | inr no_detect ↦ rw (detect_still s n no_detect) verdict
]

pub detects_keep_verdict : (s : TableState) (ks : List ℕ) (v : ℕ) → IsTrue (has_verdict s v) → IsTrue (has_verdict (fold detect s ks) v)
detects_keep_verdict s [] v verdict = verdict
detects_keep_verdict s (k ∷ ks) v verdict = detects_keep_verdict (detect s k) ks v (detect_keeps_verdict s k v verdict)

pub detects_find : (s : TableState) (ks : List ℕ) → Laws s → (v h : ℕ) → Among v ks → LabelReturned (graph_of s) v h → IsTrue (has_verdict (fold detect s ks) v)
detects_find s [] laws v h found returned = absurd found
detects_find s (k ∷ ks) laws v h (inl e) returned =
    let given : IsTrue (has_verdict (detect s v) v) = detect_finds s laws v h returned in
    detects_keep_verdict (detect s k) ks v (subst (λ (i : ℕ). IsTrue (has_verdict (detect s i) v)) e given)
detects_find s (k ∷ ks) laws v h (inr later) returned =
    detects_find (detect s k) ks (detect_keeps s k laws).laws v h later (rw (detect_graph s k) returned)
