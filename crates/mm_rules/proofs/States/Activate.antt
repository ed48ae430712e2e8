-- A process waits no longer: what the waits are then, and the laws stay where the graph lets it go.
use Rattle.std.proofs.Common.{◌≡◌, ◌≢◌, ◌+◌, ℕ, List, length, Bool, true, false, not, slice_index_or, None, is_some, option_map, option_and_then, IsTrue, refl, sym, ap, ◌∙◌}
use Rattle.std.specs.List.{count_by}
use Rattle.std.proofs.lemmas.Bool.{eqb-false, ne_eqb, eqb-true, not-true, not_from_false}
use Rattle.mm_arena.specs.declared.key.Key.{Key}
use Rattle.mm_lists.specs.Members.{Among}
use Rattle.mm_lists.proofs.Lemmas.Filter.{filter_all, filter_gives}
use Rattle.mm_lists.proofs.Lemmas.Find.{find_filter, none_found}
use Rattle.mm_lists.proofs.Lemmas.NoRepeat.{no_repeat_filter}
use Rattle.mm_rules.specs.declared.reply.Totals.{Totals}
use Rattle.mm_rules.specs.Graph.{WaitsFor}
use Rattle.mm_rules.specs.TableState.{TableState, Wait, is_of, is_live, wait_of, owner_of, has_verdict, public_of, graph_of}
use Rattle.mm_rules.specs.Change.{activate}
use Rattle.mm_rules.specs.Laws.{IsHeld, Laws}
use Rattle.mm_rules.proofs.States.IsSized.{same_lengths}
use Rattle.mm_rules.proofs.Graph.Change.{Activates, MayActivate}
use Rattle.mm_rules.proofs.Graph.Activate.{activate_keeps_laws}
use Rattle.mm_rules.proofs.Graph.LabelReturned.{activate_keeps_returned}
use Rattle.mm_rules.proofs.States.LabelOrder.{label_le_same}
use Rattle.mm_rules.proofs.States.Lookups.{no_holder}
use Rattle.mm_rules.proofs.States.Laws.{graph_lawful, laws_by}
use Rattle.mm_rules.proofs.States.Outcome.{KeepsLaws}

module _ (s : TableState) (n : ℕ) where
  is_other : (w : Wait) → w.key.process ≢ n → not (is_of n w) ≡ true
  is_other w apart = not_from_false (is_of n w) (ne_eqb w.key.process n apart)

  pub wait_of_another : (w : Wait) → Among w (activate s n).waits → Among w s.waits × (w.key.process ≢ n)
  wait_of_another w among =
      let was : Among w s.waits × (not (is_of n w) ≡ true) = filter_gives (λ x. not (is_of n x)) s.waits w among in
      (was.0, eqb-false w.key.process n (not-true (is_of n w) was.1))

  pub waits_no_longer : wait_of (activate s n) n ≡ None
  waits_no_longer = ap (option_map (λ (w : Wait). w.resource)) (none_found (is_of n) (activate s n).waits (λ w among. ne_eqb w.key.process n (wait_of_another w among).1))

  pub waits_else : (m : ℕ) → m ≢ n → wait_of (activate s n) m ≡ wait_of s m
  waits_else m apart = ap (option_map (λ (w : Wait). w.resource)) (find_filter (is_of m) (λ x. not (is_of n x)) s.waits (λ w is_m.
      is_other w (λ is_n. apart (sym (eqb-true w.key.process m is_m) ∙ is_n))))

-- n waits no longer, and verdicts and totals are these
abbrev pub activated_with : TableState → ℕ → List Bool → Totals → TableState
activated_with s n verdicts totals = record (activate s n) { verdicts = verdicts; totals = totals }

module _ (s : TableState) (n h : ℕ) (verdicts : List Bool) (totals : Totals) (laws : Laws s) (waits : WaitsFor (graph_of s) n h) (may : MayActivate (graph_of s) n h)
    (before : (v : ℕ) → slice_index_or verdicts v false ≡ true → (v ≢ n) × IsTrue (has_verdict s v)) where
  activated_with_graph : Activates (graph_of s) n h (graph_of (activated_with s n verdicts totals))
  activated_with_graph = record {
    waited = waits;
    may = may;
    processes = refl;
    now_active = no_holder (activated_with s n verdicts totals) n (waits_no_longer s n);
    holders = λ k apart. ap (λ o. option_map (λ (k : Key). k.process) (option_and_then (owner_of s) o)) (waits_else s n k apart);
    privates = λ k. refl;
    publics = λ k. refl;
  }

  pub activated_with_keeps : length verdicts ≡ length s.verdicts → totals.verdicts ≡ totals.aborts + count_by (λ v. v) verdicts → KeepsLaws s (activated_with s n verdicts totals)
  activated_with_keeps sized counted = record {
    laws = laws_by (activated_with s n verdicts totals)
        (record {
          config = laws.lawful.well_formed.config;
          sizes = same_lengths s _ laws.lawful.well_formed.sizes refl refl refl refl refl sized refl;
          owners = laws.lawful.well_formed.owners;
          waits = filter_all (λ w. IsTrue (is_live s w.key) × IsHeld s w) (λ w. not (is_of n w)) s.waits laws.lawful.well_formed.waits;
          waits_once = no_repeat_filter (λ (w : Wait). w.key.process) (λ w. not (is_of n w)) s.waits laws.lawful.well_formed.waits_once;
          verdicts = λ v verdict.
              let was : (v ≢ n) × IsTrue (has_verdict s v) = before v verdict in
              ap is_some (waits_else s n v was.0) ∙ laws.lawful.well_formed.verdicts v was.1;
          free = laws.lawful.well_formed.free;
          free_once = laws.lawful.well_formed.free_once;
        })
        (record { own = laws.lawful.private_labels.own; at_most_public = laws.lawful.private_labels.at_most_public })
        (record { made = laws.lawful.label_bounds.made; newest = laws.lawful.label_bounds.newest; limit = laws.lawful.label_bounds.limit })
        (activate_keeps_laws (graph_of s) (graph_of (activated_with s n verdicts totals)) n h activated_with_graph (graph_lawful s laws))
        counted
        (λ v verdict.
        let was : (v ≢ n) × IsTrue (has_verdict s v) = before v verdict in
        ((laws.convicted v was.1).0, activate_keeps_returned (graph_of s) (graph_of (activated_with s n verdicts totals)) n h v (laws.convicted v was.1).0 activated_with_graph was.0 (laws.convicted v was.1).1));
    rise = λ k. label_le_same (public_of s k);
  }
