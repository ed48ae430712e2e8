-- That whoever waited and goes on after a call is woken.
use Rattle.std.proofs.Common.{◌≡◌, ◌≤◌, ℕ, true, false, List, [], ◌∷◌, length, cond, Option, None, Some, is_some, IsTrue, inl, inr, refl, sym, ap, ◌∙◌, arith}
use Rattle.std.specs.List.{filter_map, range_with_len}
use Rattle.std.proofs.lemmas.Bool.{cases_Bool}
use Rattle.mm_arena.specs.declared.key.Key.{Key}
use Rattle.mm_lists.specs.Members.{Among}
use Rattle.mm_lists.proofs.Lemmas.Filter.{filter_keeps}
use Rattle.mm_lists.proofs.Lemmas.Range.{among_range, length_filter_range}
use Rattle.mm_rules.specs.TableState.{TableState, is_waiting}
use Rattle.mm_rules.specs.Event.{tenant_of}
use Rattle.mm_rules.specs.Laws.{Laws}
use Rattle.mm_rules.proofs.States.Lookups.{waiting_has_holder, holder_within}
use Rattle.mm_settle_lemmas.specs.Touched.{is_changed, changed_processes}
use Rattle.mm_settle_lemmas.proofs.Lemmas.Told.{unchanged_is}
use Rattle.example_calls.specs.Wake.{active_key, active_keys}

pub filter_map_keeps : {X Y : Type 0} (h : X → Option Y) (xs : List X) (x : X) (y : Y) → Among x xs → h x ≡ Some y → Among y (filter_map h xs)
filter_map_keeps h [] x y found gives = absurd found
filter_map_keeps {X} {Y} h (z ∷ zs) x y (inl e) gives = let here : h z ≡ Some y = ap h (sym e) ∙ gives in rw here (inl refl)
filter_map_keeps {X} {Y} h (z ∷ zs) x y (inr later) gives =
    let rest : Among y (filter_map h zs) = filter_map_keeps h zs x y later gives in
    by (h z) refl rest
  where
    by : (o : Option Y) → h z ≡ o → Among y (filter_map h zs) → Among y (filter_map h (z ∷ zs))
    by None e rest = rw e rest
    by (Some w) e rest = rw e (inr rest)

-- there are no more of them than processes
pub changed_fit : (s t : TableState) → length (changed_processes s t) ≤ s.config.processes
changed_fit s t = length_filter_range (is_changed s t) s.config.processes

module _ (s t : TableState) (n : ℕ) (k : Key) (active : active_key t n ≡ Some k) where
  waits_no_longer : is_waiting t n ≡ false
  waits_no_longer = elim (cases_Bool (is_waiting t n)) [
    | inl waits ↦ let never : None ≡ Some k = sym (ap (λ b. cond b None (tenant_of t n)) waits) ∙ active in absurd (cc)
    | inr idle ↦ idle
  ]

  pub is_changed_by : IsTrue (is_waiting s n) → is_changed s t n ≡ true
  is_changed_by waited = elim (cases_Bool (is_changed s t n)) [
    | inl changed ↦ changed
    | inr same ↦ let never : true ≡ false = sym waited ∙ sym (ap is_some (unchanged_is s t n same).wait) ∙ waits_no_longer in absurd (cc)
  ]

  pub all_woken : Laws s → IsTrue (is_waiting s n) → Among k (active_keys t (changed_processes s t))
  all_woken laws waited =
      let formed = laws.lawful.well_formed in
      let held = waiting_has_holder s formed n waited in
      let within = (holder_within s formed n held.0 held.1).0 in
      let told : Among n (changed_processes s t) =
      filter_keeps (is_changed s t) (range_with_len 0 s.config.processes) n (among_range 0 s.config.processes n (omega arith) (omega arith)) (is_changed_by waited) in
      filter_map_keeps (active_key t) (changed_processes s t) n k told active
