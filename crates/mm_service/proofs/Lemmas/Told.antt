-- The cycle that is told leads from the holder to who asked.
use Rattle.std.proofs.Common.{◌≡◌, ◌≢◌, ◌∙◌, ◌<◌, ◌&&◌, ◌++◌, ℕ, zero, suc, true, false, List, [], ◌∷◌, length, Option, Some, None, option_map, option_and_then, slice_index_or, nat_eq, inl, inr, refl, sym, ap, subst, arith}
use Rattle.std.specs.Option.{option_map_or}
use Rattle.std.proofs.lemmas.Bool.{cases_eq, eq-eqb, ne_eqb, not-false}
use Rattle.std.proofs.lemmas.Option.{same_Some}
use Rattle.mm_arena.specs.declared.key.Key.{Key}
use Rattle.mm_arena.specs.Shelf.{key_eq}
use Rattle.mm_names.specs.Names.{name_of}
use Rattle.mm_rules.specs.declared.reply.Acquired.TheVariants as acquired
use Rattle.mm_rules.specs.Event.{acquire_answer, acquire_change, acquire_tests}
use Rattle.mm_rules.specs.Graph.{Path}
use Rattle.mm_rules.specs.TableState.{TableState, graph_of, holder_of, is_live, key_of, owner_of, owns, wait_of, waited_for}
use Rattle.mm_rules.specs.TakeBack.{IsSameButLabels}
use Rattle.mm_settled.specs.Calls.{Declines}
use Rattle.mm_settled.proofs.Lemmas.Accepted.{accepted}
use Rattle.mm_manager.specs.LockState.{LockState, IsLawful}
use Rattle.mm_manager.specs.Reads.{edge, wait_at}
use Rattle.mm_manager.specs.declared.reply.Wait.{Wait}
use Rattle.mm_service.specs.Cycle.{CycleIsTold, LeadTo, pair_text, pairs_text, waits_text}
use Rattle.mm_service.specs.Reply.{name_at}
use Rattle.mm_service.proofs.Lemmas.Cycle.{pairs_here}

-- ---- the wait of a process that has a holder

-- it is for something that a key of this process owns
record WaitOf (s : TableState) (p q : ℕ) : Type 0 where
  wait : Wait
  at : wait_at s p ≡ Some wait
  owner : owner_of s wait.number ≡ Some wait.holder
  holder : wait.holder.process ≡ q

owned_by : (s : TableState) (p q n : ℕ) (o : Option Key) → wait_of s p ≡ Some n → owner_of s n ≡ o → option_map (λ (k : Key). k.process) o ≡ Some q → WaitOf s p q
owned_by s p q n None waits is found = absurd (cc)
owned_by s p q n (Some h) waits is found = record {
  wait = record { key = key_of s p; number = n; holder = h };
  at = ap (option_and_then (edge s p)) waits ∙ ap (option_map (λ (x : Key). record { key = key_of s p; number = n; holder = x })) is;
  owner = is;
  holder = same_Some h.process q found;
}

waits_by : (s : TableState) (p q : ℕ) (o : Option ℕ) → wait_of s p ≡ o → option_map (λ (k : Key). k.process) (option_and_then (owner_of s) o) ≡ Some q → WaitOf s p q
waits_by s p q None is found = absurd (cc)
waits_by s p q (Some n) is found = owned_by s p q n (owner_of s n) is refl found

same_holder : (s t : TableState) (p : ℕ) → IsSameButLabels s t → holder_of t p ≡ holder_of s p
same_holder s t p same = λ i. option_map (λ (k : Key). k.process) (option_and_then (λ r. slice_index_or (same.owners i) r None) (waited_for (same.waits i) p))

wait_now : (s t : TableState) (p q : ℕ) → IsSameButLabels s t → holder_of s p ≡ Some q → WaitOf t p q
wait_now s t p q same holder = waits_by t p q (wait_of t p) refl (same_holder s t p same ∙ holder)

-- ---- along the waits

record Leads (m : LockState) (k h : Key) : Type 0 where
  waits : List Wait
  some : 0 < length waits
  lead : LeadTo m h waits k
  told : (most : ℕ) → pairs_text most m k h ≡ waits_text most m h waits

own_key : (h k : Key) → h ≡ k → key_eq h k ≡ true
own_key h k same = ap (λ x. key_eq x k) same ∙ (λ i. eq-eqb k.process k.process refl i && eq-eqb k.generation k.generation refl i)

other_key : (h k : Key) → h.process ≢ k.process → key_eq h k ≡ false
other_key h k apart = ap (λ b. b && nat_eq h.generation k.generation) (ne_eqb h.process k.process apart)

module _ (m : LockState) (k h : Key) (w : Wait) (at : wait_at m.table h.process ≡ Some w) where
  told_last : w.holder ≡ k → (most : ℕ) → pairs_text most m k h ≡ waits_text most m h (w ∷ [])
  told_last back zero = refl
  told_last back (suc most) = pairs_here (suc most) most m k h w refl at true (own_key w.holder k back)

  told_more : w.holder.process ≢ k.process → (ws : List Wait) → ((most : ℕ) → pairs_text most m k w.holder ≡ waits_text most m w.holder ws) → (most : ℕ) → pairs_text most m k h ≡ waits_text most m h (w ∷ ws)
  told_more apart ws rest zero = refl
  told_more apart ws rest (suc most) = pairs_here (suc most) most m k h w refl at false (other_key w.holder k apart) ∙ ap (λ l. pair_text h (name_at m w.number) ++ l) (rest most)

module _ (s : TableState) (m : LockState) (k : Key) (same : IsSameButLabels s m.table) (lawful : IsLawful m) (live : is_live m.table k ≡ true) where
  leads : (way : List ℕ) (h : Key) → Path (graph_of s) h.process way k.process → h.process ≢ k.process → Leads m k h
  leads [] h path apart = absurd (apart path)
  leads (q ∷ places) h path apart =
      let next = wait_now s m.table h.process q same path.1 in
      let w = next.wait in
      elim (cases_eq w.holder.process k.process) [
        | inl back ↦
            let own : w.holder ≡ k = lawful.alone w.holder k (lawful.laws.lawful.well_formed.owners w.number w.holder next.owner) live back in
            record { waits = w ∷ []; some = omega arith; lead = (next.at, own); told = told_last m k h w next.at own }
        | inr on ↦
            let rest = leads places w.holder (subst (λ p. Path (graph_of s) p places k.process) (sym next.holder) path.2) on in
            record { waits = w ∷ rest.waits; some = omega arith; lead = (next.at, rest.lead); told = told_more m k h w next.at on rest.waits rest.told }
      ]

-- ---- a deadlock

module _ (s u : TableState) (k h : Key) (r : ℕ) (declined : Declines s k r h u) where
  passed : is_live s k ≡ true
  passed = not-false (is_live s k) (accepted (acquire_tests s k r) s (acquire_answer s k (owner_of s r)) (acquire_change s k r (owner_of s r)) (acquired.Waits h declined.waited.label) declined.waited.mid declined.waited.event).passed.1.0

  not_own : owns s k.process r ≡ false
  not_own = (accepted (acquire_tests s k r) s (acquire_answer s k (owner_of s r)) (acquire_change s k r (owner_of s r)) (acquired.Waits h declined.waited.label) declined.waited.mid declined.waited.event).passed.1.1.1.1.0

  apart : h.process ≢ k.process
  apart same =
      let own : owns s k.process r ≡ true = ap (λ o. option_map_or (λ (x : Key). nat_eq x.process k.process) o false) declined.owner ∙ eq-eqb h.process k.process same in
      let never : true ≡ false = sym own ∙ not_own in
      absurd (cc)

pub cycle_is_told : CycleIsTold
cycle_is_told old new k h name did lawful after =
    let declined = did.step.1.2 in
    let same = did.locks.same in
    let live : is_live new.table k ≡ true = rw (same.live, same.generations) (passed old.table new.table k h did.step.1.0 declined) in
    let found = leads old.table new k same after live did.locks.closes.0 h did.locks.closes.1 (apart old.table new.table k h did.step.1.0 declined) in
    let owner = did.locks.holder in
    record {
      owner = (owner.0, ap (λ (m : LockState). name_of m.names owner.0) did.locks.state ∙ owner.1, ap (λ os. slice_index_or os owner.0 None) same.owners ∙ owner.2);
      waits = found.waits;
      some = found.some;
      lead = found.lead;
      told = found.told;
    }
