-- Acquire keeps the laws: it grants a resource without owner, or else the caller is blocked on the owner.
use Rattle.std.proofs.Common.{◌≡◌, ◌≢◌, ℕ, ◌<◌, [], ◌∷◌, ◌++◌, length, find, nat_eq, false, not, Option, Some, None, is_some, option_map, option_and_then, IsTrue, inl, inr, refl, sym, ap, ◌∙◌, arith, length-set}
use Rattle.std.specs.Option.{option_or, option_map_or}
use Rattle.std.proofs.lemmas.Bool.{cases_eq, eqb-false, eq-eqb, ne_eqb, not-false}
use Rattle.std.proofs.lemmas.List.Folds.{find-append}
use Rattle.mm_label.specs.Label.{word_of}
use Rattle.mm_arena.specs.declared.key.Key.{Key}
use Rattle.mm_lists.specs.Members.{Among}
use Rattle.mm_lists.proofs.Lemmas.Among.{all_at, all_from, among_append}
use Rattle.mm_lists.proofs.Lemmas.NoRepeat.{no_repeat_push}
use Rattle.mm_rules.specs.Graph.{LabelReturned}
use Rattle.mm_rules.specs.TableState.{TableState, Wait, is_live, is_of, owner_of, wait_of, public_of, graph_of}
use Rattle.mm_rules.specs.Change.{label_against, block, block_fits}
use Rattle.mm_rules.specs.Event.{acquire_tests, acquire_answer, acquire_change, acquired}
use Rattle.mm_rules.specs.Laws.{IsHeld, Laws, WellFormed}
use Rattle.mm_rules.proofs.States.IsSized.{same_lengths}
use Rattle.mm_rules.proofs.Graph.Change.{SameAt, Blocks}
use Rattle.mm_rules.proofs.Graph.LabelMakers.{made_labels_are_fresh}
use Rattle.mm_rules.proofs.Graph.Block.{block_keeps_laws}
use Rattle.mm_rules.proofs.Graph.LabelReturned.{block_keeps_returned}
use Rattle.mm_rules.proofs.States.LabelOrder.{word_process, word_process_is, fresh_above}
use Rattle.mm_rules.proofs.States.Lookups.{WaitsHere, waits_here, waits_of_others, none_of_is_some, map_none, held, live_within, no_holder, holder_is}
use Rattle.mm_rules.proofs.States.Grant.{unwaited_keeps}
use Rattle.mm_rules.proofs.States.Laws.{graph_lawful, graph_makers, laws_by, public_within}
use Rattle.mm_rules.proofs.States.Outcome.{KeepsLaws, outcome_keeps_laws}
use Rattle.mm_rules.proofs.States.Relabels.{Relabels, GetsLabel, KeepsLabels, blocked_labels, other_labels, block_relabels, relabelled_private, relabelled_bounds, relabelled_rise}

or_none : {X : Type 0} (o : Option X) → option_or o None ≡ o
or_none None = refl
or_none (Some x) = refl

-- k waits for r too, last of all
abbrev pub queued : TableState → Key → ℕ → TableState
queued s k r = record s { waits = s.waits ++ record { key = k; resource = r } ∷ [] }

module _ (s : TableState) (k : Key) (r : ℕ) where
  queued_wait : wait_of s k.process ≡ None → wait_of (queued s k r) k.process ≡ Some r
  queued_wait active =
      let none : find (is_of k.process) s.waits ≡ None = map_none (λ (x : Wait). x.resource) (find (is_of k.process) s.waits) active in
      rw (find-append (is_of k.process) s.waits (record { key = k; resource = r } ∷ []), none, eq-eqb k.process k.process refl) refl

  queued_wait_else : (n : ℕ) → n ≢ k.process → wait_of (queued s k r) n ≡ wait_of s n
  queued_wait_else n apart =
      let other : nat_eq k.process n ≡ false = ne_eqb k.process n (λ e. apart (sym e)) in
      rw (find-append (is_of n) s.waits (record { key = k; resource = r } ∷ []), other, or_none (find (is_of n) s.waits)) refl

  module _ (h : Key) (laws : Laws s) (live : IsTrue (is_live s k)) (active : wait_of s k.process ≡ None)
      (owned : owner_of s r ≡ Some h) (apart : h.process ≢ k.process) (fits : IsTrue (block_fits s k.process h.process)) where
    within : k.process < s.config.processes
    within = live_within s k laws.lawful.well_formed.sizes live

    private_in : k.process < length s.private
    private_in = omega (arith, within, laws.lawful.well_formed.sizes.private)

    public_in : k.process < length s.public
    public_in = omega (arith, within, laws.lawful.well_formed.sizes.public)

    labels : GetsLabel (queued s k r) (block (queued s k r) k.process h.process) k.process (label_against s k.process h.process)
    labels = blocked_labels (queued s k r) k.process h.process private_in public_in fits

    pub own_label : public_of (block (queued s k r) k.process h.process) k.process ≡ label_against s k.process h.process
    own_label = labels.public

    above : word_of (public_of s k.process) < word_of (label_against s k.process h.process)
    above = fresh_above (public_of s k.process) (public_of s h.process) k.process (public_within s laws k.process within)

    named : word_process (word_of (label_against s k.process h.process)) ≡ k.process
    named = word_process_is (label_against s k.process h.process) (omega (arith, within, laws.lawful.well_formed.config.processes))

    others_same : (n : ℕ) → n ≢ k.process → SameAt (graph_of s) (graph_of (block (queued s k r) k.process h.process)) n
    others_same n other =
        let same : KeepsLabels (queued s k r) (block (queued s k r) k.process h.process) n = other_labels (queued s k r) k.process h.process n other in
        record {
          holder = ap (λ o. option_map (λ (k : Key). k.process) (option_and_then (owner_of s) o)) (queued_wait_else n other);
          private = ap word_of same.private;
          public = ap word_of same.public;
        }

    pub queued_blocks : Blocks (graph_of s) k.process h.process (word_of (label_against s k.process h.process)) (graph_of (block (queued s k r) k.process h.process))
    queued_blocks = record {
      was_active = no_holder s k.process active;
      within = (within, live_within s h laws.lawful.well_formed.sizes (laws.lawful.well_formed.owners r h owned));
      apart = λ e. apart (sym e);
      above = above;
      fresh = made_labels_are_fresh word_process (graph_of s) k.process (word_of (label_against s k.process h.process))
          (graph_makers s laws) (graph_lawful s laws).ordered named above within;
      processes = refl;
      waits = holder_is (block (queued s k r) k.process h.process) k.process r h (queued_wait active) owned;
      private_now = ap word_of labels.private;
      public_now = ap word_of labels.public;
      others = others_same;
    }

    queued_formed : WellFormed (block (queued s k r) k.process h.process)
    queued_formed = record {
      config = laws.lawful.well_formed.config;
      sizes = same_lengths s _ laws.lawful.well_formed.sizes refl refl refl (length-set s.private k.process (label_against s k.process h.process)) (length-set s.public k.process (label_against s k.process h.process)) refl refl;
      owners = laws.lawful.well_formed.owners;
      waits = all_from _ (s.waits ++ record { key = k; resource = r } ∷ []) (λ w among. elim (among_append s.waits (record { key = k; resource = r } ∷ []) w among) [
        | inl before ↦ all_at (λ w. IsTrue (is_live s w.key) × IsHeld s w) s.waits w laws.lawful.well_formed.waits before
        | inr last ↦ elim last [
          | inl e ↦ rw e (live, rw owned apart)
          | inr never ↦ absurd never
        ]
      ]);
      waits_once = no_repeat_push (λ (w : Wait). w.key.process) s.waits (record { key = k; resource = r }) laws.lawful.well_formed.waits_once
          (λ w among. waits_of_others s k.process active w among);
      verdicts = λ n verdict. elim (cases_eq n k.process) [
        | inl e ↦ rw e (rw (queued_wait active) refl)
        | inr other ↦ ap is_some (queued_wait_else n other) ∙ laws.lawful.well_formed.verdicts n verdict
      ];
      free = laws.lawful.well_formed.free;
      free_once = laws.lawful.well_formed.free_once;
    }

    relabels : (n : ℕ) → Relabels s (block (queued s k r) k.process h.process) n
    relabels n = elim (block_relabels (queued s k r) k.process h.process private_in public_in fits n) [
      | inl same ↦ inl (record { private = same.private; public = same.public })
      | inr now ↦ inr (now.0, record { private = now.1.private; public = now.1.public; own = now.1.own; above = now.1.above; limit = now.1.limit })
    ]

    queued_keeps : KeepsLaws s (block (queued s k r) k.process h.process)
    queued_keeps = record {
      laws = laws_by (block (queued s k r) k.process h.process) queued_formed
          (relabelled_private s (block (queued s k r) k.process h.process) laws relabels)
          (relabelled_bounds s (block (queued s k r) k.process h.process) laws relabels refl)
          (block_keeps_laws (graph_of s) (graph_of (block (queued s k r) k.process h.process)) k.process h.process (word_of (label_against s k.process h.process)) queued_blocks (graph_lawful s laws))
          laws.lawful.counted
          (λ v verdict.
          let was : (i : ℕ) × LabelReturned (graph_of s) v i = ((laws.convicted v verdict).0, (laws.convicted v verdict).1) in (
            was.0,
            block_keeps_returned (graph_of s) (graph_of (block (queued s k r) k.process h.process)) k.process h.process
                (word_of (label_against s k.process h.process)) v was.0 queued_blocks (graph_lawful s laws) was.1,
          ));
      rise = relabelled_rise s (block (queued s k r) k.process h.process) laws relabels;
    }

acquire_change_keeps : (s : TableState) (k : Key) (r : ℕ) → Laws s → (o : Option Key) → owner_of s r ≡ o
    → IsTrue (is_live s k) → wait_of s k.process ≡ None → option_map_or (λ (h : Key). nat_eq h.process k.process) o false ≡ false
    → option_map_or (λ (h : Key). not (block_fits s k.process h.process)) o false ≡ false → KeepsLaws s (acquire_change s k r o)
acquire_change_keeps s k r laws None owned live active not_own fits =
    let none : (w : Wait) → Among w s.waits → w.resource ≢ r = λ w among e.
    let other : (h : Key) × (owner_of s w.resource ≡ Some h) × (h.process ≢ w.key.process) = held s laws.lawful.well_formed w among in
    let never : None ≡ Some other.0 = sym owned ∙ ap (owner_of s) (sym e) ∙ other.1 in
    absurd (cc) in
    unwaited_keeps s r (Some k) (λ n waits. let here : WaitsHere s n r = waits_here s n r waits in none here.wait here.among here.resource) none
    (λ h e. let same : k ≡ h = cc in rw (← same) live) laws
acquire_change_keeps s k r laws (Some h) owned live active not_own fits =
    queued_keeps s k r h laws live active owned (eqb-false h.process k.process not_own) (not-false (block_fits s k.process h.process) fits)

pub acquire_keeps : (s : TableState) (k : Key) (r : ℕ) → Laws s → KeepsLaws s (acquired s k r).state
acquire_keeps s k r laws = outcome_keeps_laws s (acquire_answer s k (owner_of s r)) (acquire_change s k r (owner_of s r)) (acquire_tests s k r) laws (λ passed.
    acquire_change_keeps s k r laws (owner_of s r) refl (not-false (is_live s k) passed.1.0) (none_of_is_some (wait_of s k.process) passed.1.1.1.0)
    passed.1.1.1.1.0 passed.1.1.1.1.1.0)
