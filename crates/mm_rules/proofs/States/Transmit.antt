-- Transmit keeps the laws: where the holder shows a greater label it is a raise of the graph, and else nothing changes.
use Rattle.std.proofs.Common.{◌≡◌, ◌≢◌, ◌⊎◌, ℕ, ◌<◌, slice_set, true, Option, Some, None, option_and_then, if◌then◌else◌, IsTrue, inl, inr, refl, ap, arith, length-set, get_or-set_same, get_or-set_other}
use Rattle.std.specs.Option.{option_map_or}
use Rattle.std.proofs.lemmas.Bool.{cases_eq, cases_Bool}
use Rattle.mm_label.specs.Label.{Label, label_le, label_lt, opening_label, word_of}
use Rattle.mm_arena.specs.declared.key.Key.{Key}
use Rattle.mm_rules.specs.declared.reply.Transmitted.TheVariants.{Raised, Still}
use Rattle.mm_rules.specs.Graph.{WaitsFor}
use Rattle.mm_rules.specs.TableState.{TableState, holder_of, private_of, public_of, graph_of}
use Rattle.mm_rules.specs.Change.{greater_label, transmit}
use Rattle.mm_rules.specs.Event.{transmitted, waiting_tests}
use Rattle.mm_rules.specs.Laws.{PrivateLabels, LabelBounds, Laws}
use Rattle.mm_rules.proofs.States.IsSized.{same_lengths}
use Rattle.mm_rules.proofs.Graph.Change.{Raises}
use Rattle.mm_rules.proofs.Graph.Raise.{raise_keeps_laws}
use Rattle.mm_rules.proofs.Graph.LabelReturned.{raise_keeps_returned}
use Rattle.mm_rules.proofs.Graph.Settle.{IsStill}
use Rattle.mm_rules.proofs.Graph.Walks.{active_waits_not, one_holder}
use Rattle.mm_rules.proofs.States.LabelOrder.{lt_words, lt_false_words, label_le_same, label_le_then, label_le_lt}
use Rattle.mm_rules.proofs.States.Lookups.{holder_within}
use Rattle.mm_rules.proofs.States.Laws.{graph_lawful, laws_by, public_within}
use Rattle.mm_rules.proofs.States.Outcome.{KeepsLaws, keeps_same, outcome_keeps_laws}

-- n shows l
abbrev pub shown : TableState → ℕ → Label → TableState
shown s n l = record s { public = slice_set s.public n l }

-- h, for which n waits, shows a greater label than n
pub record HolderIsAbove (s : TableState) (n h : ℕ) : Type 0 where
  pub waits : WaitsFor (graph_of s) n h
  pub lower : label_lt (public_of s n) (public_of s h) ≡ true
  pub greater : greater_label s n ≡ Some (public_of s h)

abbrev TransmitCases : TableState → ℕ → Type 0
TransmitCases s n = ((greater_label s n ≡ None) × IsStill (graph_of s) n) ⊎ ((h : ℕ) × HolderIsAbove s n h)

-- what the greater label is, by the holder
abbrev greater_of : TableState → ℕ → Option ℕ → Option Label
greater_of s n o = option_and_then (λ h. if label_lt (public_of s n) (public_of s h) then Some (public_of s h) else None) o

module _ (s : TableState) (laws : Laws s) (n : ℕ) where
  cases_by_holder : (o : Option ℕ) → holder_of s n ≡ o → greater_label s n ≡ greater_of s n o → TransmitCases s n
  cases_by_holder None active e = inl (e, λ h waits. absurd (active_waits_not (graph_of s) n active (h, waits)))
  cases_by_holder (Some h) waits e = elim (cases_Bool (label_lt (public_of s n) (public_of s h))) [
    | inl lower ↦ inr (h, record { waits = waits; lower = lower; greater = rw lower at e })
    | inr above ↦ inl (
      rw above at e,
      λ j other.
          let same : j ≡ h = one_holder (graph_of s) n j h other waits in
          rw same (lt_false_words (public_of s n) (public_of s h) above (public_within s laws h (holder_within s laws.lawful.well_formed n h waits).1)),
    )
  ]

  pub transmit_cases : TransmitCases s n
  transmit_cases = cases_by_holder (holder_of s n) refl (ap (greater_of s n) refl)

  module _ (h : ℕ) (above : HolderIsAbove s n h) where
    both_in : (n < s.config.processes) × (h < s.config.processes)
    both_in = holder_within s laws.lawful.well_formed n h above.waits

    now : public_of (shown s n (public_of s h)) n ≡ public_of s h
    now = get_or-set_same s.public n (public_of s h) (opening_label n) (omega (arith, both_in, laws.lawful.well_formed.sizes.public))

    others : (k : ℕ) → k ≢ n → public_of (shown s n (public_of s h)) k ≡ public_of s k
    others k apart = get_or-set_other s.public n k (public_of s h) (opening_label k) apart

    -- each process shows what some process showed, and no less than before
    shows : (k : ℕ) → ((k ≡ n) × (public_of (shown s n (public_of s h)) k ≡ public_of s h)) ⊎ (public_of (shown s n (public_of s h)) k ≡ public_of s k)
    shows k = elim (cases_eq k n) [ inl e ↦ inl (e, rw e now) | inr apart ↦ inr (others k apart) ]

    pub shown_raises : Raises (graph_of s) n h (graph_of (shown s n (public_of s h)))
    shown_raises = record {
      waits = above.waits;
      below = lt_words (public_of s n) (public_of s h) above.lower (public_within s laws n both_in.0);
      processes = refl;
      public_now = ap word_of now;
      holders = λ k. refl;
      privates = λ k. refl;
      publics = λ k apart. ap word_of (others k apart);
    }

    shown_rises : (k : ℕ) → IsTrue (label_le (public_of s k) (public_of (shown s n (public_of s h)) k))
    shown_rises k = elim (shows k) [
      | inl raised ↦ rw raised.1 (rw raised.0 (label_le_lt (public_of s n) (public_of s h) above.lower))
      | inr same ↦ rw same (label_le_same (public_of s k))
    ]

    shown_private : PrivateLabels (shown s n (public_of s h))
    shown_private = record {
      own = laws.lawful.private_labels.own;
      at_most_public = λ k. label_le_then (private_of s k) (public_of s k) (public_of (shown s n (public_of s h)) k)
          (laws.lawful.private_labels.at_most_public k) (shown_rises k);
    }

    shown_bounds : LabelBounds (shown s n (public_of s h))
    shown_bounds = record {
      made = λ k k_in. elim (shows k) [
        | inl raised ↦ rw raised.1 (laws.lawful.label_bounds.made h both_in.1)
        | inr same ↦ rw same (laws.lawful.label_bounds.made k k_in)
      ];
      newest = λ i k e. elim (shows k) [
        | inl raised ↦ rw raised.1 (laws.lawful.label_bounds.newest i h (rw raised.1 at e))
        | inr same ↦ rw same (laws.lawful.label_bounds.newest i k (rw same at e))
      ];
      limit = λ k. elim (shows k) [
        | inl raised ↦ rw raised.1 (laws.lawful.label_bounds.limit h)
        | inr same ↦ rw same (laws.lawful.label_bounds.limit k)
      ];
    }

    shown_keeps : KeepsLaws s (shown s n (public_of s h))
    shown_keeps = record {
      laws = laws_by (shown s n (public_of s h))
          (record {
            config = laws.lawful.well_formed.config;
            sizes = same_lengths s _ laws.lawful.well_formed.sizes refl refl refl refl (length-set s.public n (public_of s h)) refl refl;
            owners = laws.lawful.well_formed.owners;
            waits = laws.lawful.well_formed.waits;
            waits_once = laws.lawful.well_formed.waits_once;
            verdicts = laws.lawful.well_formed.verdicts;
            free = laws.lawful.well_formed.free;
            free_once = laws.lawful.well_formed.free_once;
          })
          shown_private shown_bounds
          (raise_keeps_laws (graph_of s) (graph_of (shown s n (public_of s h))) n h shown_raises (graph_lawful s laws))
          laws.lawful.counted
          (λ v verdict. (
            (laws.convicted v verdict).0,
            raise_keeps_returned (graph_of s) (graph_of (shown s n (public_of s h))) n h v (laws.convicted v verdict).0 shown_raises (graph_lawful s laws) (laws.convicted v verdict).1,
          ));
      rise = shown_rises;
    }

  -- the state after, in each case
  pub transmit_still : greater_label s n ≡ None → transmit s n ≡ s
  transmit_still none = ap (λ o. option_map_or (shown s n) o s) none

  pub transmit_shown : (h : ℕ) → HolderIsAbove s n h → transmit s n ≡ shown s n (public_of s h)
  transmit_shown h above = ap (λ o. option_map_or (shown s n) o s) above.greater

  pub transmit_keeps : KeepsLaws s (transmit s n)
  transmit_keeps = elim transmit_cases [
    | inl still ↦ rw (transmit_still still.0) (keeps_same s laws)
    | inr raised ↦ rw (transmit_shown raised.0 raised.1) (shown_keeps raised.0 raised.1)
  ]

pub transmitted_keeps : (s : TableState) (k : Key) → Laws s → KeepsLaws s (transmitted s k).state
transmitted_keeps s k laws = outcome_keeps_laws s (option_map_or Raised (greater_label s k.process) Still) (transmit s k.process) (waiting_tests s k) laws
    (λ passed. transmit_keeps s laws k.process)
