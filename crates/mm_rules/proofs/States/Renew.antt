-- A process that waits and shows its own label gets a new one: all laws stay, and no cycle is closed.
use Rattle.std.proofs.Common.{◌≡◌, ◌≢◌, ℕ, ◌<◌, length, true, false, IsTrue, IsFalse, refl, sym, ap, ◌∙◌, arith, length-set}
use Rattle.std.specs.Option.{option_map_or}
use Rattle.mm_label.specs.Label.{word_of}
use Rattle.mm_rules.specs.Graph.{WaitsFor, IsWaiting}
use Rattle.mm_rules.specs.TableState.{TableState, has_verdict, private_of, public_of, graph_of}
use Rattle.mm_rules.specs.Change.{label_against, block, block_fits}
use Rattle.mm_rules.specs.Withdraw.{renew, renew_fits, RenewKeepsLaws}
use Rattle.mm_rules.specs.Laws.{Laws, WellFormed}
use Rattle.mm_rules.proofs.Graph.Renew.{Renews, renew_keeps_laws, renew_keeps_returned}
use Rattle.mm_rules.proofs.States.IsSized.{same_lengths}
use Rattle.mm_rules.proofs.States.LabelOrder.{word_process, word_process_is, fresh_above}
use Rattle.mm_rules.proofs.States.Lookups.{holder_within, waiting_has_holder}
use Rattle.mm_rules.proofs.States.Laws.{graph_lawful, graph_makers, laws_by, public_within}
use Rattle.mm_rules.proofs.States.Outcome.{KeepsLaws}
use Rattle.mm_rules.proofs.States.Relabels.{Relabels, GetsLabel, KeepsLabels, blocked_labels, other_labels, block_relabels, relabelled_private, relabelled_bounds, relabelled_rise}
use Rattle.mm_rules.proofs.States.ClosesNone.{ClosesNone, same_holders_close_none}

module _ (s : TableState) (m h : ℕ) (laws : Laws s) (waits : WaitsFor (graph_of s) m h) (own : private_of s m ≡ public_of s m) (fits : IsTrue (block_fits s m h)) where
  within : m < s.config.processes
  within = (holder_within s laws.lawful.well_formed m h waits).0

  private_in : m < length s.private
  private_in = omega (arith, within, laws.lawful.well_formed.sizes.private)

  public_in : m < length s.public
  public_in = omega (arith, within, laws.lawful.well_formed.sizes.public)

  labels : GetsLabel s (block s m h) m (label_against s m h)
  labels = blocked_labels s m h private_in public_in fits

  pub block_renews : Renews word_process (graph_of s) m h (word_of (label_against s m h)) (graph_of (block s m h))
  block_renews = record {
    waits = waits;
    own = ap word_of (sym own);
    above = fresh_above (public_of s m) (public_of s h) m (public_within s laws m within);
    named = word_process_is (label_against s m h) (omega (arith, within, laws.lawful.well_formed.config.processes));
    now = record {
      processes = refl;
      holder = waits;
      private = ap word_of labels.private;
      public = ap word_of labels.public;
      others = λ k apart.
          let same : KeepsLabels s (block s m h) k = other_labels s m h k apart in
          record { holder = refl; private = ap word_of same.private; public = ap word_of same.public };
    };
  }

  renewed_formed : WellFormed (block s m h)
  renewed_formed = record {
    config = laws.lawful.well_formed.config;
    sizes = same_lengths s _ laws.lawful.well_formed.sizes refl refl refl (length-set s.private m (label_against s m h)) (length-set s.public m (label_against s m h)) refl refl;
    owners = laws.lawful.well_formed.owners;
    waits = laws.lawful.well_formed.waits;
    waits_once = laws.lawful.well_formed.waits_once;
    verdicts = laws.lawful.well_formed.verdicts;
    free = laws.lawful.well_formed.free;
    free_once = laws.lawful.well_formed.free_once;
  }

  relabels : (k : ℕ) → Relabels s (block s m h) k
  relabels = block_relabels s m h private_in public_in fits

  pub block_renewed_keeps : IsFalse (has_verdict s m) → KeepsLaws s (block s m h)
  block_renewed_keeps none = record {
    laws = laws_by (block s m h) renewed_formed (relabelled_private s (block s m h) laws relabels) (relabelled_bounds s (block s m h) laws relabels refl)
        (renew_keeps_laws word_process (graph_of s) (graph_of (block s m h)) m h (word_of (label_against s m h)) block_renews (graph_lawful s laws) (graph_makers s laws))
        laws.lawful.counted
        (λ v verdict.
        let apart : v ≢ m = λ e. (let never : true ≡ false = sym verdict ∙ ap (has_verdict s) e ∙ none in absurd (cc)) in (
          (laws.convicted v verdict).0,
          renew_keeps_returned word_process (graph_of s) (graph_of (block s m h)) m h (word_of (label_against s m h)) block_renews (graph_lawful s laws) (graph_makers s laws)
              v (laws.convicted v verdict).0 apart (laws.convicted v verdict).1,
        ));
    rise = relabelled_rise s (block s m h) laws relabels;
  }

-- where m waits for h, its renewal is a block on h
pub renew_is : (s : TableState) (m h : ℕ) → WaitsFor (graph_of s) m h → renew s m ≡ block s m h
renew_is s m h waits = ap (λ o. option_map_or (λ h. block s m h) o s) waits

pub renew_fits_is : (s : TableState) (m h : ℕ) → WaitsFor (graph_of s) m h → renew_fits s m ≡ block_fits s m h
renew_fits_is s m h waits = ap (λ o. option_map_or (λ h. block_fits s m h) o true) waits

pub renewed_closes_none : (s : TableState) (m h : ℕ) → ClosesNone s (block s m h)
renewed_closes_none s m h = same_holders_close_none s (block s m h) (λ n. refl) (λ v was. was)

pub renew_keeps : RenewKeepsLaws
renew_keeps s m laws waiting own none fits =
    let waits : IsWaiting (graph_of s) m = waiting_has_holder s laws.lawful.well_formed m waiting in
    let fit : IsTrue (block_fits s m waits.0) = sym (renew_fits_is s m waits.0 waits.1) ∙ fits in
    rw (renew_is s m waits.0 waits.1) (block_renewed_keeps s m waits.0 laws waits.1 own fit none).laws
