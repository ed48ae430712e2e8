-- No call takes labels but a request that meets another owner, which `requested_labels` counts.
use Rattle.std.proofs.Common.{◌≡◌, ◌⊎◌, ◌*◌, ℕ, Some, List, Result, Ok, Err, IfOk, OnOk, OnErr, inl, inr, sym, subst}
use Rattle.mm_arena.specs.declared.key.Key.{Key}
use Rattle.mm_names.specs.Names.{NameTable, name_of}
use Rattle.mm_rules.specs.TableState.{TableState, owner_of}
use Rattle.mm_rules.specs.Event.{Begin, Step}
use Rattle.mm_rules.specs.Laws.{Laws}
use Rattle.mm_settled.specs.Calls.{MadeWithdrawal}
use Rattle.mm_manager.specs.Calls.{AdoptsNumber, Tries}
use Rattle.mm_manager.specs.Permit.{requests_met}
use Rattle.mm_manager.specs.Totals.{after_begin, after_commit, after_abort, after_cancel}
use Rattle.mm_manager.specs.declared.named.NamedTable.{NamedTable}
use Rattle.mm_manager.specs.declared.refusal.Refusal.{Refusal}
use Rattle.mm_manager.specs.declared.reply.TryLock.{TryLock}
use Rattle.mm_manager.specs.declared.reply.TryLock.TheVariants as tried
use Rattle.mm_manager.specs.declared.totals.Totals.{Totals}
use Rattle.mm_manager.specs.private.Handed.{HandsOver, HandsAllOver, EndsWaiting, IsUntouched}
use Rattle.mm_manager.specs.private.Room.{LabelsAreCounted}
use Rattle.mm_manager.proofs.Lemmas.Room.{begin_labels, finish_labels, granted_labels, release_labels, withdraw_labels}

same_labels : (t : Totals) (s u : TableState) → u ≡ s → LabelsAreCounted s t → LabelsAreCounted u t
same_labels t s u same labels = subst (λ (v : TableState). LabelsAreCounted v t) (sym same) labels

pub begun_labels : (t : Totals) (s u : TableState) (answer : Result Key Refusal) → LabelsAreCounted s t → IfOk answer (λ key. Step Begin s (Ok key) u) → OnErr answer (u ≡ s)
    → LabelsAreCounted u (after_begin t answer)
begun_labels t s u (Ok key) labels step same = begin_labels s u key step (2 * requests_met t) labels
begun_labels t s u (Err e) labels step same = same_labels t s u same labels

pub try_labels : (t : Totals) (s u : TableState) (names named : NameTable) (k : Key) (name : List ℕ) (reply : Result TryLock Refusal) → LabelsAreCounted s t
    → IfOk reply (λ answer. Tries s names k name answer u named) → OnErr reply (u ≡ s) → LabelsAreCounted u t
try_labels t s u names named k name (Ok tried.Granted) labels asks same = granted_labels s u k asks.0 asks.2 (2 * requests_met t) labels
try_labels t s u names named k name (Ok tried.Held) labels asks same = same_labels t s u asks.1 labels
try_labels t s u names named k name (Ok (tried.Busy h)) labels asks same = same_labels t s u asks.1.1 labels
try_labels t s u names named k name (Err e) labels asks same = same_labels t s u same labels

pub adoption_labels : (t : Totals) (s u : TableState) (names named : NameTable) (k : Key) (name : List ℕ) (reply : Result TryLock Refusal) → LabelsAreCounted s t
    → IfOk reply (λ answer. AdoptsNumber s names k name answer u named) → OnErr reply (u ≡ s) → LabelsAreCounted u t
adoption_labels t s u names named k name (Ok tried.Granted) labels adopts same = subst (λ (v : TableState). LabelsAreCounted v t) (sym adopts.2.state) labels
adoption_labels t s u names named k name (Ok tried.Held) labels found same = same_labels t s u found.1 labels
adoption_labels t s u names named k name (Ok (tried.Busy h)) labels found same = same_labels t s u found.1.1 labels
adoption_labels t s u names named k name (Err e) labels adopts same = same_labels t s u same labels

module _ (t : Totals) (old new : NamedTable) (k : Key) where
  module _ (laws : Laws old.table.table) (labels : LabelsAreCounted old.table.table t) where
    pub unlock_labels : (name : List ℕ) (done : Result (Unit {0}) Refusal)
        → OnOk done ((n : ℕ) × (name_of old.names n ≡ Some name) × (owner_of old.table.table n ≡ Some k) × HandsOver k n old new) → OnErr done (IsUntouched old new) → LabelsAreCounted new.table.table t
    unlock_labels name (Ok x) (n, is, owned, (answer, made, follows)) same = release_labels old.table.table new.table.table k n answer laws owned made (2 * requests_met t) labels
    unlock_labels name (Err e) handed same = same_labels t old.table.table new.table.table same.table labels

    pub commit_labels : (done : Result (Unit {0}) Refusal) → OnOk done (HandsAllOver k old new) → OnErr done (IsUntouched old new) → LabelsAreCounted new.table.table (after_commit t done)
    commit_labels (Ok x) (made, follows) same = finish_labels old.table.table new.table.table k laws made (2 * requests_met t) labels
    commit_labels (Err e) handed same = same_labels t old.table.table new.table.table same.table labels

    pub abort_labels : (done : Result (Unit {0}) Refusal) → OnOk done (HandsAllOver k old new ⊎ EndsWaiting k old new) → OnErr done (IsUntouched old new) → LabelsAreCounted new.table.table (after_abort t done)
    abort_labels (Ok x) (inl (made, follows)) same = finish_labels old.table.table new.table.table k laws made (2 * requests_met t) labels
    abort_labels (Ok x) (inr ends) same =
        finish_labels ends.mid.table.table new.table.table k ends.laws ends.over.0 (2 * requests_met t) (withdraw_labels old.table.table ends.mid.table.table k ends.made (2 * requests_met t) labels)
    abort_labels (Err e) handed same = same_labels t old.table.table new.table.table same.table labels

  pub cancel_labels : LabelsAreCounted old.table.table t → (done : Result (Unit {0}) Refusal) → OnOk done (MadeWithdrawal k old.table.table new.table.table) → OnErr done (new.table.table ≡ old.table.table)
      → LabelsAreCounted new.table.table (after_cancel t done)
  cancel_labels labels (Ok x) made same = withdraw_labels old.table.table new.table.table k made (2 * requests_met t) labels
  cancel_labels labels (Err e) made same = same_labels t old.table.table new.table.table same labels
