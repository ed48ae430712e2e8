-- Calls of a session one after another.
use Rattle.std.proofs.Common.{◌≡◌, ◌⊎◌, ℕ, ◌+◌, List, [], ◌∷◌, ◌++◌, Option, Some, None, Result, Ok, Err, replicate, refl, sym, ap, ◌∙◌, subst, inl, inr}
use Rattle.std.specs.Prelude.{IfNone}
use Rattle.std.specs.Result.{IsErrAnd}
use Rattle.mm_thin.specs.Calls.{GivesBack}
use Rattle.mm_thin.specs.Parts.{WorkerState}
use Rattle.mm_thin.specs.declared.reply.GiveUp.{GiveUp}
use Rattle.mm_thin.specs.declared.reply.GiveUp.TheVariants.{Done}
use Rattle.mm_thin.specs.declared.reply.GiveUp.TheVariants as given
use Rattle.std.proofs.lemmas.List.{replicate-append-replicate}
use Rattle.mm_desk.specs.Desk.{DeskState}
use Rattle.mm_tied.specs.declared.views.View.{View}
use Rattle.mm_tied.specs.History.{Extends, Goes, IsSound}
use Rattle.mm_tied.specs.Mutex.{opened}
use Rattle.mm_tied.proofs.Runs.{goes_on, goes_both, rests}
use Rattle.mm_locks.specs.declared.error.LockError.{LockError}
use Rattle.mm_locks.specs.Granted.{IsSettled}
use Rattle.mm_locks.specs.History.{Makes}
use Rattle.mm_locks.specs.declared.hall.Outcome.{Outcome}
use Rattle.mm_locks.specs.declared.hall.Outcome.TheVariants as outcome
use Rattle.mm_locks.specs.Calls.{done_of}
use Rattle.mm_locks.specs.declared.history.Found.TheVariants as found
use Rattle.mm_locks.specs.declared.history.Event.TheVariants as event
use Rattle.mm_locks.specs.declared.tokens.Granted.{Granted}
use Rattle.mm_locks.specs.declared.history.Event.{Event}
use Rattle.mm_locks.specs.declared.session.Session.{Session}
use Rattle.mm_locks.specs.Told.{unlocked, IsSame, Tells, TellsAll, TellsNothing, TellsThen, AsksUntil, TriesUntil, LooksUntil, WaitsUntil, BeginsSo, TriesSo, LocksSo, LocksForSo, times_then, owning, owning_or_not}

module _ {R : Type 0} where
  -- so far it was this event each time
  abbrev pub TellsOnly : Session R → Event → Session R → Type 0
  TellsOnly old each new = (n : ℕ) × TellsAll old (replicate n each) new

  pub none_yet : (old : Session R) (each : Event) → IsSound Makes ((opened old.locks.now.hall).desk) old.pass.id old.pass.me.0 → TellsOnly old each old
  none_yet old each sound = (0, rests Makes ((opened old.locks.now.hall).desk) old.pass.id old.pass.me.0 sound)

  pub none_by_now : (old new : Session R) (each : Event) → IsSound Makes ((opened old.locks.now.hall).desk) old.pass.id old.pass.me.0 → TellsNothing old new → TellsOnly old each new
  none_by_now old new each sound same = subst (λ (v : View DeskState Event). (n : ℕ) × Goes Makes ((opened old.locks.now.hall).desk) old.pass.id old.pass.me.0 (replicate n each) v) (sym same) (none_yet old each sound)

  -- some more calls
  pub both : (old mid new : Session R) (es fs : List Event) → IsSame old mid → TellsAll old es mid → TellsAll mid fs new → TellsAll old (es ++ fs) new
  both old mid new es fs same run more =
      let first = (opened old.locks.now.hall).desk in
      let here = subst (λ (x : DeskState × ℕ). Goes Makes x.0 x.1 mid.pass.me.0 fs new.pass.me.0) (λ i. ((opened (same.1 i).now.hall).desk, same.2 i)) more in
      goes_both Makes first old.pass.id old.pass.me.0 mid.pass.me.0 new.pass.me.0 es fs run here

  -- one call is a run of calls
  pub one : (old : Session R) (e : Event) (new : Session R) → Tells old e new → TellsAll old (e ∷ []) new
  one old e new told = goes_on Makes ((opened old.locks.now.hall).desk) old.pass.id old.pass.me.0 (e ∷ []) new.pass.me.0 told

  module _ {X : Type 0} (each : ℕ → X → Event) (again : X) (old mid new : Session R) (same : IsSame old mid) (so_far : TellsOnly old (each old.worker.at again) mid) where
    -- it is once more
    pub once_more : (answer : X) → Tells mid (each mid.worker.at answer) new → answer ≡ again → TellsOnly old (each old.worker.at again) new
    once_more answer told is =
        let n = so_far.0 in
        let e = each old.worker.at again in
        let here = subst (λ (x : Event). Tells mid x new) (λ i. each (same.0 i) (is i)) told in (
          n + 1,
          subst (λ (es : List Event). TellsAll old es new) (replicate-append-replicate n 1 e) (both old mid new (replicate n e) (e ∷ []) same so_far.1 (one mid e new here)),
        )

    -- and then this
    pub at_last : {Y : Type 0} (then : ℕ → Y → Event) (found last : Y) → Tells mid (then mid.worker.at found) new → found ≡ last → TellsThen old (each old.worker.at again) (then old.worker.at last) new
    at_last then found last told is =
        let n = so_far.0 in
        let e = then old.worker.at last in
        let here = subst (λ (x : Event). Tells mid x new) (λ i. then (same.0 i) (is i)) told in
        (n, both old mid new (replicate n (each old.worker.at again)) (e ∷ []) same so_far.1 (one mid e new here))

-- an error that is handed on
pub is_error : {X : Type 0} (r : Result X LockError) (e : LockError) → IsErrAnd r (λ x. x ≡ e) → r ≡ Err e
is_error (Ok x) e h = absurd h
is_error (Err x) e h = ap Err h

module _ {R : Type 0} (old mid new : Session R) (same : IsSame old mid) where
  -- what is told after nothing was
  pub rebased : TellsNothing old mid → (events : ℕ → List Event) → TellsAll mid (events mid.worker.at) new → TellsAll old (events old.worker.at) new
  rebased nothing events run = subst (λ (x : ℕ × DeskState × ℕ × View DeskState Event). Goes Makes x.1 x.2 x.3 (events x.0) new.pass.me.0) (λ i. (same.0 i, (opened (same.1 i).now.hall).desk, same.2 i, nothing i)) run

  -- it was to wait, and then
  pub waits : (name : List ℕ) (last : ℕ → Event) → AsksUntil old name (Ok found.Waits) mid → LooksUntil mid name (last mid.worker.at) new → WaitsUntil old name (last old.worker.at) new
  waits name last asks looks =
      let n = asks.0 in
      let k = looks.0 in
      let es = times_then n (event.Asked old.worker.at name (Ok found.Again)) (event.Asked old.worker.at name (Ok found.Waits)) in
      let fs = times_then k (event.Looked old.worker.at name (Ok found.Waits)) (last old.worker.at) in
      let here = subst (λ (at : ℕ). TellsAll mid (times_then k (event.Looked at name (Ok found.Waits)) (last at)) new) same.0 looks.1 in
      (n, k, both old mid new es fs same asks.1 here)

module _ {R : Type 0} (old mid : Session R) (name : List ℕ) (result : Result (Option Granted) LockError) (begins : BeginsSo old name result mid) where
  -- the beginning of a `lock` that waits
  pub begun_none : result ≡ Ok None → AsksUntil old name (Ok found.Waits) mid
  begun_none is = elim (subst (λ (r : Result (Option Granted) LockError). BeginsSo old name r mid) is begins) [ inl alone ↦ (let never = alone.1 in absurd (cc)) | inr asks ↦ asks ]

  -- and one that does not
  pub begun_some : (granted : Granted) → result ≡ Ok (Some granted) → LocksSo old name (Ok granted) mid
  begun_some granted is = elim (subst (λ (r : Result (Option Granted) LockError). BeginsSo old name r mid) is begins) [ inl alone ↦ inl (granted, refl, alone.2) | inr asks ↦ inr (inl asks) ]

  pub begun_err : (error : LockError) (answer : Result Granted LockError) → result ≡ Err error → answer ≡ Err error → LocksSo old name answer mid
  begun_err error answer is answers = subst (λ (r : Result Granted LockError). LocksSo old name r mid) (sym answers)
      (elim (subst (λ (r : Result (Option Granted) LockError). BeginsSo old name r mid) is begins) [ inl alone ↦ (let never = alone.1 in absurd (cc)) | inr asks ↦ inr (inl asks) ])

module _ {R : Type 0} (old mid new : Session R) (name : List ℕ) (same : IsSame old mid) (nothing : TellsNothing old mid) where
  pub tries_after : (result : Result (Option Granted) LockError) → TriesUntil mid name (owning_or_not result) new → TriesSo old name result new
  tries_after result told =
      inr (told.0, rebased old mid new same nothing (λ at. times_then told.0 (event.Tried at name (Ok found.Again)) (event.Tried at name (owning_or_not result))) told.1)

  pub commits_after : (result : Result (Unit {0}) LockError) → TellsThen mid (event.Ended mid.worker.at None) (event.Ended mid.worker.at (Some result)) new → TellsThen old (event.Ended old.worker.at None) (event.Ended old.worker.at (Some result)) new
  commits_after result told = (told.0, rebased old mid new same nothing (λ at. times_then told.0 (event.Ended at None) (event.Ended at (Some result))) told.1)

  pub locks_after : (result : Result Granted LockError) → LocksSo mid name result new → LocksSo old name result new
  locks_after result (inl alone) = inl (alone.0, alone.1, (alone.2.0, alone.2.1 ∙ nothing))
  locks_after result (inr (inl asks)) =
      inr (inl (asks.0, rebased old mid new same nothing (λ at. times_then asks.0 (event.Asked at name (Ok found.Again)) (event.Asked at name (owning result))) asks.1))
  locks_after result (inr (inr w)) =
      inr (inr (
        w.0,
        w.1,
        rebased old mid new same nothing
            (λ at. times_then w.0 (event.Asked at name (Ok found.Again)) (event.Asked at name (Ok found.Waits)) ++ times_then w.1 (event.Looked at name (Ok found.Waits)) (event.Looked at name (owning result))) w.2,
      ))

  pub locks_for_after : (result : Result Granted LockError) → LocksForSo mid name result new → LocksForSo old name result new
  locks_for_after result (inl locks) = inl (locks_after result locks)
  locks_for_after result (inr w) =
      inr (
        w.0,
        w.1,
        rebased old mid new same nothing
            (λ at. times_then w.0 (event.Asked at name (Ok found.Again)) (event.Asked at name (Ok found.Waits)) ++ times_then w.1 (event.Looked at name (Ok found.Waits)) (event.TookBack at name (done_of result))) w.2,
      )

-- one that is looked at again waits
pub waits_on : (found : Outcome) → IsSettled found → (found ≡ outcome.Waits) ⊎ (found ≡ outcome.Again) → found ≡ outcome.Waits
waits_on found settled (inl waits) = waits
waits_on found settled (inr again) = absurd (subst (λ (o : Outcome). IsSettled o) again settled)

module _ {R : Type 0} (old : Session R) (name : List ℕ) where
  -- `UnlocksSo` by what is left
  abbrev pub UnlocksBy : Result (Unit {0}) LockError → WorkerState → View DeskState Event → Type 0
  UnlocksBy result worker view =
      ((result ≡ Ok tt) × GivesBack old.worker name Done worker × Goes Makes ((opened old.locks.now.hall).desk) old.pass.id old.pass.me.0 [] view)
      ⊎ Goes Makes ((opened old.locks.now.hall).desk) old.pass.id old.pass.me.0 (event.Unlocked old.worker.at name result ∷ []) view

  module _ (at : ℕ) (answer : Option (Result (Unit {0}) LockError)) (worker : WorkerState) (view : View DeskState Event) (here : at ≡ old.worker.at) (told : Extends Makes ((opened old.locks.now.hall).desk) old.pass.id old.pass.me.0 (unlocked at name answer) view) where
    goes : (a : Option (Result (Unit {0}) LockError)) → answer ≡ a → Goes Makes ((opened old.locks.now.hall).desk) old.pass.id old.pass.me.0 (unlocked old.worker.at name a) view
    goes a is = goes_on Makes ((opened old.locks.now.hall).desk) old.pass.id old.pass.me.0 (unlocked old.worker.at name a) view
        (subst (λ (es : List Event). Extends Makes ((opened old.locks.now.hall).desk) old.pass.id old.pass.me.0 es view) (λ i. unlocked (here i) name (is i)) told)

    -- the desk was asked to hand the name over
    pub handed_over : (result : Result (Unit {0}) LockError) → answer ≡ Some result → UnlocksBy result worker view
    handed_over result is = inr (goes (Some result) is)

    -- the worker gave it back by itself
    pub gave_back : IfNone answer (GivesBack old.worker name Done worker) → answer ≡ None → UnlocksBy (Ok tt) worker view
    gave_back gives is = inl (refl, subst (λ (a : Option (Result (Unit {0}) LockError)). IfNone a (GivesBack old.worker name Done worker)) is gives, goes None is)

  -- it did without the lock
  pub gave_back_alone : (worker : WorkerState) → IsSound Makes ((opened old.locks.now.hall).desk) old.pass.id old.pass.me.0 → GivesBack old.worker name Done worker → UnlocksBy (Ok tt) worker old.pass.me.0
  gave_back_alone worker sound gives = inl (refl, gives, rests Makes ((opened old.locks.now.hall).desk) old.pass.id old.pass.me.0 sound)

-- what is not given back stays
pub kept_unless : (w : WorkerState) (name : List ℕ) (told : GiveUp) (after : WorkerState) → GivesBack w name told after → (told ≡ Done → ⊥) → after ≡ w
kept_unless w name Done after gives never = absurd (never refl)
kept_unless w name given.Changed after gives never = gives.1
kept_unless w name given.NotTaken after gives never = gives.1
