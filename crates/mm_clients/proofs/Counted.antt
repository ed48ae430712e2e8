-- What an event adds to each count of a table, by its reply.
use Rattle.std.proofs.Common.{◌≡◌, ◌+◌, [], Result, Ok, Err, OnOk, IfOk, OnErr, refl, ap, arith}
use Rattle.mm_board.specs.Views.{new_seen}
use Rattle.mm_rules.specs.declared.refusal.Refusal.{Refusal}
use Rattle.mm_rules.specs.declared.reply.Totals.{Totals}
use Rattle.mm_rules.specs.TableState.{TableState}
use Rattle.mm_rules.specs.Event.{Event, Answer, Step, Begin, Acquire, Release, Finish, Transmit, Detect, Abort, GiveUp, Settle}
use Rattle.mm_rules.specs.Laws.{verdicts_made, aborts_made, Counts}
use Rattle.mm_rules.proofs.States.Counts.{event_counts}
use Rattle.mm_board.specs.declared.views.Seen.{Seen}
use Rattle.mm_counts.specs.Shares.{Shares, CountsEvent, CountsVerdicts, CountsAborts, SeesNothing}

-- the counts of a table, as workers see them
abbrev pub shares_of : Totals → Shares
shares_of t = record { parts = 0; accepted = t.accepted; verdicts = t.verdicts; aborts = t.aborts; seen = new_seen [] }

-- who sees nothing new sees nothing, by any event
sees_nothing : (e : Event) (seen : Seen) → SeesNothing e seen seen
sees_nothing Begin seen = refl
sees_nothing (Acquire k r) seen = tt
sees_nothing (Release k r) seen = refl
sees_nothing (Finish k) seen = refl
sees_nothing (Transmit k) seen = tt
sees_nothing (Detect k) seen = refl
sees_nothing (Abort k) seen = refl
sees_nothing (GiveUp k) seen = refl
sees_nothing Settle seen = refl

module _ (e : Event) (old new : TableState) (reply : Result (Answer e) Refusal) (step : Step e old reply new) where
  adds_one : OnOk reply (new.totals.accepted ≡ old.totals.accepted + 1)
  adds_one = by reply (event_counts e old new reply step)
    where
      by : (r : Result (Answer e) Refusal) → Counts e r old.totals new.totals → OnOk r (new.totals.accepted ≡ old.totals.accepted + 1)
      by (Ok answer) counts = counts.0
      by (Err refusal) counts = tt

  adds_verdicts : IfOk reply (λ answer. new.totals.verdicts ≡ old.totals.verdicts + verdicts_made e answer)
  adds_verdicts = by reply (event_counts e old new reply step)
    where
      by : (r : Result (Answer e) Refusal) → Counts e r old.totals new.totals → IfOk r (λ answer. new.totals.verdicts ≡ old.totals.verdicts + verdicts_made e answer)
      by (Ok answer) counts = counts.1
      by (Err refusal) counts = tt

  adds_aborts : OnOk reply (new.totals.aborts ≡ old.totals.aborts + aborts_made e)
  adds_aborts = by reply (event_counts e old new reply step)
    where
      by : (r : Result (Answer e) Refusal) → Counts e r old.totals new.totals → OnOk r (new.totals.aborts ≡ old.totals.aborts + aborts_made e)
      by (Ok answer) counts = counts.2
      by (Err refusal) counts = tt

  no_verdict : ((answer : Answer e) → verdicts_made e answer ≡ 0) → new.totals.verdicts ≡ old.totals.verdicts
  no_verdict none = by reply (event_counts e old new reply step)
    where
      by : (r : Result (Answer e) Refusal) → Counts e r old.totals new.totals → new.totals.verdicts ≡ old.totals.verdicts
      by (Ok answer) counts = omega (arith, counts.1, none answer)
      by (Err refusal) counts = ap (λ t. t.verdicts) counts

  no_abort : aborts_made e ≡ 0 → new.totals.aborts ≡ old.totals.aborts
  no_abort none = by reply (event_counts e old new reply step)
    where
      by : (r : Result (Answer e) Refusal) → Counts e r old.totals new.totals → new.totals.aborts ≡ old.totals.aborts
      by (Ok answer) counts = omega (arith, counts.2, none)
      by (Err refusal) counts = ap (λ t. t.aborts) counts

  refused : OnErr reply (shares_of new.totals ≡ shares_of old.totals)
  refused = by reply (event_counts e old new reply step)
    where
      by : (r : Result (Answer e) Refusal) → Counts e r old.totals new.totals → OnErr r (shares_of new.totals ≡ shares_of old.totals)
      by (Ok answer) counts = tt
      by (Err refusal) counts = ap shares_of counts

  -- with what it adds to the verdicts and to the aborts, that is all
  counts_with : CountsVerdicts e reply old.totals.verdicts new.totals.verdicts → CountsAborts e reply old.totals.aborts new.totals.aborts → CountsEvent e reply (shares_of old.totals) (shares_of new.totals)
  counts_with verdicts aborts = record { accepted = adds_one; verdicts = verdicts; aborts = aborts; parts = refl; seen = sees_nothing e (new_seen []); refused = refused }

module _ (old new : TableState) where
  -- each event of a table counts as it does in a pass
  pub counts_event : (e : Event) (reply : Result (Answer e) Refusal) → Step e old reply new → CountsEvent e reply (shares_of old.totals) (shares_of new.totals)
  counts_event Begin reply step = let e = Begin in counts_with e old new reply step (no_verdict e old new reply step (λ answer. refl)) (no_abort e old new reply step refl)
  counts_event (Acquire k r) reply step = let e = Acquire k r in counts_with e old new reply step (no_verdict e old new reply step (λ answer. refl)) (no_abort e old new reply step refl)
  counts_event (Release k r) reply step = let e = Release k r in counts_with e old new reply step (no_verdict e old new reply step (λ answer. refl)) (no_abort e old new reply step refl)
  counts_event (Finish k) reply step = let e = Finish k in counts_with e old new reply step (no_verdict e old new reply step (λ answer. refl)) (no_abort e old new reply step refl)
  counts_event (Transmit k) reply step = let e = Transmit k in counts_with e old new reply step (no_verdict e old new reply step (λ answer. refl)) (no_abort e old new reply step refl)
  counts_event (Detect k) reply step = let e = Detect k in counts_with e old new reply step (adds_verdicts e old new reply step) (no_abort e old new reply step refl)
  counts_event (Abort k) reply step = let e = Abort k in counts_with e old new reply step (no_verdict e old new reply step (λ answer. refl)) (adds_aborts e old new reply step)
  counts_event (GiveUp k) reply step = let e = GiveUp k in counts_with e old new reply step (no_verdict e old new reply step (λ answer. refl)) (no_abort e old new reply step refl)
  counts_event Settle reply step = let e = Settle in counts_with e old new reply step (adds_verdicts e old new reply step) (no_abort e old new reply step refl)
