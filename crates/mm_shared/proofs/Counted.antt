-- The books and the room after an event, by its reply.
use Rattle.std.proofs.Common.{◌≡◌, ◌≤◌, ◌+◌, ℕ, Result, Ok, Err, sym, subst, ap, arith}
use Rattle.mm_rules.specs.declared.refusal.Refusal.{Refusal}
use Rattle.mm_rules.specs.declared.reply.Totals.{Totals}
use Rattle.mm_rules.specs.TableState.{TableState}
use Rattle.mm_rules.specs.Event.{Event, Answer, Step}
use Rattle.mm_rules.specs.Laws.{verdicts_made, aborts_made, Counts}
use Rattle.mm_rules.proofs.States.Config.{event_config}
use Rattle.mm_rules.proofs.States.Counts.{event_counts}
use Rattle.mm_shared.specs.Booked.{Booked}

module _ (e : Event) (old new : TableState) (reply : Result (Answer e) Refusal) (step : Step e old reply new) where
  -- there is room for as many processes as before
  pub room_stays : (room kept : ℕ) → kept ≡ room → old.config.processes ≤ room → new.config.processes ≤ kept
  room_stays room kept same fits = omega (arith, ap (λ c. c.processes) (event_config e old new reply step))

  counts_at : (r : Result (Answer e) Refusal) → reply ≡ r → Counts e r old.totals new.totals
  counts_at r is = subst (λ (r : Result (Answer e) Refusal). Counts e r old.totals new.totals) is (event_counts e old new reply step)

  -- a refused event counts nothing
  pub refused_booked : (refusal : Refusal) (accepted verdicts aborts : ℕ) → reply ≡ Err refusal → Booked old.totals accepted verdicts aborts → Booked new.totals accepted verdicts aborts
  refused_booked refusal accepted verdicts aborts is booked = subst (λ (t : Totals). Booked t accepted verdicts aborts) (sym (counts_at (Err refusal) is)) booked

  -- an accepted one counts what it made
  pub accepted_booked : (answer : Answer e) (accepted verdicts aborts a v b : ℕ) → reply ≡ Ok answer → Booked old.totals accepted verdicts aborts
      → a ≡ accepted + 1 → v ≡ verdicts + verdicts_made e answer → b ≡ aborts + aborts_made e → Booked new.totals a v b
  accepted_booked answer accepted verdicts aborts a v b is booked one made ended =
      let counts = counts_at (Ok answer) is in (omega (arith, counts.0, booked.0), omega (arith, counts.1, booked.1), omega (arith, counts.2, booked.2))
