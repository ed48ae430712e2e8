-- Every event keeps the laws and lowers no public label, so every state that is reached is lawful.
use Rattle.std.proofs.Common.{◌≡◌, ℕ, List, [], ◌∷◌, Bool, true, false, Result, MatchBool}
use Rattle.mm_rules.specs.declared.config.Config.{Config}
use Rattle.mm_rules.specs.declared.refusal.Refusal.{Refusal}
use Rattle.mm_rules.specs.declared.reply.Settled.{Settled}
use Rattle.mm_rules.specs.TableState.{TableState, IsWide, opening}
use Rattle.mm_rules.specs.Event.{Event, Begin, Acquire, Release, Finish, Transmit, Detect, Abort, Settle, GiveUp, Answer, Gives, Step, Run, IsReached, Settles, settled, counts_exhausted}
use Rattle.mm_rules.specs.Laws.{Laws}
use Rattle.mm_rules.proofs.States.Opening.{opening_lawful}
use Rattle.mm_rules.proofs.States.Outcome.{KeepsLaws}
use Rattle.mm_rules.proofs.States.Begin.{begin_keeps}
use Rattle.mm_rules.proofs.States.Acquire.{acquire_keeps}
use Rattle.mm_rules.proofs.States.Release.{release_keeps}
use Rattle.mm_rules.proofs.States.Vacate.{finish_keeps}
use Rattle.mm_rules.proofs.States.Transmit.{transmitted_keeps}
use Rattle.mm_rules.proofs.States.Detect.{detected_keeps}
use Rattle.mm_rules.proofs.States.Abort.{abort_keeps}
use Rattle.mm_rules.proofs.States.GiveUp.{given_up_keeps}
use Rattle.mm_rules.proofs.States.Settle.{settled_keeps}

gives_keeps : (old new state : TableState) → new ≡ state → KeepsLaws old state → KeepsLaws old new
gives_keeps old new state is keeps = rw is keeps

settle_keeps : (old new : TableState) (reply : Result Settled Refusal) (b : Bool)
    → MatchBool b (Gives (settled old 0) reply new) ((n : ℕ) × Settles old n × Gives (settled old n) reply new) → Laws old → KeepsLaws old new
settle_keeps old new reply true step laws = gives_keeps old new (settled old 0).state step.1 (settled_keeps old 0 laws)
settle_keeps old new reply false (n, settles, step) laws = gives_keeps old new (settled old n).state step.1 (settled_keeps old n laws)

pub event_keeps : (e : Event) (old new : TableState) (reply : Result (Answer e) Refusal) → Step e old reply new → Laws old → KeepsLaws old new
event_keeps Begin old new reply step laws = gives_keeps old new _ step.1 (begin_keeps old laws)
event_keeps (Acquire k r) old new reply step laws = gives_keeps old new _ step.1 (acquire_keeps old k r laws)
event_keeps (Release k r) old new reply step laws = gives_keeps old new _ step.1 (release_keeps old k r laws)
event_keeps (Finish k) old new reply step laws = gives_keeps old new _ step.1 (finish_keeps old k laws)
event_keeps (Transmit k) old new reply step laws = gives_keeps old new _ step.1 (transmitted_keeps old k laws)
event_keeps (Detect k) old new reply step laws = gives_keeps old new _ step.1 (detected_keeps old k laws)
event_keeps (Abort k) old new reply step laws = gives_keeps old new _ step.1 (abort_keeps old k laws)
event_keeps Settle old new reply step laws = settle_keeps old new reply (counts_exhausted old) step laws
event_keeps (GiveUp k) old new reply step laws = gives_keeps old new _ step.1 (given_up_keeps old k laws)

run_keeps : (es : List Event) (old new : TableState) → Run old es new → Laws old → Laws new
run_keeps [] old new same laws = rw same laws
run_keeps (e ∷ es) old new (mid, reply, step, rest) laws = run_keeps es mid new rest (event_keeps e old mid reply step laws).laws

pub reached_is_lawful : (c : Config) → IsWide c → (s : TableState) → IsReached c s → Laws s
reached_is_lawful c range s (es, run) = run_keeps es (opening c) s run (opening_lawful c range)
