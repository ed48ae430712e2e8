-- What a table replies to calls, one after another, by the definitions alone.
use Rattle.std.proofs.Common.{ℕ, List, [], ◌∷◌, Option, Result}
use Rattle.mm_arena.specs.declared.key.Key.{Key}
use Rattle.mm_rules.specs.declared.refusal.Refusal.{Refusal}
use Rattle.mm_rules.specs.declared.reply.Acquired.{Acquired}
use Rattle.mm_rules.specs.declared.reply.Released.{Released}
use Rattle.mm_rules.specs.declared.reply.Transmitted.{Transmitted}
use Rattle.mm_rules.specs.declared.reply.Detected.{Detected}
use Rattle.mm_rules.specs.declared.reply.Settled.{Settled}
use Rattle.mm_rules.specs.declared.reply.State.{State}
use Rattle.mm_rules.specs.declared.reply.Totals.{Totals}
use Rattle.mm_rules.specs.TableState.{TableState, owner_of}
use Rattle.mm_rules.specs.Event.{begun, finished, aborted, given_up, state_of}
use Rattle.mm_rules.specs.Event as event

pub data Call : Type 0 where
  begin : Call
  acquire : (key : Key) → (resource : ℕ) → Call
  release : (key : Key) → (resource : ℕ) → Call
  finish : (key : Key) → Call
  transmit : (key : Key) → Call
  detect : (key : Key) → Call
  abort : (key : Key) → Call
  give_up : (key : Key) → Call
  settle : (sweeps : ℕ) → Call
  state : (key : Key) → Call
  owner : (resource : ℕ) → Call
  totals : Call

pub data Reply : Type 0 where
  key : Result Key Refusal → Reply
  acquired : Result Acquired Refusal → Reply
  released : Result Released Refusal → Reply
  done : Result (Unit {0}) Refusal → Reply
  transmitted : Result Transmitted Refusal → Reply
  detected : Result Detected Refusal → Reply
  settled : Result Settled Refusal → Reply
  stands : Result State Refusal → Reply
  owned : Option Key → Reply
  counted : Totals → Reply

abbrev pub transcript : TableState → List Call → List Reply
transcript s [] = []
transcript s (begin ∷ calls) = let o = begun s in key o.reply ∷ transcript o.state calls
transcript s (acquire k r ∷ calls) = let o = event.acquired s k r in acquired o.reply ∷ transcript o.state calls
transcript s (release k r ∷ calls) = let o = event.released s k r in released o.reply ∷ transcript o.state calls
transcript s (finish k ∷ calls) = let o = finished s k in done o.reply ∷ transcript o.state calls
transcript s (transmit k ∷ calls) = let o = event.transmitted s k in transmitted o.reply ∷ transcript o.state calls
transcript s (detect k ∷ calls) = let o = event.detected s k in detected o.reply ∷ transcript o.state calls
transcript s (abort k ∷ calls) = let o = aborted s k in done o.reply ∷ transcript o.state calls
transcript s (give_up k ∷ calls) = let o = given_up s k in done o.reply ∷ transcript o.state calls
transcript s (settle sweeps ∷ calls) = let o = event.settled s sweeps in settled o.reply ∷ transcript o.state calls
transcript s (state k ∷ calls) = stands (state_of s k) ∷ transcript s calls
transcript s (owner r ∷ calls) = owned (owner_of s r) ∷ transcript s calls
transcript s (totals ∷ calls) = counted s.totals ∷ transcript s calls
