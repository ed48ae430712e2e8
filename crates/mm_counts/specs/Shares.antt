-- What contracts see of a pass.
use Rattle.std.specs.Prelude.{⊤, ℕ, ◌≡◌, ◌+◌, ◌-◌, List, Result, OnOk, OnErr, IfOk}
use Rattle.mm_board.specs.declared.views.Seen.{Seen}
use Rattle.mm_board.specs.Views.{new_seen}
use Rattle.mm_label.specs.Label.{Label}
use Rattle.mm_rules.specs.declared.refusal.Refusal.{Refusal}
use Rattle.mm_rules.specs.Event.{Event, Answer, Acquire, Transmit, Detect, Abort, Settle}
use Rattle.mm_rules.specs.Laws.{verdicts_made}

-- how many parts of each ledger the pass has, how much its share of each ledger counts, and what it has seen of the board
pub record Shares : Type 0 where
  pub parts : ℕ
  pub accepted : ℕ  -- accepted events
  pub verdicts : ℕ  -- new verdicts
  pub aborts : ℕ  -- accepted aborts
  pub seen : Seen  -- the label of each process that was seen last, and how many labels were loaded

-- how many parts each ledger has
abbrev pub all_parts : ℕ
all_parts = 1048576

-- this many parts, which have counted nothing yet; these labels were seen, and none was loaded
abbrev pub empty_shares : ℕ → List Label → Shares
empty_shares parts labels = record { parts = parts; accepted = 0; verdicts = 0; aborts = 0; seen = new_seen labels }

-- the pass after it gave this many parts away: what it has counted and seen stays with it
abbrev pub less_parts : Shares → ℕ → Shares
less_parts s parts = record s { parts = s.parts - parts }

-- two passes as one, which has seen what the first one has
abbrev pub joined : Shares → Shares → Shares
joined s t = record s {
  parts = s.parts + t.parts;
  accepted = s.accepted + t.accepted;
  verdicts = s.verdicts + t.verdicts;
  aborts = s.aborts + t.aborts;
}

-- ---- what an event does to the pass that it was given

-- a detect and a settle add the verdicts that they give; no other event adds one
abbrev pub CountsVerdicts : (e : Event) → Result (Answer e) Refusal → ℕ → ℕ → Type 0
CountsVerdicts (Detect k) reply before after = IfOk reply (λ answer. after ≡ before + verdicts_made (Detect k) answer)
CountsVerdicts Settle reply before after = IfOk reply (λ answer. after ≡ before + verdicts_made Settle answer)
CountsVerdicts e reply before after = after ≡ before

-- an accepted abort adds one; no other event adds one
abbrev pub CountsAborts : (e : Event) → Result (Answer e) Refusal → ℕ → ℕ → Type 0
CountsAborts (Abort k) reply before after = OnOk reply (after ≡ before + 1)
CountsAborts e reply before after = after ≡ before

-- an acquire and a transmit may see labels of the board; no other event does
abbrev pub SeesNothing : Event → Seen → Seen → Type 0
SeesNothing (Acquire k r) before after = ⊤
SeesNothing (Transmit k) before after = ⊤
SeesNothing e before after = after ≡ before

-- an accepted event is counted once, and so are the verdicts that it gives and the abort that it is; a refused one changes nothing;
-- no event moves parts
pub record CountsEvent (e : Event) (reply : Result (Answer e) Refusal) (before after : Shares) : Type 0 where
  pub accepted : OnOk reply (after.accepted ≡ before.accepted + 1)
  pub verdicts : CountsVerdicts e reply before.verdicts after.verdicts
  pub aborts : CountsAborts e reply before.aborts after.aborts
  pub parts : after.parts ≡ before.parts
  pub seen : SeesNothing e before.seen after.seen
  pub refused : OnErr reply (after ≡ before)
