-- Withdraw: a waiting transaction takes back its wait in a table at rest, whatever label it shows. It is no event of `Event`, since it keeps the laws only from rest.
use Rattle.std.specs.Prelude.{ℕ, ◌≡◌, ◌≢◌, ◌++◌, ◌∷◌, [], ◌&&◌, Bool, true, not, if◌then◌else◌, List, Result, Ok, Err, IsTrue, IsFalse, nat_eq}
use Rattle.std.specs.Option.{option_map_or}
use Rattle.mm_label.specs.Label.{label_eq, label_le}
use Rattle.mm_arena.specs.declared.key.Key.{Key}
use Rattle.mm_rules.specs.declared.refusal.Refusal.{Refusal}
use Rattle.mm_rules.specs.declared.refusal.Refusal.TheVariants.{LabelsExhausted, Carried, UnderVerdict}
use Rattle.mm_rules.specs.declared.reply.Settled.{Settled}
use Rattle.mm_rules.specs.TableState.{TableState, private_of, public_of, has_verdict, holder_of, is_waiting, graph_of}
use Rattle.mm_rules.specs.Change.{block, block_fits, activate}
use Rattle.mm_rules.specs.Event.{Tests, Outcome, Gives, Settle, GiveUp, Step, outcome, waiting_tests}
use Rattle.mm_rules.specs.Graph.{Path}
use Rattle.mm_rules.specs.Laws.{Laws, AtRest, RestsFrom, Counts}
use Rattle.mm_rules.specs.Rest.{HoldersShowTheSame}

-- ---- the change

-- m, which waits, gets a new label, as when it began to wait for its holder; it keeps its place in the queue
abbrev pub renew : TableState → ℕ → TableState
renew s m = option_map_or (λ h. block s m h) (holder_of s m) s

-- whether the limit allows that label
abbrev pub renew_fits : TableState → ℕ → Bool
renew_fits s m = option_map_or (λ h. block_fits s m h) (holder_of s m) true

-- the process whose label n shows
abbrev pub shown_process : TableState → ℕ → ℕ
shown_process s n = (public_of s n).process

-- this is another process, and it waits with this label as its private one
abbrev pub shows_waiting : TableState → ℕ → Bool
shows_waiting s n =
    not (nat_eq (shown_process s n) n) && (is_waiting s (shown_process s n) && label_eq (private_of s (shown_process s n)) (public_of s n))

-- n waits no longer; if it shows the label with which another process waits, that one gets a new label first
abbrev pub withdraw : TableState → ℕ → TableState
withdraw s n = activate (if shows_waiting s n then renew s (shown_process s n) else s) n

-- ---- refusals, reply and new state

abbrev pub withdraw_tests : TableState → Key → Tests
withdraw_tests s k =
    waiting_tests s k ++ (has_verdict s k.process, UnderVerdict)
    ∷ (shows_waiting s k.process && has_verdict s (shown_process s k.process), Carried)
    ∷ (shows_waiting s k.process && not (renew_fits s (shown_process s k.process)), LabelsExhausted) ∷ []

abbrev pub withdrawn : TableState → Key → Outcome (Unit {0})
withdrawn s k = outcome (withdraw_tests s k) s tt (withdraw s k.process)

-- a withdrawal gives this reply and this new state
abbrev pub Withdraws : Key → TableState → Result (Unit {0}) Refusal → TableState → Type 0
Withdraws k old reply new = Gives (withdrawn old k) reply new

-- ---- what is proved of it

-- in any state, a process that waits without a verdict, and shows its own label, may be renewed
abbrev pub RenewKeepsLaws : Type 0
RenewKeepsLaws = (s : TableState) (m : ℕ) → Laws s → IsTrue (is_waiting s m) → private_of s m ≡ public_of s m → IsFalse (has_verdict s m) → IsTrue (renew_fits s m) → Laws (renew s m)

-- from rest, a withdrawal keeps all laws
abbrev pub WithdrawKeepsLaws : Type 0
WithdrawKeepsLaws = (k : Key) (old new : TableState) (reply : Result (Unit {0}) Refusal) → Withdraws k old reply new → Laws old → AtRest old → Laws new

-- and lowers no public label
abbrev pub WithdrawLowersNone : Type 0
WithdrawLowersNone = (k : Key) (old new : TableState) (reply : Result (Unit {0}) Refusal) → Withdraws k old reply new → Laws old → AtRest old
    → (n : ℕ) → IsTrue (label_le (public_of old n) (public_of new n))

-- a settle after it gives no verdict; then the table is at rest
pub record RestsWithoutVictim (mid new : TableState) (answer : Settled) : Type 0 where
  pub none : answer.verdicts ≡ 0
  pub verdicts : (v : ℕ) → has_verdict new v ≡ has_verdict mid v
  pub laws : Laws new
  pub rests : RestsFrom mid new answer

abbrev pub WithdrawHasNoVictim : Type 0
WithdrawHasNoVictim = (k : Key) (old mid new : TableState) (reply : Result (Unit {0}) Refusal) (answer : Settled)
    → Withdraws k old reply mid → Step Settle mid (Ok answer) new → Laws old → AtRest old → RestsWithoutVictim mid new answer

-- if each holder shows the label that it showed before, the table is at rest without a settle
abbrev pub WithdrawStaysAtRest : Type 0
WithdrawStaysAtRest = (k : Key) (old new : TableState) (reply : Result (Unit {0}) Refusal) → Withdraws k old reply new → Laws old → AtRest old → HoldersShowTheSame old new → AtRest new

-- it is counted as a give-up is, and gives or takes no verdict
abbrev pub WithdrawCounts : Type 0
WithdrawCounts = (k : Key) (old new : TableState) (reply : Result (Unit {0}) Refusal) → Withdraws k old reply new → Counts (GiveUp k) reply old.totals new.totals × (new.verdicts ≡ old.verdicts)

-- if a give-up is accepted, a withdrawal has the same reply and the same new state
abbrev pub GiveUpIsWithdraw : Type 0
GiveUpIsWithdraw = (k : Key) (old new : TableState) → Step (GiveUp k) old (Ok tt) new → Laws old → Withdraws k old (Ok tt) new

-- n waits, directly or over others, for a victim, which has yet to abort
pub record IsBehindVictim (s : TableState) (n : ℕ) : Type 0 where
  pub victim : ℕ
  pub apart : n ≢ victim
  pub verdict : IsTrue (has_verdict s victim)
  pub way : List ℕ
  pub path : Path (graph_of s) n way victim

-- a transaction that is refused as `Carried` is behind a victim
abbrev pub CarriedIsBehindVictim : Type 0
CarriedIsBehindVictim = (k : Key) (old new : TableState) → Withdraws k old (Err Carried) new → Laws old → IsBehindVictim old k.process

-- so in a table without victims no transaction is refused as `Carried`
abbrev pub NoVictimNoCarried : Type 0
NoVictimNoCarried = (k : Key) (old new : TableState) → Laws old → ((v : ℕ) → IsFalse (has_verdict old v)) → ¬ Withdraws k old (Err Carried) new
