-- What becomes of a table whose counts come to their limit: the accepted events, or the verdicts.
use Rattle.std.specs.Prelude.{◌≡◌, ℕ, ◌+◌, ◌-◌, ◌^◌, ◌≤◌, Result, Ok, Err, ◌⊎◌, ◌↔◌}
use Rattle.mm_label.specs.Label.{Label}
use Rattle.mm_arena.specs.declared.key.Key.{Key}
use Rattle.mm_rules.specs.declared.config.Config.{Config}
use Rattle.mm_rules.specs.declared.refusal.Refusal.{Refusal}
use Rattle.mm_rules.specs.declared.refusal.Refusal.TheVariants.{CountsExhausted}
use Rattle.mm_rules.specs.declared.reply.Acquired.TheVariants.{Granted, Waits}
use Rattle.mm_rules.specs.declared.reply.Transmitted.TheVariants.{Raised}
use Rattle.mm_rules.specs.declared.reply.Detected.TheVariants.{Deadlock}
use Rattle.mm_rules.specs.TableState.{TableState, opening}
use Rattle.mm_rules.specs.Event.{Event, Answer, Settle, Step, begun, acquired, transmitted, detected, aborted, settled}

-- ---- in every state

abbrev pub IsAtLimit : TableState → Type 0
IsAtLimit s = (2 ^ 62 ≤ s.totals.accepted) ⊎ (2 ^ 62 ≤ s.totals.verdicts)

-- each event, whatever its key and its resource, is refused because of the counts and changes nothing, and has no other outcome
abbrev pub RefusesAll : TableState → Type 0
RefusesAll s = (e : Event) (reply : Result (Answer e) Refusal) (new : TableState) → Step e s reply new ↔ ((reply ≡ Err CountsExhausted) × (new ≡ s))

abbrev pub RefusedAtLimit : Type 0
RefusedAtLimit = (s : TableState) → IsAtLimit s → RefusesAll s

-- below the limit no event is refused because of the counts, also one that counts beyond it
abbrev pub RefusedOnlyAtLimit : Type 0
RefusedOnlyAtLimit = (e : Event) (s new : TableState) → Step e s (Err CountsExhausted) new → IsAtLimit s

-- ---- in three states

abbrev pub four : Config
four = record { processes = 4; resources = 4; label_limit = 100; generation_limit = 9 }

abbrev pub key : ℕ → ℕ → Key
key n g = record { process = n; generation = g }

abbrev pub label : ℕ → ℕ → Label
label c n = record { counter = c; process = n }

-- the same state with other counts
abbrev pub recounted : TableState → ℕ → ℕ → ℕ → TableState
recounted s a v b = record s { totals = record { accepted = a; verdicts = v; aborts = b } }

-- two begin, each owns the resource of its number, and the first waits for the second
abbrev pub first_begun : TableState
first_begun = (acquired (begun (opening four)).state (key 0 1) 0).state

abbrev pub second_begun : TableState
second_begun = (acquired (begun first_begun).state (key 1 1) 1).state

abbrev pub first_waits : TableState
first_waits = (acquired second_begun (key 0 1) 1).state

-- the second waits for the first
abbrev pub both_wait : TableState
both_wait = (acquired first_waits (key 1 1) 0).state

-- one event is left to count
abbrev pub before_last_event : TableState
before_last_event = recounted first_waits (2 ^ 62 - 1) 0 0

-- a begin is the last event that is counted
abbrev pub LastEventIsCounted : Type 0
LastEventIsCounted =
    let last = begun before_last_event in
    (last.reply ≡ Ok (key 2 1)) × (last.state.totals.accepted ≡ 2 ^ 62) × RefusesAll last.state

-- a settle convicts the second; then one verdict is left to count, and the second is aborted
abbrev pub convicted : TableState
convicted = (settled both_wait 1).state

abbrev pub before_abort : TableState
before_abort = recounted convicted 7 (2 ^ 62 - 1) (2 ^ 62 - 2)

abbrev pub victim_aborted : TableState
victim_aborted = (aborted before_abort (key 1 1)).state

-- its process begins anew and takes another resource, and the two wait for each other again
abbrev pub begun_anew : TableState
begun_anew = (acquired (begun victim_aborted).state (key 1 2) 2).state

abbrev pub wait_again : TableState
wait_again = (acquired (acquired begun_anew (key 0 1) 2).state (key 1 2) 0).state

abbrev pub raised : TableState
raised = (transmitted wait_again (key 0 1)).state

-- each of these is accepted, and so is the last verdict
abbrev pub LastVerdictIsCounted : Type 0
LastVerdictIsCounted =
    let last = detected raised (key 1 2) in
    Step Settle both_wait (Ok (record { raises = 1; verdicts = 1 })) convicted
    × ((aborted before_abort (key 1 1)).reply ≡ Ok tt)
    × (victim_aborted.totals ≡ record { accepted = 8; verdicts = 2 ^ 62 - 1; aborts = 2 ^ 62 - 1 })
    × ((begun victim_aborted).reply ≡ Ok (key 1 2))
    × ((acquired (begun victim_aborted).state (key 1 2) 2).reply ≡ Ok Granted)
    × ((acquired begun_anew (key 0 1) 2).reply ≡ Ok (Waits (key 1 2) (label 3 0)))
    × ((acquired (acquired begun_anew (key 0 1) 2).state (key 1 2) 0).reply ≡ Ok (Waits (key 0 1) (label 4 1)))
    × ((transmitted wait_again (key 0 1)).reply ≡ Ok (Raised (label 4 1)))
    × (last.reply ≡ Ok (Deadlock (label 4 1)))
    × (last.state.totals.verdicts ≡ 2 ^ 62)
    × RefusesAll last.state

-- two more begin, and wait for each other as the first two do; one verdict is left to count
abbrev pub third_begun : TableState
third_begun = (acquired (begun both_wait).state (key 2 1) 2).state

abbrev pub fourth_begun : TableState
fourth_begun = (acquired (begun third_begun).state (key 3 1) 3).state

abbrev pub all_wait : TableState
all_wait = (acquired (acquired fourth_begun (key 2 1) 3).state (key 3 1) 2).state

abbrev pub before_last_verdict : TableState
before_last_verdict = recounted all_wait 12 (2 ^ 62 - 1) (2 ^ 62 - 1)

-- a settle gives two verdicts, and the count of verdicts is past the limit
abbrev pub SettlePassesLimit : Type 0
SettlePassesLimit =
    let last = settled before_last_verdict 1 in
    Step Settle before_last_verdict (Ok (record { raises = 2; verdicts = 2 })) last.state
    × (last.state.totals.verdicts ≡ 2 ^ 62 + 1)
    × RefusesAll last.state
