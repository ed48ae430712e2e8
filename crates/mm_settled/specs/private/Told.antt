-- What a call tells.
use Rattle.std.specs.Prelude.{◌≡◌, ◌⊎◌, ◌<◌, ◌≤◌, ◌^◌, IsTrue, MatchBool, List, [], ℕ, Bool, true, false, Option, Some, None, Result, Ok, Err, nat_eq}
use Rattle.mm_arena.specs.declared.key.Key.{Key}
use Rattle.mm_rules.specs.declared.refusal.Refusal.{Refusal}
use Rattle.mm_rules.specs.declared.reply.Settled.{Settled}
use Rattle.mm_rules.specs.TableState.{TableState, is_live, has_verdict}
use Rattle.mm_rules.specs.Change.{take_back}
use Rattle.mm_rules.specs.Event.{owner_told}
use Rattle.mm_settled.specs.Grants.{grants}
use Rattle.mm_settled.specs.declared.reply.Grant.{Grant}
use Rattle.mm_settled.specs.declared.reply.Locked.{Locked}
use Rattle.mm_settled.specs.declared.reply.Locked.TheVariants.{Waits, Deadlock}

-- what k, which waits for h, is told after this settle, and the table then: where it has a verdict, it takes back its wait
abbrev pub ToldBy : TableState → Settled → Key → Key → Locked → TableState → Type 0
ToldBy s answer k h told new = MatchBool (nat_eq answer.verdicts 0) ((told ≡ Waits h) × (new ≡ s)) ((told ≡ Deadlock h) × (new ≡ take_back s k.process))

-- k has a verdict, and one more abort can be counted
pub record MayTakeBack (s : TableState) (k : Key) : Type 0 where
  pub live : IsTrue (is_live s k)
  pub verdict : IsTrue (has_verdict s k.process)
  pub count : s.totals.verdicts ≤ 2 ^ 62

-- a list that was filled once this many events had been accepted tells of the last call if no event has been accepted since
abbrev pub is_told : ℕ → TableState → Bool
is_told at s = nat_eq at s.totals.accepted

-- a call that grants nothing: an event was accepted, so the list of grants means nothing; or none was, and the list is empty
pub record GrantsNothing (old new : TableState) (granted : List Grant) : Type 0 where
  pub none : grants old new ≡ []
  pub silent : (old.totals.accepted < new.totals.accepted) ⊎ ((new ≡ old) × (granted ≡ []))

abbrev pub has_owner : Result (Option Key) Refusal → Bool
has_owner (Ok (Some k)) = true
has_owner (Ok None) = false
has_owner (Err refusal) = false

-- `owner` answers with an owner of r
abbrev pub is_owned : TableState → ℕ → Bool
is_owned s r = has_owner (owner_told s r)
