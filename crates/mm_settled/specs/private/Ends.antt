-- What `release` and `finish` do, by which resources are handed over.
use Rattle.std.specs.Prelude.{◌≡◌, ◌↔◌, ℕ, List, Some}
use Rattle.mm_arena.specs.declared.key.Key.{Key}
use Rattle.mm_lists.specs.Members.{Among, NoRepeat}
use Rattle.mm_rules.specs.TableState.{TableState, owner_of}
use Rattle.mm_rules.specs.Laws.{AtRest}
use Rattle.mm_rules.specs.TakeBack.{HasNoVictim}
use Rattle.mm_settled.specs.Grants.{grants, EndsWaits}
use Rattle.mm_settled.specs.declared.lists.Lists.{Lists}
use Rattle.mm_settled.specs.private.Lists.{Fits}

-- the list has what k owned, each resource once
pub record ListsOwned (s : TableState) (k : Key) (ended : List ℕ) : Type 0 where
  pub owned : (r : ℕ) → Among r ended ↔ (owner_of s r ≡ Some k)
  pub once : NoRepeat ended

-- a call of process n that hands over, and settles the table if that is needed, leaves it at rest, and the list of grants tells of both
pub record Ends (old new : TableState) (n : ℕ) (lists : Lists) : Type 0 where
  pub granted : lists.granted.items ≡ grants old new
  pub ended : EndsWaits old new n lists.granted.items
  pub config : new.config ≡ old.config
  pub rest : AtRest new
  pub none : HasNoVictim old → HasNoVictim new
  pub fits : Fits new.config lists
