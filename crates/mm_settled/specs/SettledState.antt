-- What a contract sees of a settled table.
use Rattle.std.specs.Prelude.{List, ℕ}
use Rattle.mm_rules.specs.TableState.{TableState}
use Rattle.mm_settled.specs.declared.reply.Grant.{Grant}

pub record SettledState : Type 0 where
  pub table : TableState
  pub granted : List Grant  -- the grants of the last call, in the order of the hand-overs
  pub ended : List ℕ  -- what the transaction owned that ended last
