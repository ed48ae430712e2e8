-- What an accepted settle leaves, by the law.
use Rattle.std.proofs.Common.{◌≤◌, OnOk, IfOk, Result, Ok, Err}
use Rattle.mm_rules.specs.declared.refusal.Refusal.{Refusal}
use Rattle.mm_rules.specs.declared.reply.Settled.{Settled}
use Rattle.mm_rules.specs.TableState.{TableState}
use Rattle.mm_rules.specs.Event.{Step, Settle}
use Rattle.mm_rules.specs.Laws.{AtRest, Laws, SettleGivesRest, most_raises}

module _ (law : SettleGivesRest) (old new : TableState) (laws : Laws old) where
  pub at_rest : (reply : Result Settled Refusal) → Step Settle old reply new → OnOk reply (AtRest new)
  at_rest (Ok answer) step = (law old new answer step laws).at_rest
  at_rest (Err refusal) step = tt

  pub few_raises : (reply : Result Settled Refusal) → Step Settle old reply new → IfOk reply (λ answer. answer.raises ≤ most_raises old)
  few_raises (Ok answer) step = (law old new answer step laws).raise_bound
  few_raises (Err refusal) step = tt
