-- What a contract sees of a workload.
use Rattle.std.specs.Prelude.{ℕ, ◌≤◌, List, length}
use Rattle.std.specs.List.{All}
use Rattle.mm_limits.specs.declared.TheConstants.{MAX_CLIENTS, MAX_STEPS, MAX_TRANSMITTERS}
use Rattle.mm_workload.specs.declared.limits.TheConstants.{MAX_TURNS}
use Rattle.mm_rules.specs.declared.config.Config.{Config}
use Rattle.mm_workload.specs.Shapes.{Shape, usual}
use Rattle.mm_workload.specs.declared.step.WorkStep.{WorkStep}

-- from what the transactions that follow the first one of each client are drawn
pub record Origin : Type 0 where
  pub seed : ℕ
  pub shape : Shape

-- no transaction follows the first one of a client
abbrev pub no_further : Origin
no_further = record { seed = 0; shape = usual }

-- the numbers that the table is opened with, those of the workers, the steps of each client's first transaction in order, and from what its
-- further transactions are drawn
pub record Work : Type 0 where
  pub config : Config
  pub transmitters : ℕ
  pub turns : ℕ
  pub clients : List (List WorkStep)
  pub further : Origin

-- a client has this many steps at most
abbrev pub IsShort : List WorkStep → Type 0
IsShort steps = length steps ≤ MAX_STEPS

-- the ranges that each workload keeps
pub record IsWithinLimits (w : Work) : Type 0 where
  pub transmitters : w.transmitters ≤ MAX_TRANSMITTERS
  pub some_turns : 1 ≤ w.turns
  pub turns : w.turns ≤ MAX_TURNS
  pub some_clients : 1 ≤ length w.clients
  pub clients : length w.clients ≤ MAX_CLIENTS
  pub steps : All IsShort w.clients
