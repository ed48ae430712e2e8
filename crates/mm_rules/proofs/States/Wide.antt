-- What is in range for an opening is so for a wide one.
use Rattle.std.proofs.Common.{arith}
use Rattle.mm_rules.specs.declared.config.Config.{Config}
use Rattle.mm_rules.specs.TableState.{IsInRange, IsWide}

pub is_wide : (c : Config) → IsInRange c → IsWide c
is_wide c range = record {
  processes = range.processes;
  resources = (range.resources.0, omega (arith, range.resources.1));
  label_limit = range.label_limit;
  generation_limit = range.generation_limit;
}
