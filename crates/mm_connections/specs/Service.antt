-- What a run of a service with connections reads and writes.
use Rattle.std.specs.Prelude.{ℕ, ◌*◌, List, Result, replicate}
use Rattle.mm_lines.specs.declared.fault.Fault.{Fault}
use Rattle.mm_lines.specs.Text as texts
use Rattle.mm_manager.specs.Opening as manager
use Rattle.mm_manager.specs.declared.config.ManagerConfig.{ManagerConfig}
use Rattle.mm_tagged_lists.specs.TaggedLists.{unlisted}
use Rattle.mm_connections.specs.Hub.{Hub}
use Rattle.mm_connections.specs.Text.{Answers}
use Rattle.mm_connections.specs.declared.options.ConnectionOptions.{ConnectionOptions}

-- 2 to the 64, less two
abbrev pub input_limit : ℕ
input_limit = 18446744073709551614

-- nobody has begun a transaction
abbrev pub opening_hub : ManagerConfig → ConnectionOptions → Hub
opening_hub config options = record {
  manager = manager.opening_state config;
  begun = unlisted (options.connections * 2) config.transactions;
  counts = replicate options.connections 0;
  options = options;
}

-- a run from this hub that ended so read these bytes, wrote those, and left that hub
abbrev pub Ends : Hub → Result ℕ Fault → List ℕ → List ℕ → Hub → Type 0
Ends h result read written last = texts.Ends Answers input_limit h result read written last
