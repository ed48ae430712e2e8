use Rattle.std.proofs.Common.{◌≡◌, ◌≤◌, length, take, vec_capacity}
use Rattle.example_calls.specs.Wake.{active_keys}
use Rattle.example_calls.proofs.wake.list_active.Given as goal

abbrev pub invariant-loop-process : goal.invariant-loop-process
invariant-loop-process l = record {
  keys : l.keys.items ≡ active_keys l.table (take l.process-index l.processes);
  few : length l.keys.items ≤ l.process-index;
  room : vec_capacity l.keys ≡ vec_capacity l.fn.keys;
}
