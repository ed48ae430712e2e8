use Rattle.std.proofs.Common.{◌≡◌, ◌+◌, drop}
use Rattle.mm_shared.specs.Published.{AppendsOnly}
use Rattle.mm_shared.specs.private.Publishing.{IsToPublish, IdleAreShown}
use Rattle.mm_shared.proofs.publish.publish.Given as goal

abbrev pub invariant-loop-process : goal.invariant-loop-process
invariant-loop-process g l = record {
  left : IsToPublish (drop l.process-index l.processes) l.publisher l.table;
  idle : IdleAreShown l.publisher l.table;
  appends : AppendsOnly l.initial.publisher l.publisher l.table;
  held : l.publisher.holders_stored ≡ l.initial.publisher.holders_stored + l.process-index;
}
