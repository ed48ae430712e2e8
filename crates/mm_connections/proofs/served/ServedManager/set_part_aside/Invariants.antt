use Rattle.std.proofs.Common.{◌≡◌, ◌-◌, length}
use Rattle.mm_tagged_lists.specs.TaggedLists.{ListsMatchSpots}
use Rattle.mm_connections.specs.private.Served.{hub_of}
use Rattle.mm_connections.proofs.Lemmas.Drops.{SetsOn}
use Rattle.mm_connections.proofs.served.ServedManager.set_part_aside.Given as goal

-- those at the front of the list were set aside, and the others are left
abbrev pub invariant-aside : goal.invariant-aside
invariant-aside l = record {
  options : l.self.options ≡ l.initial.self.options;
  lists : length l.self.begun.lists ≡ length l.initial.self.begun.lists;
  spots : length l.self.begun.spots ≡ length l.initial.self.begun.spots;
  matched : ListsMatchSpots l.self.begun;
  config : l.self.manager.table.config ≡ l.initial.self.manager.table.config;
  sets : SetsOn l.connection (256 - l.counter) (hub_of l.initial.self) (hub_of l.self);
}
