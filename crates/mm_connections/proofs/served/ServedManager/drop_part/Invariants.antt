use Rattle.std.proofs.Common.{◌≡◌, ◌-◌, ℕ, List, ◌++◌, length, OnOk, IsOkUnless}
use Rattle.mm_lines.specs.declared.fault.Fault.TheVariants.{Write}
use Rattle.mm_lines.specs.Output.{Writes}
use Rattle.mm_tagged_lists.specs.TaggedLists.{ListsMatchSpots}
use Rattle.mm_connections.specs.private.Served.{hub_of}
use Rattle.mm_connections.proofs.Lemmas.Drops.{DropsOn}
use Rattle.mm_connections.proofs.served.ServedManager.drop_part.Given as goal

-- those at the front of the list were dropped, what is told of them is written, kept or lost, and the others are left
abbrev pub invariant-drop : goal.invariant-drop
invariant-drop g l = record {
  options : l.self.options ≡ l.initial.self.options;
  lists : length l.self.begun.lists ≡ length l.initial.self.begun.lists;
  spots : length l.self.begun.spots ≡ length l.initial.self.begun.spots;
  matched : ListsMatchSpots l.self.begun;
  config : l.self.manager.table.config ≡ l.initial.self.manager.table.config;
  told : List ℕ;
  lost : List ℕ;
  drops : DropsOn l.connection l.left (256 - l.counter) (hub_of l.initial.self) told (hub_of l.self);
  writes : Writes (g.W.Write.contents l.initial.writer) (g.W.Write.contents l.writer) (l.initial.output.items ++ told) lost;
  kept : OnOk l.written (lost ≡ l.output.items);
  fault : IsOkUnless l.written Write;
}
