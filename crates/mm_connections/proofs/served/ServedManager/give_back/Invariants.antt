use Rattle.std.proofs.Common.{◌≡◌, ℕ, List, ◌++◌, OnOk, IsOkUnless}
use Rattle.mm_lines.specs.declared.fault.Fault.TheVariants.{Write}
use Rattle.mm_lines.specs.Output.{Writes}
use Rattle.mm_connections.specs.Text.{GivesBackMany}
use Rattle.mm_connections.specs.private.Served.{hub_of}
use Rattle.mm_connections.proofs.served.ServedManager.give_back.Given as goal

-- as many were given back as the loop has turned, and what is told of them is written, kept or lost
abbrev pub invariant-name : goal.invariant-name
invariant-name g l = record {
  options : l.self.options ≡ l.initial.self.options;
  begun : l.self.begun ≡ l.initial.self.begun;
  config : l.self.manager.table.config ≡ l.initial.self.manager.table.config;
  told : List ℕ;
  lost : List ℕ;
  gives : GivesBackMany l.but l.key l.counter (hub_of l.initial.self) told (hub_of l.self);
  writes : Writes (g.W.Write.contents l.initial.writer) (g.W.Write.contents l.writer) (l.initial.output.items ++ told) lost;
  kept : OnOk l.written (lost ≡ l.output.items);
  fault : IsOkUnless l.written Write;
}
