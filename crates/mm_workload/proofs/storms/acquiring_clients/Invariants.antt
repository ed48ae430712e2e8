use Rattle.std.proofs.Common.{◌≡◌, ◌-◌, ◌++◌, map}
use Rattle.mm_workload.specs.Shapes.{shape_of}
use Rattle.mm_workload.specs.Storm.{clients_from}
use Rattle.mm_workload.proofs.storms.acquiring_clients.Given as goal

abbrev pub invariant-clients : goal.invariant-clients
invariant-clients l = map (λ k. k.items) l.clients.items ++ clients_from (shape_of l.shape) (l.count - l.counter) l.words ≡ clients_from (shape_of l.shape) l.count l.initial.words
