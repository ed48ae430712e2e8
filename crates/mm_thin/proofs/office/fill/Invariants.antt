use Rattle.std.proofs.Common.{◌≡◌, ◌≤◌, ◌+◌}
use Rattle.mm_thin.specs.declared.worker.TheConstants.{PLACES}
use Rattle.mm_thin.specs.Views.{with_records}
use Rattle.mm_thin.specs.Parts.{AreNew}
use Rattle.mm_thin.proofs.office.fill.Given as goal

abbrev pub invariant-loop : goal.invariant-loop
invariant-loop l = AreNew l.fn.desk l.counter l.places.items × (PLACES ≤ l.places.cap) × (l.desk ≡ (l.fn.desk.0, with_records l.fn.desk.1 (l.fn.desk.1.records + l.counter)))
