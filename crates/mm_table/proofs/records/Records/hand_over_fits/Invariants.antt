use Rattle.std.proofs.Common.{◌≡◌, ◌∷◌, ◌++◌}
use Rattle.std.specs.List.{list_all}
use Rattle.mm_rules.specs.Change.{block_fits, hand_over_fits}
use Rattle.mm_table.proofs.Fields.Walk.{queued}
use Rattle.mm_table.proofs.records.Records.hand_over_fits.Given as goal

-- those that were passed fit
abbrev pub invariant-loop-process : goal.invariant-loop-process
invariant-loop-process l = record {
  walked : queued l.self l.resource ≡ (l.first ∷ l.yielded) ++ l.process-iterator;
  fits : hand_over_fits l.self l.resource ≡ list_all (λ n. block_fits l.self n l.first) l.process-iterator;
}
