use Rattle.std.proofs.Common.{◌≡◌, ◌≤◌, map, vec_capacity}
use Rattle.std.specs.List.{range_with_len}
use Rattle.mm_table.specs.private.Labels.{opening_labels}
use Rattle.mm_table.proofs.labels.labels_at_opening.Given as goal

-- those of the processes before this one are there
abbrev pub invariant-loop-process : goal.invariant-loop-process
invariant-loop-process l = (l.labels.items ≡ map opening_labels (range_with_len 0 l.process)) × (l.count ≤ vec_capacity l.labels)
