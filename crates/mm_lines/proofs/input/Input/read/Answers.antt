use Rattle.std.proofs.Common.{arith}
use Rattle.std.proofs.lemmas.Grind.{common_steps}
use Rattle.mm_lines.proofs.input.Input.read.Goals as goal

pub slice_bounds-piece-end-in-Ok : goal.slice_bounds-piece-end-in-Ok
slice_bounds-piece-end-in-Ok g c = grind (arith, common_steps)

pub slice_bounds-try_extend_from_slice-end : goal.slice_bounds-try_extend_from_slice-end
slice_bounds-try_extend_from_slice-end g c = grind (arith, common_steps)

pub overflow_add-self : goal.overflow_add-self
overflow_add-self g c = grind (arith, common_steps)
