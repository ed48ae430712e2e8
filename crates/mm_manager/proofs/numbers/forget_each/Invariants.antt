use Rattle.std.proofs.Common.{◌≡◌, fold, drop}
use Rattle.mm_manager.specs.private.Numbers.{forgotten}
use Rattle.mm_manager.proofs.numbers.forget_each.Given as goal

-- what is left of the numbers leads to the same names as all of them
abbrev pub invariant-loop-number : goal.invariant-loop-number
invariant-loop-number l = record {
  rest : fold (forgotten l.table) l.names (drop l.number-index l.numbers) ≡ fold (forgotten l.table) l.initial.names l.numbers;
}
