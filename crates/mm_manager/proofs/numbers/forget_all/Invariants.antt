use Rattle.std.proofs.Common.{◌≡◌, None, fold, drop}
use Rattle.mm_names.specs.Names.{with_name}
use Rattle.mm_manager.proofs.numbers.forget_all.Given as goal

-- what is left of the numbers leads to the same names as all of them
abbrev pub invariant-loop-number : goal.invariant-loop-number
invariant-loop-number l = record {
  rest : fold (λ t n. with_name t n None) l.names (drop l.number-index l.numbers) ≡ fold (λ t n. with_name t n None) l.initial.names l.numbers;
}
