use Rattle.std.proofs.Common.{◌≡◌, []}
use Rattle.std.specs.List.{fold}
use Rattle.mm_workload.specs.Shapes.{shape_of}
use Rattle.mm_workload.specs.Storm.{after, with_resource}
use Rattle.mm_workload.proofs.Lemmas.Storm.{given}
use Rattle.mm_workload.proofs.storms.draw.Given as goal

abbrev pub invariant-draws : goal.invariant-draws
invariant-draws l = record {
  steps : l.steps.items ≡ fold with_resource [] (given (shape_of l.shape) l.counter l.initial.words);
  words : l.words ≡ after l.counter l.initial.words;
}
