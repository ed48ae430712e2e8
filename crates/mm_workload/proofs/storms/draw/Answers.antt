use Rattle.std.proofs.Common.{◌≡◌, refl, arith, ◌+◌, ◌%◌}
use Rattle.mm_workload.specs.Shapes.{shape_of}
use Rattle.mm_workload.specs.Storm.{after, words}
use Rattle.mm_workload.proofs.Lemmas.Storm.{after-more, steps-more, client-is, after-client}
use Rattle.mm_workload.proofs.storms.draw.Goals as goal

pub draws-init : goal.draws-init
unfolding after words
draws-init c = record { steps = c.requires.empty; words = refl }

pub draws-preserved : goal.draws-preserved
draws-preserved c =
    let n = c.draws.counter in
    let g = c.next_word.new.self in
    let word = c.next_word-in-draws.result in
    let left = c.next_word-in-draws.new.self in
    let at = c.draws.invariant.words in
    let step = c.next_word-in-draws.ensures in
    record {
      steps = steps-more (shape_of c.args.shape.now) n g c.draws.words left word c.draws.steps.items _ at step c.draws.invariant.steps c.in_ok-acquire.ensures;
      words = after-more n g c.draws.words left word at step;
    }

pub returns-clause-steps : goal.returns-clause-steps
returns-clause-steps c =
    let last : c.draws.counter ≡ 1 + c.next_word.result % c.args.shape.now.acquires = omega arith in
    client-is (shape_of c.args.shape.now) c.draws.counter c.args.words.now c.next_word.new.self c.next_word.result _ c.next_word.ensures last c.draws.invariant.steps

pub returns-clause-words : goal.returns-clause-words
returns-clause-words c =
    let last : c.draws.counter ≡ 1 + c.next_word.result % c.args.shape.now.acquires = omega arith in
    after-client (shape_of c.args.shape.now) c.draws.counter c.args.words.now c.next_word.new.self c.draws.words c.next_word.result c.next_word.ensures last c.draws.invariant.words
