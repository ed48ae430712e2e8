use Rattle.std.proofs.Common.{◌<◌, length, arith}
use Rattle.std.proofs.lemmas.Grind.{common_steps}
use Rattle.std.specs.List.{position_or_len}
use Rattle.mm_lines.specs.Cut.{is_not}
use Rattle.mm_lines.proofs.Lemmas.Words.{words-skip, words-front}
use Rattle.mm_lines.proofs.words.WordsIterator.next.Goals as goal

pub returns-then-is_empty-clause-steps : goal.returns-then-is_empty-clause-steps
returns-then-is_empty-clause-steps c = grind (arith, common_steps, words-skip c.args.self.now.rest.now)

pub returns-clause-steps : goal.returns-clause-steps
returns-clause-steps c =
    let some : position_or_len (is_not 0x20) c.args.self.now.rest.now < length c.args.self.now.rest.now = grind (arith, common_steps) in
    grind (arith, common_steps, words-front _ some)

pub returns-clause-goes : goal.returns-clause-goes
returns-clause-goes c =
    let some : position_or_len (is_not 0x20) c.args.self.now.rest.now < length c.args.self.now.rest.now = grind (arith, common_steps) in
    grind (arith, common_steps, words-front _ some)
