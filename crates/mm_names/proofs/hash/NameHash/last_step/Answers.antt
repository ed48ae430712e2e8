use Rattle.std.proofs.Common.{length}
use borrow.Author.Tests.{lt-ltb, le-ltb}
use Rattle.mm_names.specs.Hash.{last_step}
use Rattle.mm_names.proofs.hash.NameHash.last_step.Goals as goal

pub returns-then-rest-gt8 : goal.returns-then-rest-gt8
unfolding last_step
returns-then-rest-gt8 c = rw (lt-ltb 8 (length c.args.rest.now) c.if-rest-gt8.true, c.folded.ensures, c.word.ensures, c.word-then-rest-gt8.ensures)

pub returns-else-rest-gt8 : goal.returns-else-rest-gt8
unfolding last_step
returns-else-rest-gt8 c = rw (le-ltb 8 (length c.args.rest.now) c.if-rest-gt8.false, c.folded-else-rest-gt8.ensures, c.short_word.ensures)
