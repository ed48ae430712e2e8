use Rattle.std.proofs.Common.{length}
use borrow.Author.Tests.{le-leb, lt-leb, lt-ltb, le-ltb}
use Rattle.std.specs.Hash.FoldHasher.{read_short, read_u64}
use Rattle.mm_names.proofs.hash.short_word.Goals as goal

pub returns-then-length-ge4 : goal.returns-then-length-ge4
unfolding read_short
returns-then-length-ge4 c = rw (c.half_word.ensures, c.half_word-then-length-ge4.ensures, le-leb 4 (length c.args.name.now) c.if-length-ge4.true)

pub returns-then-length-gt0 : goal.returns-then-length-gt0
unfolding read_short
returns-then-length-gt0 c = rw (lt-leb 4 (length c.args.name.now) c.if-length-ge4.false, lt-ltb 0 (length c.args.name.now) c.if-length-gt0.true)

pub returns-else-length-gt0 : goal.returns-else-length-gt0
unfolding read_short
returns-else-length-gt0 c = rw (lt-leb 4 (length c.args.name.now) c.if-length-ge4.false, le-ltb 0 (length c.args.name.now) c.if-length-gt0.false)

pub returns-then-length-eq8 : goal.returns-then-length-eq8
unfolding read_short read_u64
returns-then-length-eq8 c = rw (c.word.ensures, c.if-length-eq8.true)
