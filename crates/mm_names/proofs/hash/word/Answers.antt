use Rattle.std.specs.Hash.FoldHasher.{read_u64}
use Rattle.mm_names.proofs.hash.word.Goals as goal

pub returns : goal.returns
unfolding read_u64
returns c = rw (c.half_word.ensures, c.half_word-2.ensures)
