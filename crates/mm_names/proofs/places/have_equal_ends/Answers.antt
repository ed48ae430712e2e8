use Rattle.std.proofs.Common.{◌-◌, length, take, drop, ap, sym}
use Rattle.mm_names.proofs.Lemmas.Copied.{equal_by_ends}
use Rattle.mm_names.proofs.places.have_equal_ends.Goals as goal

pub returns-then-have_equal_word : goal.returns-then-have_equal_word
returns-then-have_equal_word c = (
  λ is. equal_by_ends c.args.first.now c.args.second.now (sym c.requires.same_length) c.requires.long c.requires.short
      (c.have_equal_word.ensures.0 c.if-have_equal_word.true) (c.have_equal_word-then-have_equal_word.ensures.0 is),
  λ same. c.have_equal_word-then-have_equal_word.ensures.1 (ap (λ xs. take 8 (drop (length c.args.first.now - 8) xs)) same),
)
