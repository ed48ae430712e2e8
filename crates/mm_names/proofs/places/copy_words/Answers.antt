use Rattle.std.proofs.Common.{◌-◌, ◌+◌, length, take, drop, ap, ◌∙◌, arith}
use borrow.Rule.Slice.PartMut.{put_mid}
use Rattle.mm_names.proofs.Lemmas.Copied.{copied-more, copied-all}
use Rattle.mm_names.proofs.places.copy_words.Goals as goal

pub words-preserved : goal.words-preserved
words-preserved c =
    let name = c.args.name.now in
    let done = c.words.done in
    record {
      place = c.copy_word.ensures
          ∙ ap (λ xs. put_mid done 8 xs (take 8 (drop done name))) c.words.invariant.place
          ∙ copied-more name c.args.place.now c.requires.place done done 8 c.words.invariant.within (omega arith) (omega arith);
      within = omega (arith, c.words-test.true);
    }

pub returns-then-done-name : goal.returns-then-done-name
returns-then-done-name c =
    let name = c.args.name.now in
    let at = length name - 8 in
    c.copy_word-then-done-name.ensures
    ∙ ap (λ xs. put_mid at 8 xs (take 8 (drop at name))) c.words.invariant.place
    ∙ copied-more name c.args.place.now c.requires.place c.words.done at 8 c.words.invariant.within (omega (arith, c.words-test.false, c.requires.long)) (omega (arith, c.words-test.false, c.words.invariant.within))
    ∙ copied-all name c.args.place.now c.requires.place (at + 8) (omega (arith, c.requires.long))
