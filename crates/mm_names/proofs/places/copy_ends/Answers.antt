use Rattle.std.proofs.Common.{◌-◌, ◌+◌, length, take, drop, ap, ◌∙◌, arith}
use borrow.Rule.Slice.PartMut.{put_mid}
use Rattle.mm_names.proofs.Lemmas.Copied.{copied-more, copied-all}
use Rattle.mm_names.proofs.places.copy_ends.Goals as goal

pub returns : goal.returns
returns c =
    let name = c.args.name.now in
    let at = length name - 8 in
    c.copy_word-2.ensures
    ∙ ap (λ xs. put_mid at 8 xs (take 8 (drop at name)))
    (c.copy_word.ensures ∙ copied-more name c.args.place.now c.requires.place 0 0 8 (omega arith) (omega arith) (omega arith))
    ∙ copied-more name c.args.place.now c.requires.place 8 at 8 (omega (arith, c.requires.long)) (omega (arith, c.requires.short)) (omega (arith, c.requires.long))
    ∙ copied-all name c.args.place.now c.requires.place (at + 8) (omega (arith, c.requires.long))
