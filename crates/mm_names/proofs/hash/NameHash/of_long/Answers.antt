use Rattle.std.proofs.Common.{◌≡◌, ◌-◌, ◌*◌, ◌/◌, length, take, drop, refl, ap, ◌∙◌, arith, add-one}
use Rattle.std.proofs.lemmas.List.{take_all, length-drop}
use Rattle.mm_names.specs.Hash.{after_blocks, last_step, steps_of}
use Rattle.mm_names.proofs.hash.NameHash.of_long.Goals as goal

pub loop-block-init : goal.loop-block-init
unfolding after_blocks
loop-block-init c = refl

pub loop-block-preserved : goal.loop-block-preserved
unfolding after_blocks
loop-block-preserved c =
    rw (add-one c.loop-block.block, c.folded-state.ensures, c.word.ensures, c.word-in-loop-block.ensures, c.loop-block.invariant)

pub returns : goal.returns
unfolding steps_of
returns c =
    let h = c.args.self.now in
    let name = c.args.name.now in
    let n = (length name - 1) / 16 in
    let end : c.loop-block.block ≡ n = omega arith in
    let state : c.loop-block.state ≡ after_blocks h name n = c.loop-block.invariant ∙ ap (after_blocks h name) end in
    c.last_step.ensures
    ∙ ap (λ s. last_step h s (take (length name - 16 * n) (drop (16 * n) name))) state
    ∙ ap (last_step h (after_blocks h name n)) (take_all (length name - 16 * n) (drop (16 * n) name) (omega (arith, length-drop (16 * n) name)))
