use Rattle.std.proofs.Common.{ℕ, ◌≡◌, ◌+◌, ◌-◌, ◌*◌, ◌/◌, ◌%◌, ◌^◌, length, ap, ◌∙◌, arith}
use Rattle.mm_names.specs.Hash.{after_blocks, steps_of}
use Rattle.mm_names.specs.declared.hash.TheConstants.{LENGTH_FACTOR}
use Rattle.mm_names.proofs.hash.NameHash.of.Goals as goal
use Rattle.mm_names.proofs.hash.NameHash.of.Goals.{then-name-le-BLOCK, else-name-le-BLOCK}

pub returns : goal.returns
unfolding steps_of after_blocks
returns c =
    let name = c.args.name.now in
    let steps : c.if-name-le-BLOCK.words ≡ steps_of c.args.self.now name =
    elim c.if-name-le-BLOCK.branch [
      | then-name-le-BLOCK w ↦
          let none : (length name - 1) / 16 ≡ 0 = omega (arith, w.if-name-le-BLOCK.true) in
          rw none (w.words-is ∙ w.last_step-words.ensures)
      | else-name-le-BLOCK w ↦ w.words-is ∙ w.of_long-words.ensures
    ] in
    ap (λ (s : ℕ). (s + length name * LENGTH_FACTOR % 2 ^ 64) % 2 ^ 64) steps
