use Rattle.std.proofs.Common.{◌≡◌, ◌+◌, ◌-◌, ◌<◌, ℕ, List, take, drop, slice_index, arith, ap, refl, ◌∙◌}
use Rattle.std.proofs.lemmas.List.{get_or-take, get_or-drop}
use Rattle.std.specs.Hash.FoldHasher.{read_u32}
use Rattle.mm_names.proofs.hash.half_word.Goals as goal

-- a byte of the four is one of the name
byte : (name : List ℕ) (at place here : ℕ) → place < 4 → at + place ≡ here → slice_index (take 4 (drop at name)) place ≡ slice_index name here
byte name at place here within is = get_or-take 4 (drop at name) place _ within ∙ get_or-drop at name place _ ∙ ap (slice_index name) is

pub returns : goal.returns
unfolding read_u32
returns c =
    let name = c.args.name.now in
    let at = c.args.at in
    let long : at + 4 - at ≡ 4 = omega arith in
    let four : c.copy_from_slice.new.self ≡ take 4 (drop at name) = c.copy_from_slice.ensures.after ∙ ap (λ n. take n (drop at name)) long in
    rw (
      c.from_le_bytes.ensures,
      four,
      byte name at 0 at (omega arith) (omega arith),
      byte name at 1 (at + 1) (omega arith) (omega arith),
      byte name at 2 (at + 2) (omega arith) (omega arith),
      byte name at 3 (at + 3) (omega arith) (omega arith),
    ) refl
