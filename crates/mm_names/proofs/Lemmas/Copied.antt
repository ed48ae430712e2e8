-- A name that is copied to its place a piece after the other.
use Rattle.std.proofs.Common.{◌≡◌, ◌≤◌, ◌+◌, ◌-◌, ℕ, List, ◌++◌, length, take, drop, ap, sym, ◌∙◌, refl, arith, append_assoc, append-nil}
use Rattle.std.proofs.lemmas.List.{take-append-drop, take-append-le, take-take, take_all, drop-drop, drop_all, length-take-le}
use Rattle.std.proofs.Math.Seq.{take-add, drop-append-add}
use borrow.Rule.Slice.PartMut.{put_mid}

-- the first d bytes of the name, and what follows them in its place
abbrev pub copied : ℕ → List ℕ → List ℕ → List ℕ
copied d name place = take d name ++ drop d place

module _ (name place : List ℕ) (long : length place ≡ length name) where
  -- with the k bytes from `at` on
  pub copied-more : (d at k : ℕ) → d ≤ length name → at ≤ d → d ≤ at + k → put_mid at k (copied d name place) (take k (drop at name)) ≡ copied (at + k) name place
  copied-more d at k within start end =
      let first = take d name in
      let size : length first ≡ d = length-take-le d name within in
      let head : take at (copied d name place) ≡ take at name = take-append-le at first (drop d place) (omega (arith, size)) ∙ take-take at d name start in
      let past : at + k ≡ length first + (at + k - d) = omega (arith, size) in
      let rest : drop k (drop at (copied d name place)) ≡ drop (at + k) place =
      drop-drop k at (copied d name place)
      ∙ ap (λ n. drop n (copied d name place)) past
      ∙ drop-append-add first (drop d place) (at + k - d)
      ∙ drop-drop (at + k - d) d place
      ∙ ap (λ n. drop n place) (omega arith) in
      ap (λ xs. xs ++ (take k (drop at name) ++ drop k (drop at (copied d name place)))) head
      ∙ ap (λ xs. take at name ++ (take k (drop at name) ++ xs)) rest
      ∙ sym (append_assoc (take at name) (take k (drop at name)) (drop (at + k) place))
      ∙ ap (λ xs. xs ++ drop (at + k) place) (sym (take-add at k name))

  pub copied-all : (d : ℕ) → length name ≤ d → copied d name place ≡ name
  copied-all d all =
      ap (λ xs. take d name ++ xs) (drop_all d place (omega (arith, long))) ∙ append-nil (take d name) ∙ take_all d name all

-- what stands there already is written
pub written_again : (xs : List ℕ) (at k : ℕ) → at ≤ length xs → put_mid at k xs (take k (drop at xs)) ≡ xs
written_again xs at k within =
    ap (λ ys. put_mid at k ys (take k (drop at xs))) (sym (take-append-drop at xs))
    ∙ copied-more xs xs refl at at k within (omega arith) (omega arith)
    ∙ take-append-drop (at + k) xs

-- two lists of 8 to 16 bytes are one where their first eight bytes are, and their last eight
pub equal_by_ends : (xs ys : List ℕ) → length ys ≡ length xs → 8 ≤ length xs → length xs ≤ 16
    → take 8 (drop 0 xs) ≡ take 8 (drop 0 ys) → take 8 (drop (length xs - 8) xs) ≡ take 8 (drop (length xs - 8) ys) → xs ≡ ys
equal_by_ends xs ys long least most first last =
    let at = length xs - 8 in
    let begun : ys ≡ copied 8 xs ys =
    sym (written_again ys 0 8 (omega arith)) ∙ ap (put_mid 0 8 ys) (sym first) ∙ copied-more xs ys long 0 0 8 (omega arith) (omega arith) (omega arith) in
    sym (copied-all xs ys long (at + 8) (omega (arith, least)))
    ∙ sym (copied-more xs ys long 8 at 8 (omega (arith, least)) (omega (arith, most)) (omega (arith, least)))
    ∙ ap (λ zs. put_mid at 8 zs (take 8 (drop at xs))) (sym begun)
    ∙ ap (put_mid at 8 ys) last
    ∙ written_again ys at 8 (omega (arith, least, long))
