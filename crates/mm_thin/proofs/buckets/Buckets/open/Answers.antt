use Rattle.std.proofs.Common.{◌≡◌, ℕ, List, length, ap, subst, ◌∙◌, arith}
use Rattle.std.proofs.Math.ListN.{replicate}
use Rattle.std.specs.Prelude.{slice_index}
use Rattle.std.proofs.lemmas.List.{get_or-replicate}
use Rattle.atomic_table.specs.Table.{opening}
use Rattle.mm_thin.specs.declared.views.Part.{Part}
use Rattle.mm_thin.specs.Rule.{IsKept}
use Rattle.mm_thin.specs.Parts.{AreFree}
use Rattle.mm_thin.proofs.Keeps.{opens}
use Rattle.mm_thin.proofs.buckets.Buckets.open.Goals as goal

zeros_free : (count : ℕ) (words : List ℕ) → words ≡ replicate count 0 → length words ≡ count → AreFree words
zeros_free count words is size b inside = ap (λ ws. slice_index ws b) is ∙ get_or-replicate count b 0 0 (omega arith)

pub new-requires : goal.new-requires
new-requires c =
    let z = c.in_ok-zeros.ensures in
    let words = c.as_slice.result.now in
    let zeros = c.as_slice.ensures.value ∙ z.items_if_clones_equal (λ y is. is) in
    let size = c.as_slice.ensures.len ∙ z.len in
    subst (λ n. IsKept n (opening {V = List Part} words c.in_ok-blanks.blanks.items _)) size (opens words c.in_ok-blanks.blanks.items (zeros_free c.buckets-count.result words zeros size))
