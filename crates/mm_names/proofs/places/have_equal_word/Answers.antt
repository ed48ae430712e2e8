use Rattle.std.proofs.Common.{◌≡◌, ◌≤◌, ◌↔◌, ◌+◌, ◌-◌, ℕ, Bool, IsTrue, List, length, take, drop, nat_eq, arith}
use Rattle.std.specs.Cmp.Lexicographic.{pointwise}
use Rattle.std.proofs.lemmas.Grind.{common_steps}
use Rattle.mm_names.proofs.places.have_equal_word.Goals as goal

same_words : (first second word other : List ℕ) (at : ℕ) (same : Bool) → at + 8 ≤ length first → at + 8 ≤ length second → same ≡ pointwise nat_eq word other →
    word ≡ take 8 (take (length first - at) (drop at first)) → other ≡ take 8 (take (length second - at) (drop at second)) →
    IsTrue same ↔ (take 8 (drop at first) ≡ take 8 (drop at second))
same_words first second word other at same within within' is a b = grind (arith, common_steps)

pub returns : goal.returns
returns c =
    same_words c.args.first.now c.args.second.now c.in-Some-Some.word.now c.in-Some-Some.other.now c.args.at c.eq.result c.requires.first c.requires.second c.eq.ensures
    c.in-Some-Some.ensures.cases.same c.in-Some-Some.ensures'.cases.same
