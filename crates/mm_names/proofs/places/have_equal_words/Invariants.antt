use Rattle.std.proofs.Common.{◌≡◌, ◌↔◌, length}
use Rattle.mm_names.proofs.places.have_equal_words.Given as goal

-- what was read of both is equal
abbrev pub invariant-words : goal.invariant-words
invariant-words l = record {
  rest : (l.first ≡ l.second) ↔ (l.fn.first ≡ l.fn.second);
  long : length l.first ≡ length l.second;
}

abbrev pub decreases-words : goal.decreases-words
decreases-words l = length l.first
