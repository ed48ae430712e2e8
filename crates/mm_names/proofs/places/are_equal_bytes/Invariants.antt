use Rattle.std.proofs.Common.{◌≡◌, ◌↔◌, length}
use Rattle.mm_names.proofs.places.are_equal_bytes.Given as goal

-- what was read of both is equal
abbrev pub invariant-bytes : goal.invariant-bytes
invariant-bytes l = record {
  rest : (l.first ≡ l.second) ↔ (l.fn.first ≡ l.fn.second);
  long : length l.first ≡ length l.second;
}

abbrev pub decreases-bytes : goal.decreases-bytes
decreases-bytes l = length l.first
