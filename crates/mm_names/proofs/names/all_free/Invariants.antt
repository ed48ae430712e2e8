use Rattle.std.proofs.Common.{◌≡◌, ◌↔◌, ◌≤◌, ◌<◌, ◌+◌, ℕ, length, vec_capacity}
use Rattle.mm_lists.specs.Members.{Among, NoRepeat}
use Rattle.mm_names.proofs.names.all_free.Given as goal

-- those from `left` on are listed
abbrev pub invariant-free : goal.invariant-free
invariant-free l = record {
  all : (n : ℕ) → Among n l.free.items ↔ ((l.left ≤ n) × (n < l.numbers));
  once : NoRepeat l.free.items;
  count : length l.free.items + l.left ≡ l.numbers;
  room : l.numbers ≤ vec_capacity l.free;
}

abbrev pub decreases-free : goal.decreases-free
decreases-free l = l.left
