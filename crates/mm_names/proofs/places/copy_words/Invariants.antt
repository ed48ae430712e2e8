use Rattle.std.proofs.Common.{◌≡◌, ◌≤◌, ◌-◌, length}
use Rattle.mm_names.proofs.Lemmas.Copied.{copied}
use Rattle.mm_names.proofs.places.copy_words.Given as goal

-- so many bytes are copied
abbrev pub invariant-words : goal.invariant-words
invariant-words l = record {
  place : l.place ≡ copied l.done l.name l.fn.place;
  within : l.done ≤ length l.name;
}

abbrev pub decreases-words : goal.decreases-words
decreases-words l = length l.name - l.done
