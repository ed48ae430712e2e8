use Rattle.std.proofs.Common.{◌≡◌, drop}
use Rattle.mm_lines.specs.WordsLeft.{words_left}
use Rattle.mm_connections.proofs.names.skip_words.Given as goal

-- as many words are taken as the loop has made turns
abbrev pub invariant-word : goal.invariant-word
invariant-word l = words_left l.words ≡ drop l.counter (words_left l.initial.words)
