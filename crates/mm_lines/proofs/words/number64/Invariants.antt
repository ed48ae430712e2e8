use Rattle.std.proofs.Common.{◌≡◌, ◌<◌, ◌^◌, drop}
use Rattle.std.specs.Str.{all_ascii_digits}
use Rattle.std.specs.Str.Parse.{digits_value, digits_value_after}
use Rattle.mm_lines.proofs.words.number64.Given as goal

-- the digits so far are digits, and the rest goes on from their number
abbrev pub invariant-loop-digit : goal.invariant-loop-digit
invariant-loop-digit l = record {
  digits : all_ascii_digits l.word ≡ all_ascii_digits (drop l.digit-index l.word);
  number : digits_value 10 l.word ≡ digits_value_after 10 l.number (drop l.digit-index l.word);
  fits : l.number < 2 ^ 64;
}
