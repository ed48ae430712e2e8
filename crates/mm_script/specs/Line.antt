-- What a line is.
use Rattle.std.specs.Prelude.{ℕ, Bool, true, false, List, [], ◌∷◌, length, nat_eq, nat_lt, slice_index, if◌then◌else◌}
use Rattle.std.specs.Option.{option_map_or}
use Rattle.std.specs.Str.Lines.{strip_carriage_return}
use Rattle.mm_script.specs.Forms.{call_of}
use Rattle.mm_lines.specs.Words.{words_of}
use Rattle.mm_script.specs.declared.line.Line.{Line}
use Rattle.mm_script.specs.declared.line.Line.TheVariants as kind

-- a line of these words
abbrev pub line_of_words : List (List ℕ) → Line
line_of_words [] = kind.Silent
line_of_words (word ∷ arguments) =
    if nat_eq (slice_index word 0) 0x23 then kind.Silent
    else option_map_or kind.Call (call_of word arguments) kind.Malformed

-- a line without its newline; one carriage return at its end is dropped
abbrev pub line_of : List ℕ → Line
line_of bytes =
    if nat_lt 128 (length bytes) then kind.Malformed
    else line_of_words (words_of (strip_carriage_return bytes))

-- the line is not in the language
abbrev pub is_malformed : Line → Bool
is_malformed kind.Malformed = true
is_malformed kind.Silent = false
is_malformed (kind.Call call) = false
