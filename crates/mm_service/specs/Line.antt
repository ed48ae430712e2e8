-- What a line is.
use Rattle.std.specs.Prelude.{ℕ, List, [], ◌∷◌, length, Option, Some, None, nat_eq, nat_lt, slice_index, if◌then◌else◌}
use Rattle.std.specs.Str.Lines.{strip_carriage_return}
use Rattle.mm_lines.specs.Words.{words_of}
use Rattle.mm_service.specs.Forms.{AskedFor, request_of}
use Rattle.mm_service.specs.declared.line.Line.{Line}
use Rattle.mm_service.specs.declared.line.Line.TheVariants as kind

-- a line, and the name that its request is about
pub record NamedLine : Type 0 where
  pub line : Line
  pub name : List ℕ

abbrev pub nameless : Line → NamedLine
nameless line = record { line = line; name = [] }

-- a line that makes this request, if any
abbrev pub line_by : Option AskedFor → NamedLine
line_by None = nameless kind.Malformed
line_by (Some asked) = record { line = kind.Request asked.request; name = asked.name }

-- a line of these words
abbrev pub line_of_words : List (List ℕ) → NamedLine
line_of_words [] = nameless kind.Silent
line_of_words (word ∷ arguments) =
    if nat_eq (slice_index word 0) 0x23 then nameless kind.Silent
    else line_by (request_of word arguments)

-- the longest request in bytes: `unlock`, a key of 16 bytes, a name of 1,024, and two spaces
abbrev pub max_request : ℕ
max_request = 1048

-- a line without its newline and its carriage return
abbrev pub request_line : List ℕ → NamedLine
request_line line = if nat_lt max_request (length line) then nameless kind.Malformed else line_of_words (words_of line)

-- a line without its newline; one carriage return at its end is dropped
abbrev pub line_of : List ℕ → NamedLine
line_of bytes = request_line (strip_carriage_return bytes)
