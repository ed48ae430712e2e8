-- What a line says: `C REQUEST`, the request of connection C, or `- C`, that connection C has hung up.
use Rattle.std.specs.Prelude.{ℕ, ◌-◌, ◌^◌, ◌||◌, Bool, not, List, [], length, Option, Some, None, codes, nat_lt, nat_eq, slice_index, if◌then◌else◌}
use Rattle.std.specs.List.{position_or_len, before_first, after_first}
use Rattle.std.specs.Str.{bytes_eq}
use Rattle.std.specs.Str.Lines.{strip_carriage_return}
use Rattle.mm_lines.specs.Cut.{is}
use Rattle.mm_lines.specs.Words.{◌>>=◌, number_at_most}
use Rattle.mm_service.specs.Line.{max_request, request_line}
use Rattle.mm_service.specs.declared.line.Line.{Line}
use Rattle.mm_service.specs.declared.line.Line.TheVariants as kind
use Rattle.mm_connections.specs.Forms.{further_of}
use Rattle.mm_connections.specs.Request.{AskedByClient, client_asked}
use Rattle.mm_connections.specs.declared.line.Said.{Said}
use Rattle.mm_connections.specs.declared.line.Said.TheVariants.{Nobody, Malformed, HangsUp, Asks}

-- what a line says, and the bytes that its request is about: its one name, or the whole request if it is about several
pub record NamedSaid : Type 0 where
  pub said : Said
  pub name : List ℕ

abbrev pub nameless : Said → NamedSaid
nameless said = record { said = said; name = [] }

-- no zero stands in front
abbrev pub is_plain : List ℕ → Bool
is_plain word = nat_eq (length word) 1 || not (nat_eq (slice_index word 0) 0x30)

abbrev pub below : ℕ → ℕ → Option ℕ
below connections c = if nat_lt c connections then Some c else None

-- the number of a connection that these bytes spell
abbrev pub number_in : ℕ → List ℕ → Option ℕ
number_in connections word = if is_plain word then number_at_most (2 ^ 32 - 1) word >>= below connections else None

abbrev pub asks : ℕ → AskedByClient → NamedSaid
asks c asked = record { said = Asks c asked.request; name = asked.about }

-- by a request that only connections have, if it is one; each line has a reply, also one without a word and a comment
abbrev pub asks_further : ℕ → Option AskedByClient → NamedSaid
asks_further c None = nameless (Malformed c)
asks_further c (Some asked) = asks c asked

-- by what the line is without connections, and by its bytes
abbrev pub said_by : ℕ → Line → List ℕ → List ℕ → NamedSaid
said_by c kind.Silent name rest = nameless (Malformed c)
said_by c kind.Malformed name rest = asks_further c (if nat_lt max_request (length rest) then None else further_of rest)
said_by c (kind.Request request) name rest = asks c (client_asked request name)

abbrev pub asked_by : Option ℕ → List ℕ → NamedSaid
asked_by None rest = nameless Nobody
asked_by (Some c) rest = said_by c (request_line rest).line (request_line rest).name rest

abbrev pub hung_up_by : Option ℕ → NamedSaid
hung_up_by None = nameless Nobody
hung_up_by (Some c) = nameless (HangsUp c)

-- what stands before the first space, and what stands after it
abbrev pub said_of_parts : ℕ → List ℕ → List ℕ → NamedSaid
said_of_parts connections head rest =
    if bytes_eq head (codes "-") then hung_up_by (number_in connections rest) else asked_by (number_in connections head) rest

-- the longest request, a number of five digits and a space
abbrev pub max_said : ℕ
max_said = 1054

-- a line without its newline and its carriage return
abbrev pub said_line : ℕ → List ℕ → NamedSaid
said_line connections line =
    if nat_lt max_said (length line) then nameless Nobody
    else (if nat_lt (position_or_len (is 0x20) line) (length line) then said_of_parts connections (before_first (is 0x20) line) (after_first (is 0x20) line) else nameless Nobody)

-- a line without its newline; one carriage return at its end is dropped
abbrev pub said_of : ℕ → List ℕ → NamedSaid
said_of connections bytes = said_line connections (strip_carriage_return bytes)
