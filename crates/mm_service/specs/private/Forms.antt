-- What the contracts of private functions say of the forms of requests.
use Rattle.std.specs.Prelude.{ℕ, List, [], ◌∷◌, Option, Some, None}
use Rattle.mm_lines.specs.Words.{◌>>=◌}
use Rattle.mm_service.specs.Forms.{AskedFor, name_of_word}
use Rattle.mm_service.specs.declared.line.Asked.{Asked}

-- a request, and the bytes of the name that it is about
abbrev pub asked_for : Asked → AskedFor
asked_for asked = record { request = asked.request; name = asked.name.now }

-- if no words are left, this
abbrev pub where_none_left : AskedFor → List (List ℕ) → Option AskedFor
where_none_left asked [] = Some asked
where_none_left asked _ = None

-- the request that those words make of which a front was read to this request, if to any, and these are left
abbrev pub request_before : Option AskedFor → List (List ℕ) → Option AskedFor
request_before read left = do
  asked ← read
  where_none_left asked left

-- the name that the first word is, or no bytes if there is no word
abbrev pub name_if_any : List (List ℕ) → Option (List ℕ)
name_if_any [] = Some []
name_if_any (word ∷ words) = name_of_word word
