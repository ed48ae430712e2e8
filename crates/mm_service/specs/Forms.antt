-- The request that the words of a line make.
use Rattle.std.specs.Prelude.{ℕ, Bool, ◌&&◌, ◌||◌, List, [], ◌∷◌, length, Option, Some, None, nat_le, if◌then◌else◌, option_map}
use Rattle.std.specs.List.{list_all}
use Rattle.std.specs.Map.{lookup}
use Rattle.std.specs.Str.{bytes_eq}
use Rattle.mm_arena.specs.declared.key.Key.{Key}
use Rattle.mm_limits.specs.declared.TheConstants.{MAX_NAME_BYTES}
use Rattle.mm_lines.specs.Words.{◌>>=◌, key_of}
use Rattle.mm_service.specs.declared.line.Request.{Request}
use Rattle.mm_service.specs.declared.line.Request.TheVariants as requests
use Rattle.mm_service.specs.Words.{words}
use Rattle.mm_service.specs.declared.requests.Form.{Form}
use Rattle.mm_service.specs.declared.requests.Form.TheVariants as forms

-- a request, and the name that it is about
pub record AskedFor : Type 0 where
  pub request : Request
  pub name : List ℕ

-- from ! to ~, or 80 and above
abbrev pub is_name_byte : ℕ → Bool
is_name_byte b = (nat_le 0x21 b && nat_le b 0x7e) || nat_le 0x80 b

-- this many such bytes at most
abbrev pub name_of_word : List ℕ → Option (List ℕ)
name_of_word word = if nat_le (length word) MAX_NAME_BYTES && list_all is_name_byte word then Some word else None

-- nothing: this request
abbrev pub alone : Request → List (List ℕ) → Option AskedFor
alone request [] = Some (record { request = request; name = [] })
alone _ _ = None

-- K: this request of a key
abbrev pub with_key : (Key → Request) → List (List ℕ) → Option AskedFor
with_key request (k ∷ []) = option_map (λ key. record { request = request key; name = [] }) (key_of k)
with_key _ _ = None

-- NAME: this request of a name
abbrev pub with_name : Request → List (List ℕ) → Option AskedFor
with_name request (n ∷ []) = option_map (λ name. record { request = request; name = name }) (name_of_word n)
with_name _ _ = None

-- K NAME: this request of a key and a name
abbrev pub with_key_and_name : (Key → Request) → List (List ℕ) → Option AskedFor
with_key_and_name request (k ∷ n ∷ []) = do
  key ← key_of k
  name ← name_of_word n
  Some (record { request = request key; name = name })
with_key_and_name _ _ = None

-- K: this request of a key, about no name; K FROM: about what comes after this name
abbrev pub with_key_from : (Key → Request) → List (List ℕ) → Option AskedFor
with_key_from request (k ∷ []) = with_key request (k ∷ [])
with_key_from request words = with_key_and_name request words

-- the request that a form makes of the words behind its word
abbrev pub request_by : Form → List (List ℕ) → Option AskedFor
request_by forms.Begin = alone requests.Begin
request_by (forms.Key request) = with_key (requests.OfKey request)
request_by forms.Holds = with_key_from requests.Holds
request_by (forms.KeyAndName request) = with_key_and_name (requests.OfName request)
request_by forms.Owner = with_name requests.Owner
request_by forms.Graph = alone requests.Graph
request_by forms.Totals = alone requests.Totals

-- the request that a word makes with these arguments
abbrev pub request_of : List ℕ → List (List ℕ) → Option AskedFor
request_of word arguments = do
  form ← lookup (bytes_eq word) words
  request_by form arguments
