-- A word of a line is no longer than the line, and the name that a request is about is no longer than a request.
use Rattle.std.proofs.Common.{◌&&◌, ◌≤◌, ℕ, zero, suc, Bool, List, [], ◌∷◌, length, drop, filter, slice_index_or, Option, Some, None, option_map, slice_index, nat_eq, nat_le, nat_lt, inl, inr, arith}
use Rattle.std.specs.Prelude.{⊤}
use Rattle.std.specs.List.{list_all, onto_first, slice_split}
use Rattle.std.specs.Map.{lookup}
use Rattle.std.specs.Str.{bytes_eq}
use Rattle.std.proofs.lemmas.Bool.{and_parts, cases_Bool, leb-true}
use Rattle.mm_arena.specs.declared.key.Key.{Key}
use Rattle.mm_limits.specs.declared.TheConstants.{MAX_NAME_BYTES}
use Rattle.mm_lines.specs.Cut.{is}
use Rattle.mm_lines.specs.Words.{◌>>=◌, is_word, key_of, words_of}
use Rattle.mm_service.specs.Forms.{AskedFor, is_name_byte, name_of_word, request_by, request_of}
use Rattle.mm_service.specs.Line.{line_by, line_of_words, request_line}
use Rattle.mm_service.specs.Words.{words}
use Rattle.mm_service.specs.declared.line.Request.{Request}
use Rattle.mm_service.specs.declared.line.Request.TheVariants as requests
use Rattle.mm_service.specs.declared.requests.Form.{Form}
use Rattle.mm_service.specs.declared.requests.Form.TheVariants as forms

-- ---- the words of a line

-- none has more than n bytes
abbrev AreShort : ℕ → List (List ℕ) → Type 0
AreShort n [] = ⊤
AreShort n (word ∷ others) = (length word ≤ n) × AreShort n others

weaker : (m n : ℕ) (others : List (List ℕ)) → m ≤ n → AreShort m others → AreShort n others
weaker m n [] below short = tt
weaker m n (word ∷ others) below short = (omega (arith, below, short.0), weaker m n others below short.1)

longer : (x n : ℕ) (others : List (List ℕ)) → AreShort n others → AreShort (suc n) (onto_first x others)
longer x n [] short = (omega arith, tt)
longer x n (word ∷ others) short = (omega (arith, short.0), weaker n (suc n) others (omega arith) short.1)

pieces_short : (p : ℕ → Bool) (line : List ℕ) → AreShort (length line) (slice_split p line)
pieces_short p [] = (omega arith, tt)
pieces_short p (x ∷ line) = elim (cases_Bool (p x)) [
  | inl cut ↦ rw cut (omega arith, weaker (length line) (suc (length line)) (slice_split p line) (omega arith) (pieces_short p line))
  | inr on ↦ rw on (longer x (length line) (slice_split p line) (pieces_short p line))
]

passed_short : (p : List ℕ → Bool) (n : ℕ) (others : List (List ℕ)) → AreShort n others → AreShort n (filter p others)
passed_short p n [] short = tt
passed_short p n (word ∷ others) short = elim (cases_Bool (p word)) [
  | inl passed ↦ rw passed (short.0, passed_short p n others short.1)
  | inr failed ↦ rw failed (passed_short p n others short.1)
]

dropped_short : (n count : ℕ) (others : List (List ℕ)) → AreShort n others → AreShort n (drop count others)
dropped_short n zero others short = short
dropped_short n (suc count) [] short = tt
dropped_short n (suc count) (word ∷ others) short = dropped_short n count others short.1

one_short : (n place : ℕ) (others : List (List ℕ)) → AreShort n others → length (slice_index_or others place []) ≤ n
one_short n place [] short = omega arith
one_short n zero (word ∷ others) short = short.0
one_short n (suc place) (word ∷ others) short = one_short n place others short.1

pub word_short : (line : List ℕ) (passed place : ℕ) → length (slice_index_or (drop passed (words_of line)) place []) ≤ length line
word_short line passed place =
    one_short (length line) place (drop passed (words_of line))
    (dropped_short (length line) passed (words_of line) (passed_short is_word (length line) (slice_split (is 0x20) line) (pieces_short (is 0x20) line)))

-- ---- the name of a request

abbrev IsShortName : Option (List ℕ) → Type 0
IsShortName None = ⊤
IsShortName (Some name) = length name ≤ 1024

abbrev IsShortAsked : Option AskedFor → Type 0
IsShortAsked None = ⊤
IsShortAsked (Some asked) = length asked.name ≤ 1024

name_short : (word : List ℕ) → IsShortName (name_of_word word)
name_short word = elim (cases_Bool (nat_le (length word) MAX_NAME_BYTES && list_all is_name_byte word)) [
  | inl can ↦ rw can (leb-true (length word) 1024 (and_parts (nat_le (length word) 1024) (list_all is_name_byte word) can).0)
  | inr cannot ↦ rw cannot tt
]

-- where nothing is spelled, nothing is asked
bind_asked : {A : Type 0} (o : Option A) (f : A → Option AskedFor) → ((a : A) → IsShortAsked (f a)) → IsShortAsked (o >>= f)
bind_asked None f short = tt
bind_asked (Some a) f short = short a

key_asked : (o : Option Key) (request : Key → Request) → IsShortAsked (option_map (λ (key : Key). record { request = request key; name = [] }) o)
key_asked None request = tt
key_asked (Some key) request = omega arith

name_asked : (o : Option (List ℕ)) (request : Request) → IsShortName o → IsShortAsked (option_map (λ (name : List ℕ). record { request = request; name = name }) o)
name_asked None request short = tt
name_asked (Some name) request short = short

name_bound : (o : Option (List ℕ)) (request : Request) → IsShortName o → IsShortAsked (o >>= λ name. Some (record { request = request; name = name }))
name_bound None request short = tt
name_bound (Some name) request short = short

form_short : (form : Form) (arguments : List (List ℕ)) → IsShortAsked (request_by form arguments)
form_short forms.Begin [] = omega arith
form_short forms.Begin (word ∷ others) = tt
form_short (forms.Key request) [] = tt
form_short (forms.Key request) (k ∷ []) = key_asked (key_of k) (requests.OfKey request)
form_short (forms.Key request) (k ∷ word ∷ others) = tt
form_short forms.Holds [] = tt
form_short forms.Holds (k ∷ []) = key_asked (key_of k) requests.Holds
form_short forms.Holds (k ∷ n ∷ []) =
    bind_asked (key_of k) (λ key. name_of_word n >>= λ name. Some (record { request = requests.Holds key; name = name })) (λ key. name_bound (name_of_word n) (requests.Holds key) (name_short n))
form_short forms.Holds (k ∷ n ∷ word ∷ others) = tt
form_short (forms.KeyAndName request) [] = tt
form_short (forms.KeyAndName request) (k ∷ []) = tt
form_short (forms.KeyAndName request) (k ∷ n ∷ []) =
    bind_asked (key_of k) (λ key. name_of_word n >>= λ name. Some (record { request = requests.OfName request key; name = name })) (λ key. name_bound (name_of_word n) (requests.OfName request key) (name_short n))
form_short (forms.KeyAndName request) (k ∷ n ∷ word ∷ others) = tt
form_short forms.Owner [] = tt
form_short forms.Owner (n ∷ []) = name_asked (name_of_word n) requests.Owner (name_short n)
form_short forms.Owner (n ∷ word ∷ others) = tt
form_short forms.Graph [] = omega arith
form_short forms.Graph (word ∷ others) = tt
form_short forms.Totals [] = omega arith
form_short forms.Totals (word ∷ others) = tt

by_short : (o : Option AskedFor) → IsShortAsked o → length (line_by o).name ≤ 1024
by_short None short = omega arith
by_short (Some asked) short = short

line_short : (line : List (List ℕ)) → length (line_of_words line).name ≤ 1024
line_short [] = omega arith
line_short (word ∷ arguments) = elim (cases_Bool (nat_eq (slice_index word 0) 0x23)) [
  | inl comment ↦ rw comment (omega arith)
  | inr other ↦
      rw other (by_short (request_of word arguments) (bind_asked (lookup (bytes_eq word) words) (λ form. request_by form arguments) (λ form. form_short form arguments)))
]

pub request_short : (line : List ℕ) → length (request_line line).name ≤ 1024
request_short line = elim (cases_Bool (nat_lt 1048 (length line))) [ inl long ↦ rw long (omega arith) | inr short ↦ rw short (line_short (words_of line)) ]
