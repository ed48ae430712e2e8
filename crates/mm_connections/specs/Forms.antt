-- The requests that only a service with connections has.
use Rattle.std.specs.Prelude.{ℕ, Bool, true, false, ◌&&◌, List, [], ◌∷◌, length, Option, Some, None, codes, nat_le, if◌then◌else◌}
use Rattle.std.specs.List.{list_all}
use Rattle.std.specs.Map.{lookup}
use Rattle.std.specs.Str.{bytes_eq}
use Rattle.mm_limits.specs.declared.TheConstants.{MAX_NAME_BYTES}
use Rattle.mm_lines.specs.Words.{◌>>=◌, key_of, words_of}
use Rattle.mm_service.specs.Forms.{is_name_byte}
use Rattle.mm_connections.specs.declared.forms.FurtherForm.{FurtherForm}
use Rattle.mm_connections.specs.declared.forms.FurtherForm.TheVariants as forms
use Rattle.mm_connections.specs.declared.request.ClientRequest.{ClientRequest}
use Rattle.mm_connections.specs.declared.request.ClientRequest.TheVariants as requests
use Rattle.mm_connections.specs.Request.{AskedByClient}
use Rattle.mm_connections.specs.declared.request.ReadRequest.{ReadRequest}
use Rattle.mm_connections.specs.declared.request.ReadRequest.TheVariants as reads

-- each word that asks so, in the order of the pages
abbrev pub further_words : List (List ℕ × FurtherForm)
further_words =
    (codes "begin", forms.Begin)
    ∷ (codes "lock", forms.Lock)
    ∷ (codes "fence", forms.Fence)
    ∷ (codes "hello", forms.Hello)
    ∷ (codes "list", forms.List)
    ∷ (codes "counts", forms.Counts)
    ∷ []

-- the word can be a name
abbrev pub is_name : List ℕ → Bool
is_name word = nat_le (length word) MAX_NAME_BYTES && list_all is_name_byte word

-- there are words, and all can be names
abbrev pub are_names : List (List ℕ) → Bool
are_names [] = false
are_names (word ∷ words) = is_name word && list_all is_name words

abbrev pub further : ClientRequest → List ℕ → Bool → Option AskedByClient
further request about is_request = if is_request then Some (record { request = request; about = about }) else None

-- nothing more: this read
abbrev pub read : ReadRequest → List ℕ → List (List ℕ) → Option AskedByClient
read request about [] = further (requests.Read request) about true
read request about _ = further (requests.Read request) about false

-- K NAME ..: these names
abbrev pub lock_all : List ℕ → List (List ℕ) → Option AskedByClient
lock_all line [] = None
lock_all line (k ∷ words) = key_of k >>= λ key. further (requests.LockAll key) line (are_names words)

abbrev pub fence_name : ReadRequest → List (List ℕ) → Option AskedByClient
fence_name request [] = None
fence_name request (name ∷ words) = if is_name name then read request name words else None

-- K NAME, and what is left
abbrev pub fence : List (List ℕ) → Option AskedByClient
fence [] = None
fence (k ∷ words) = key_of k >>= λ key. fence_name (reads.Fence key) words

-- what a form asks for in this line with the words after its word
abbrev pub further_by : FurtherForm → List ℕ → List (List ℕ) → Option AskedByClient
further_by forms.Begin line words = further requests.Begin line (are_names words)
further_by forms.Lock line words = lock_all line words
further_by forms.Fence line words = fence words
further_by forms.Hello line words = read reads.Hello [] words
further_by forms.List line words = read reads.List [] words
further_by forms.Counts line words = read reads.Counts [] words

abbrev pub further_of_words : List ℕ → List (List ℕ) → Option AskedByClient
further_of_words line [] = None
further_of_words line (word ∷ words) = lookup (bytes_eq word) further_words >>= λ form. further_by form line words

-- what a line asks for
abbrev pub further_of : List ℕ → Option AskedByClient
further_of line = further_of_words line (words_of line)
