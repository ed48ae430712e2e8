-- The connection that a line names is one of those that there are, and a request of several names is short.
use Rattle.std.proofs.Common.{◌≡◌, ◌∙◌, ◌<◌, ◌≤◌, ◌-◌, ◌^◌, ◌∷◌, ℕ, Bool, true, false, List, [], length, refl, Option, Some, None, codes, nat_le, nat_lt, if◌then◌else◌, inl, inr, sym, ap, subst, arith}
use Rattle.std.specs.Prelude.{⊤}
use Rattle.std.specs.Map.{lookup}
use Rattle.std.specs.Str.{bytes_eq}
use Rattle.std.specs.Str.Lines.{strip_carriage_return}
use Rattle.std.specs.List.{list_all, position_or_len, before_first, after_first}
use Rattle.std.proofs.lemmas.Bool.{and_parts, cases_Bool, leb-true, ltb-true, ltb-false}
use Rattle.mm_lines.specs.Cut.{is}
use Rattle.mm_lines.specs.Words.{◌>>=◌, key_of, number_at_most, words_of}
use Rattle.mm_service.specs.Forms.{is_name_byte}
use Rattle.mm_service.specs.Line.{request_line}
use Rattle.mm_service.specs.declared.line.Line.{Line}
use Rattle.mm_service.specs.declared.line.Line.TheVariants as kind
use Rattle.mm_service.specs.declared.line.Request.{Request}
use Rattle.mm_service.specs.declared.line.Request.TheVariants as requests
use Rattle.mm_service.specs.declared.requests.KeyRequest.TheVariants as of_key
use Rattle.mm_connections.specs.Forms.{are_names, fence_name, further, further_by, further_of, further_of_words, further_words, is_name, read}
use Rattle.mm_connections.specs.Line.{NamedSaid, asked_by, asks_further, below, hung_up_by, is_plain, number_in, said_by, said_line, said_of, said_of_parts}
use Rattle.mm_connections.specs.Request.{AskedByClient, client_asked}
use Rattle.mm_connections.specs.declared.forms.FurtherForm.{FurtherForm}
use Rattle.mm_connections.specs.declared.forms.FurtherForm.TheVariants as forms
use Rattle.mm_connections.specs.declared.request.ClientRequest.{ClientRequest}
use Rattle.mm_connections.specs.declared.request.ClientRequest.TheVariants as asked
use Rattle.mm_connections.specs.declared.request.ReadRequest.{ReadRequest}
use Rattle.mm_connections.specs.declared.request.ReadRequest.TheVariants as reads
use Rattle.mm_connections.proofs.Lemmas.Short.{request_short}
use Rattle.mm_connections.specs.declared.line.Said.{Said}
use Rattle.mm_connections.specs.declared.line.Said.TheVariants as said

-- a request is of a connection below n, and short
abbrev pub IsFit : ℕ → Said → List ℕ → Type 0
IsFit n said.Nobody name = ⊤
IsFit n (said.Malformed c) name = c < n
IsFit n (said.HangsUp c) name = c < n
IsFit n (said.Asks c request) name = (c < n) × (length name ≤ 1048)

abbrev pub Fits : ℕ → NamedSaid → Type 0
Fits n named = IsFit n named.said named.name

some_below : (n c d : ℕ) → below n c ≡ Some d → d < n
some_below n c d found = elim (cases_Bool (nat_lt c n)) [
  | inl within ↦
      let here : Some c ≡ Some d = sym (ap (λ (b : Bool). if b then Some c else None) within) ∙ found in
      let same : c ≡ d = cc in
      subst (λ m. m < n) same (ltb-true c n within)
  | inr past ↦
      let none : None ≡ Some d = sym (ap (λ (b : Bool). if b then Some c else None) past) ∙ found in
      absurd (cc)
]

bound_below : (n d : ℕ) (o : Option ℕ) → (o >>= below n) ≡ Some d → d < n
bound_below n d None found = absurd (cc)
bound_below n d (Some c) found = some_below n c d found

number_below : (n : ℕ) (word : List ℕ) (d : ℕ) → number_in n word ≡ Some d → d < n
number_below n word d found =
    let number = number_at_most (2 ^ 32 - 1) word in
    elim (cases_Bool (is_plain word)) [
      | inl plain ↦ bound_below n d number (sym (ap (λ (b : Bool). if b then number >>= below n else None) plain) ∙ found)
      | inr zero ↦
          let none : None ≡ Some d = sym (ap (λ (b : Bool). if b then number >>= below n else None) zero) ∙ found in
          absurd (cc)
    ]

hung_up_fits : (n : ℕ) (o : Option ℕ) → ((d : ℕ) → o ≡ Some d → d < n) → Fits n (hung_up_by o)
hung_up_fits n None within = tt
hung_up_fits n (Some c) within = within c refl

plain_short : (request : Request) (name : List ℕ) → length name ≤ 1048 → length (client_asked request name).about ≤ 1048
plain_short requests.Begin name short = omega arith
plain_short (requests.OfName request k) name short = short
plain_short (requests.OfKey of_key.Commit k) name short = short
plain_short (requests.OfKey of_key.Abort k) name short = short
plain_short (requests.OfKey of_key.Cancel k) name short = short
plain_short (requests.OfKey of_key.Status k) name short = short
plain_short (requests.Holds k) name short = short
plain_short requests.Owner name short = short
plain_short requests.Graph name short = short
plain_short requests.Totals name short = short

-- what is asked so, if anything, is short
abbrev AreShort : Option AskedByClient → Type 0
AreShort None = ⊤
AreShort (Some asked) = length asked.about ≤ 1048

further_short : (request : ClientRequest) (about : List ℕ) (b : Bool) → length about ≤ 1048 → AreShort (further request about b)
further_short request about true short = short
further_short request about false short = tt

read_short : (request : ReadRequest) (about : List ℕ) (words : List (List ℕ)) → length about ≤ 1048 → AreShort (read request about words)
read_short request about [] short = short
read_short request about (word ∷ words) short = tt

-- where nothing is asked before, nothing is
bind_short : {A : Type 0} (o : Option A) (f : A → Option AskedByClient) → ((a : A) → AreShort (f a)) → AreShort (o >>= f)
bind_short None f short = tt
bind_short (Some a) f short = short a

name_short : (name : List ℕ) → is_name name ≡ true → length name ≤ 1048
name_short name is = omega (arith, leb-true (length name) 1024 (and_parts (nat_le (length name) 1024) (list_all is_name_byte name) is).0)

fence_short : (request : ReadRequest) (words : List (List ℕ)) → AreShort (fence_name request words)
fence_short request [] = tt
fence_short request (name ∷ words) = elim (cases_Bool (is_name name)) [
  | inl is ↦ rw is (read_short request name words (name_short name is))
  | inr not ↦ rw not tt
]

module _ (line : List ℕ) (short : length line ≤ 1048) where
  form_short : (form : FurtherForm) (words : List (List ℕ)) → AreShort (further_by form line words)
  form_short forms.Begin words = further_short asked.Begin line (are_names words) short
  form_short forms.Lock [] = tt
  form_short forms.Lock (k ∷ words) = bind_short (key_of k) (λ key. further (asked.LockAll key) line (are_names words)) (λ key. further_short (asked.LockAll key) line (are_names words) short)
  form_short forms.Fence [] = tt
  form_short forms.Fence (k ∷ words) = bind_short (key_of k) (λ key. fence_name (reads.Fence key) words) (λ key. fence_short (reads.Fence key) words)
  form_short forms.Hello words = read_short reads.Hello [] words (omega arith)
  form_short forms.List words = read_short reads.List [] words (omega arith)
  form_short forms.Counts words = read_short reads.Counts [] words (omega arith)

  words_short : (words : List (List ℕ)) → AreShort (further_of_words line words)
  words_short [] = tt
  words_short (word ∷ words) = bind_short (lookup (bytes_eq word) further_words) (λ form. further_by form line words) (λ form. form_short form words)

further_fits : (n c : ℕ) (asked : Option AskedByClient) → c < n → AreShort asked → Fits n (asks_further c asked)
further_fits n c None within short = within
further_fits n c (Some asked) within short = (within, short)

line_fits : (n c : ℕ) (line : Line) (name rest : List ℕ) → c < n → length name ≤ 1048 → Fits n (said_by c line name rest)
line_fits n c kind.Silent name rest within fits = within
line_fits n c kind.Malformed name rest within fits = elim (cases_Bool (nat_lt 1048 (length rest))) [
  | inl long ↦ rw long within
  | inr short ↦ rw short (further_fits n c (further_of rest) within (words_short rest (ltb-false 1048 (length rest) short) (words_of rest)))
]
line_fits n c (kind.Request request) name rest within fits = (within, plain_short request name fits)

asked_fits : (n : ℕ) (o : Option ℕ) (rest : List ℕ) → ((d : ℕ) → o ≡ Some d → d < n) → Fits n (asked_by o rest)
asked_fits n None rest within = tt
asked_fits n (Some c) rest within = line_fits n c (request_line rest).line (request_line rest).name rest (within c refl) (omega (arith, request_short rest))

parts_fit : (n : ℕ) (head rest : List ℕ) → Fits n (said_of_parts n head rest)
parts_fit n head rest = elim (cases_Bool (bytes_eq head (codes "-"))) [
  | inl hangs ↦ rw hangs (hung_up_fits n (number_in n rest) (number_below n rest))
  | inr asks ↦ rw asks (asked_fits n (number_in n head) rest (number_below n head))
]

stripped_fits : (n : ℕ) (line : List ℕ) → Fits n (said_line n line)
stripped_fits n line = elim (cases_Bool (nat_lt 1054 (length line))) [
  | inl long ↦ rw long tt
  | inr short ↦ rw short (elim (cases_Bool (nat_lt (position_or_len (is 0x20) line) (length line))) [
    | inl parts ↦ rw parts (parts_fit n (before_first (is 0x20) line) (after_first (is 0x20) line))
    | inr whole ↦ rw whole tt
  ])
]

pub said_fits : (n : ℕ) (line : List ℕ) → Fits n (said_of n line)
said_fits n line = stripped_fits n (strip_carriage_return line)
