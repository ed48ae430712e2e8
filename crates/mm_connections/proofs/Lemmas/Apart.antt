-- Connections are apart.
use Rattle.std.proofs.Common.{◌≡◌, ◌≢◌, ◌+◌, ◌/◌, ◌%◌, ◌&&◌, ℕ, Bool, true, false, List, [], ◌∷◌, drop, Option, Some, None, is_some, Result, Ok, Err, nat_eq, nat_lt, if◌then◌else◌, inl, inr, refl, sym, ap, subst, ◌∙◌}
use Rattle.std.specs.Option.{option_map_or}
use Rattle.std.proofs.lemmas.Bool.{and_parts, cases_Bool, eqb-true}
use Rattle.mm_arena.specs.declared.key.Key.{Key}
use Rattle.mm_tagged_lists.specs.declared.spot.Spot.{Spot}
use Rattle.mm_tagged_lists.specs.TaggedLists.{Listing, spot_at}
use Rattle.mm_rules.specs.TableState.{TableState, is_live, owned_count}
use Rattle.mm_rules.specs.Event.{Begin, Step}
use Rattle.mm_rules.specs.Laws.{Laws}
use Rattle.mm_rules.proofs.States.Keys.{keys_are_fresh}
use Rattle.mm_lines.specs.Words.{words_of}
use Rattle.mm_manager.specs.LockState.{LockState, IsLawful}
use Rattle.mm_manager.specs.Made.{Begun}
use Rattle.mm_manager.specs.Reads.{wait_at}
use Rattle.mm_manager.specs.declared.refusal.Refusal.{Refusal}
use Rattle.mm_manager.proofs.Lemmas.Requests.{one_key}
use Rattle.mm_service.specs.declared.effect.Effect.{Effect}
use Rattle.mm_service.specs.declared.line.Request.{Request}
use Rattle.mm_service.specs.declared.line.Request.TheVariants as requests
use Rattle.mm_service.specs.declared.requests.KeyRequest.{KeyRequest}
use Rattle.mm_service.specs.declared.requests.KeyRequest.TheVariants as of_key
use Rattle.mm_apart.specs.Apart.{IsLeft, IsOfKey}
use Rattle.mm_apart.proofs.Lemmas.Events.{begun_live}
use Rattle.mm_apart.proofs.Lemmas.Left.{as_it_was, left_left}
use Rattle.mm_apart.proofs.Lemmas.Requests.{begun, locked, others_are_left}
use Rattle.mm_connections.specs.Begun.{connection_in, connection_of, IsOf, is_open, is_open_in, open_list}
use Rattle.mm_connections.specs.Line.{said_of}
use Rattle.mm_connections.specs.Permission.{is_of, of_open, of_own, of_own_key, of_any, permission_of, plain_permission}
use Rattle.mm_connections.specs.Hub.{Hub}
use Rattle.mm_connections.specs.Names.{LocksNames}
use Rattle.mm_connections.specs.Text.{Asks, BeginsAs, BeginsBy, MakesBy, RepliesTo, ServesBy, AnswersSaid, is_full, many, part_of, part_of_key}
use Rattle.mm_connections.specs.declared.line.Said.{Said}
use Rattle.mm_connections.specs.declared.line.Said.TheVariants as said
use Rattle.mm_connections.specs.declared.permission.Permission.{Permission}
use Rattle.mm_connections.specs.declared.names.Stop.{Stop}
use Rattle.mm_connections.specs.declared.permission.Permission.TheVariants as permit
use Rattle.mm_connections.specs.declared.request.ClientRequest.{ClientRequest}
use Rattle.mm_connections.specs.declared.request.ClientRequest.TheVariants as asked
use Rattle.mm_connections.specs.Apart.{StaysApart, MayTouch, LinesAreApart}
use Rattle.mm_connections.proofs.Lemmas.Begun.{listed_else}
use Rattle.mm_connections.proofs.Lemmas.HangUp.{same_stays, hangs_apart}
use Rattle.mm_connections.proofs.Lemmas.Parts.{part_apart}

-- ---- a request is of the connection's own transaction

own_of : (o : Option ℕ) (c : ℕ) → option_map_or (λ d. nat_eq d c) o false ≡ true → o ≡ Some c
own_of None c is = absurd (cc)
own_of (Some d) c is = ap (λ x. Some x) (eqb-true d c is)

own_made : (b : Listing) (c : ℕ) (k : Key) → of_own b c k ≡ permit.Make → IsOf b c k
own_made b c k is = elim (cases_Bool (is_of b c k)) [
  | inl own ↦ own_of (connection_of b k) c own
  | inr other ↦
      let refused : permit.NoTransaction ≡ permit.Make = sym (ap (λ (x : Bool). if x then permit.Make else permit.NoTransaction) other) ∙ is in
      absurd (cc)
]

open_own : (o : Option Spot) (c g : ℕ) → is_open_in c g o ≡ true → connection_in o g ≡ Some c
open_own None c g is = absurd (cc)
open_own (Some o) c g is =
    let parts = and_parts (nat_eq o.tag g && nat_eq (o.list % 2) 0) (nat_eq (o.list / 2) c) is in
    let tag = and_parts (nat_eq o.tag g) (nat_eq (o.list % 2) 0) parts.0 in
    ap (λ (x : Bool). if x then Some (o.list / 2) else None) tag.0 ∙ ap (λ n. Some n) (eqb-true (o.list / 2) c parts.1)

open_made : (b : Listing) (c : ℕ) (k : Key) → of_open b c k ≡ permit.Make → IsOf b c k
open_made b c k is = elim (cases_Bool (is_open b c k)) [
  | inl own ↦ open_own (spot_at b k.process) c k.generation own
  | inr other ↦
      let refused : permit.NoTransaction ≡ permit.Make = sym (ap (λ (x : Bool). if x then permit.Make else permit.NoTransaction) other) ∙ is in
      absurd (cc)
]

own_key_made : (b : Listing) (c : ℕ) (request : KeyRequest) (k : Key) → of_own_key b c request k ≡ permit.Make → IsOf b c k
own_key_made b c of_key.Cancel k is = open_made b c k is
own_key_made b c of_key.Commit k is = own_made b c k is
own_key_made b c of_key.Abort k is = own_made b c k is
own_key_made b c of_key.Status k is = own_made b c k is

-- not the operator's
else_made : (any own : Permission) (c : ℕ) → c ≢ 0 → (if nat_eq c 0 then any else own) ≡ permit.Make → own ≡ permit.Make
else_made any own c other is = elim (cases_Bool (nat_eq c 0)) [
  | inl operator ↦ absurd (other (eqb-true c 0 operator))
  | inr client ↦ sym (ap (λ (x : Bool). if x then any else own) client) ∙ is
]

many_own : (h : Hub) (k j : Key) → many h k ≡ Some j → k ≡ j
many_own h k j is = by_many (nat_lt 1024 (owned_count h.manager.table k)) is
  where
    by_many : (b : Bool) → (if b then Some k else None) ≡ Some j → k ≡ j
    by_many true is = cc
    by_many false is = absurd (cc)

-- the transaction that a request is of, where it is made
abbrev IsOfClient : ClientRequest → Key → Type 0
IsOfClient asked.Begin t = ⊥
IsOfClient (asked.LockAll k) t = k ≡ t
IsOfClient (asked.Plain request) t = IsOfKey request t
IsOfClient (asked.Read request) t = ⊥

plain_own : (b : Listing) (c : ℕ) (request : Request) (t : Key) → c ≢ 0 → plain_permission b c request ≡ permit.Make → IsOfKey request t → IsOf b c t
plain_own b c requests.Begin t other made never = absurd never
plain_own b c (requests.OfName request k) t other made same = subst (λ j. IsOf b c j) same (open_made b c k made)
plain_own b c (requests.OfKey request k) t other made same = subst (λ j. IsOf b c j) same (own_key_made b c request k (else_made (of_any request) (of_own_key b c request k) c other made))
plain_own b c (requests.Holds k) t other made same = absurd (cc)
plain_own b c requests.Owner t other made never = absurd never
plain_own b c requests.Graph t other made never = absurd never
plain_own b c requests.Totals t other made never = absurd never

its_own : (b : Listing) (c : ℕ) (request : ClientRequest) (t : Key) → c ≢ 0 → permission_of b c request ≡ permit.Make → IsOfClient request t → IsOf b c t
its_own b c asked.Begin t other made never = absurd never
its_own b c (asked.LockAll k) t other made same = subst (λ j. IsOf b c j) same (open_made b c k made)
its_own b c (asked.Plain request) t other made same = plain_own b c request t other made same
its_own b c (asked.Read request) t other made never = absurd never

-- ---- a request

-- the slot of a new transaction had no live one
begun_apart : (s u : TableState) (k t : Key) → Step Begin s (Ok k) u → Laws s → is_live s t ≡ true → t.process ≢ k.process
begun_apart s u k t step laws live same =
    let fresh = keys_are_fresh s u k step laws in
    let one : t ≡ k = one_key u t k (begun_live s u k t step live) fresh.1 same in
    let never : true ≡ false = sym live ∙ ap (is_live s) one ∙ fresh.0 in
    cc

-- several names are asked for
names_left : (place : ℕ) (k t : Key) (names : List (List ℕ)) (old : LockState) (stop : Option Stop) (new : LockState) → LocksNames place k names old stop new → is_live old.table t ≡ true → ¬ (k ≡ t) → IsLeft old t new
names_left place k t [] old stop new (none, same) live other = as_it_was old new t live same
names_left place k t (name ∷ names) old stop new (answer, mid, did, lawful, inl (on, rest)) live other =
    let first = locked old mid k t name lawful live other answer did in
    left_left old mid new t first (names_left (place + 1) k t names mid stop new rest first.live other)
names_left place k t (name ∷ names) old stop new (answer, mid, did, lawful, inr (reason, is, stopped, same)) live other =
    let first = locked old mid k t name lawful live other answer did in
    left_left old mid new t first (as_it_was mid new t first.live same)

begins_as_apart : (answer : Result Key Refusal) (c : ℕ) (names : List (List ℕ)) (old : Hub) (mid : LockState) (reply : List ℕ) (effect : Effect) (new : Hub) (t : Key) → Begun old.manager answer mid
    → BeginsAs answer c names (record old { manager = mid }) reply effect new → IsLawful old.manager → is_live old.manager.table t ≡ true → StaysApart old t new
begins_as_apart (Err refusal) c names old mid reply effect new t did (said, none, same) lawful live =
    let left = begun old.manager mid t (Err refusal) did live in
    record { left = left_left old.manager mid new.manager t left (as_it_was mid new.manager t left.live (ap (λ (h : Hub). h.manager) same)); owner = ap (λ (h : Hub). connection_of h.begun t) same }
begins_as_apart (Ok k) c names old mid reply effect new t did (stop, all, said, none, same) lawful live =
    let apart = begun_apart old.manager.table mid.table k t did.begins.1 lawful.laws live in
    let left = begun old.manager mid t (Ok k) did live in
    let rest = names_left 0 k t names mid stop new.manager all left.live (λ one. apart (ap (λ (j : Key). j.process) (sym one))) in
    record { left = left_left old.manager mid new.manager t left rest; owner = ap (λ (h : Hub). connection_of h.begun t) same ∙ listed_else old.begun (open_list c) k t apart }

begins_apart : (full : Bool) (c : ℕ) (names : List (List ℕ)) (old : Hub) (reply : List ℕ) (effect : Effect) (new : Hub) (t : Key) → BeginsBy full c names old reply effect new → IsLawful old.manager
    → is_live old.manager.table t ≡ true → StaysApart old t new
begins_apart true c names old reply effect new t (said, none, same) lawful live = same_stays old new t same live
begins_apart false c names old reply effect new t (answer, mid, did, after, told) lawful live = begins_as_apart answer c names old mid reply effect new t did told lawful live

asks_apart : (request : Request) (name : List ℕ) (old : Hub) (reply : List ℕ) (effect : Effect) (new : Hub) (t : Key) → Asks request name old reply effect new → IsLawful old.manager → IsLawful new.manager
    → is_live old.manager.table t ≡ true → ¬ IsOfKey request t → StaysApart old t new
asks_apart request name old reply effect new t did lawful after live other =
    record { left = others_are_left request name reply effect old.manager new.manager did.replies lawful after t live other; owner = ap (λ (h : Hub). connection_of h.begun t) did.rest }

replies_apart : (c : ℕ) (request : ClientRequest) (name : List ℕ) (old : Hub) (reply : List ℕ) (effect : Effect) (new : Hub) (t : Key) → RepliesTo c request name old reply effect new → IsLawful old.manager
    → IsLawful new.manager → is_live old.manager.table t ≡ true → ¬ IsOfClient request t → StaysApart old t new
replies_apart c asked.Begin name old reply effect new t did lawful after live other = begins_apart (is_full old c) c (drop 1 (words_of name)) old reply effect new t did lawful live
replies_apart c (asked.LockAll k) name old reply effect new t (stop, all, said, none, same) lawful after live other =
    record { left = names_left 0 k t (drop 2 (words_of name)) old.manager stop new.manager all live other; owner = ap (λ (h : Hub). connection_of h.begun t) same }
replies_apart c (asked.Plain request) name old reply effect new t did lawful after live other = asks_apart request name old reply effect new t did lawful after live other
replies_apart c (asked.Read request) name old reply effect new t (read, none, same) lawful after live other = same_stays old new t same live

-- the transaction that a request ends a part of is the one that it is of
part_own_key : (h : Hub) (request : KeyRequest) (k j : Key) → part_of_key h request k ≡ Some j → k ≡ j
part_own_key h of_key.Commit k j is = by_wait (is_some (wait_at h.manager.table k.process)) is
  where
    by_wait : (b : Bool) → (if b then None else many h k) ≡ Some j → k ≡ j
    by_wait true is = absurd (cc)
    by_wait false is = many_own h k j is
part_own_key h of_key.Abort k j is = many_own h k j is
part_own_key h of_key.Cancel k j is = absurd (cc)
part_own_key h of_key.Status k j is = absurd (cc)

plain_part_own : (h : Hub) (request : Request) (j : Key) → part_of h (asked.Plain request) ≡ Some j → IsOfKey request j
plain_part_own h requests.Begin j is = absurd (cc)
plain_part_own h (requests.OfName request k) j is = absurd (cc)
plain_part_own h (requests.OfKey request k) j is = part_own_key h request k j is
plain_part_own h (requests.Holds k) j is = absurd (cc)
plain_part_own h requests.Owner j is = absurd (cc)
plain_part_own h requests.Graph j is = absurd (cc)
plain_part_own h requests.Totals j is = absurd (cc)

part_own : (h : Hub) (request : ClientRequest) (j : Key) → part_of h request ≡ Some j → IsOfClient request j
part_own h asked.Begin j is = absurd (cc)
part_own h (asked.LockAll k) j is = absurd (cc)
part_own h (asked.Plain request) j is = plain_part_own h request j is
part_own h (asked.Read request) j is = absurd (cc)

makes_apart : (o : Option Key) (c : ℕ) (request : ClientRequest) (name out : List ℕ) (old new : Hub) → MakesBy o c request name old out new → IsLawful old.manager → (t : Key) → is_live old.manager.table t ≡ true
    → ¬ IsOfClient request t → ((j : Key) → o ≡ Some j → IsOfClient request j) → StaysApart old t new
makes_apart None c request name out old new did lawful t live other own = replies_apart c request name old did.reply did.effect new t did.replies lawful did.lawful.manager live other
makes_apart (Some k) c request name out old new did lawful t live other own = part_apart k old out new t did lawful live (λ same. other (subst (IsOfClient request) same (own k refl)))

serves_apart : (p : Permission) (c : ℕ) (request : ClientRequest) (name out : List ℕ) (old new : Hub) → ServesBy p c request name old out new → IsLawful old.manager → (t : Key) → is_live old.manager.table t ≡ true
    → (p ≡ permit.Make → ¬ IsOfClient request t) → StaysApart old t new
serves_apart permit.Make c request name out old new did lawful t live other = makes_apart (part_of old request) c request name out old new did lawful t live (other refl) (part_own old request)
serves_apart permit.NoTransaction c request name out old new (text, same) lawful t live other = same_stays old new t same live
serves_apart permit.Operator c request name out old new (text, same) lawful t live other = same_stays old new t same live

-- ---- the bytes of a line

said_apart : (s : Said) (name out : List ℕ) (malformed : ℕ) (old new : Hub) → AnswersSaid s name old out malformed new → (t : Key) → is_live old.manager.table t ≡ true → ¬ MayTouch old.begun s t → StaysApart old t new
said_apart said.Nobody name out malformed old new (text, one, same) t live other = same_stays old new t same live
said_apart (said.Malformed c) name out malformed old new (text, one, same) t live other = same_stays old new t same live
said_apart (said.HangsUp c) name out malformed old new (lawful, hangs, none) t live other =
    hangs_apart c old new out hangs t lawful.manager live other
said_apart (said.Asks c request) name out malformed old new (lawful, serves, none) t live other =
    serves_apart (permission_of old.begun c request) c request name out old new serves lawful.manager t live
    (λ made key. other (inr (its_own old.begun c request t (λ zero. other (inl zero)) made key)))

pub lines_are_apart : LinesAreApart
lines_are_apart line out malformed old new answers t live other =
    let line_says = said_of old.options.connections line in
    said_apart line_says.said line_says.name out malformed old new answers t live other
