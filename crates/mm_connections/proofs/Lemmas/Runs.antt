-- Connections are apart over a run.
use Rattle.std.proofs.Common.{◌≡◌, ◌-◌, ℕ, Bool, true, false, List, [], ◌∷◌, drop, Option, Some, None, Result, Ok, Err, if◌then◌else◌, slice_set, inl, inr, refl, sym, ap, subst, ◌∙◌}
use Rattle.mm_arena.specs.declared.key.Key.{Key}
use Rattle.mm_lines.specs.Words.{words_of}
use Rattle.mm_tagged_lists.specs.TaggedLists.{Listing}
use Rattle.mm_rules.specs.TableState.{is_live}
use Rattle.mm_manager.specs.declared.refusal.Refusal.{Refusal}
use Rattle.mm_service.specs.declared.effect.Effect.{Effect}
use Rattle.mm_connections.specs.Apart.{MayTouch, NoneTouches, RunsAreApart, StaysApart}
use Rattle.mm_connections.specs.Begun.{connection_of, has_any}
use Rattle.mm_connections.specs.Hub.{Hub}
use Rattle.mm_connections.specs.Line.{said_of}
use Rattle.mm_connections.specs.Permission.{permission_of}
use Rattle.mm_connections.specs.Text.{Answers, AnswersSaid, BeginsAs, BeginsBy, DropsAll, EndsBy, MakesBy, RepliesTo, ServesBy, SetsAllAside, is_full, long_first, names_at, part_of, to_end, to_set_aside}
use Rattle.mm_connections.specs.declared.line.Said.{Said}
use Rattle.mm_connections.specs.declared.line.Said.TheVariants as said
use Rattle.mm_connections.specs.declared.permission.Permission.{Permission}
use Rattle.mm_connections.specs.declared.permission.Permission.TheVariants as permit
use Rattle.mm_connections.specs.declared.request.ClientRequest.{ClientRequest}
use Rattle.mm_connections.specs.declared.request.ClientRequest.TheVariants as asked
use Rattle.mm_connections.proofs.Lemmas.Apart.{lines_are_apart}
use Rattle.mm_connections.proofs.Lemmas.HangUp.{same_stays, stays_then}
use Rattle.mm_connections.proofs.Lemmas.Parts.{gives_options}

-- ---- no line changes the numbers of the opening

begins_as_options : (answer : Result Key Refusal) (c : ℕ) (names : List (List ℕ)) (mid : Hub) (reply : List ℕ) (effect : Effect) (new : Hub) → BeginsAs answer c names mid reply effect new → new.options ≡ mid.options
begins_as_options (Ok k) c names mid reply effect new (stop, all, text, came, same) = ap (λ (h : Hub). h.options) same
begins_as_options (Err refusal) c names mid reply effect new (text, came, same) = ap (λ (h : Hub). h.options) same

begins_options : (full : Bool) (c : ℕ) (names : List (List ℕ)) (old : Hub) (reply : List ℕ) (effect : Effect) (new : Hub) → BeginsBy full c names old reply effect new → new.options ≡ old.options
begins_options true c names old reply effect new (text, came, same) = ap (λ (h : Hub). h.options) same
begins_options false c names old reply effect new (answer, mid, did, lawful, told) = begins_as_options answer c names (record old { manager = mid }) reply effect new told

replies_options : (c : ℕ) (request : ClientRequest) (name : List ℕ) (old : Hub) (reply : List ℕ) (effect : Effect) (new : Hub) → RepliesTo c request name old reply effect new → new.options ≡ old.options
replies_options c asked.Begin name old reply effect new did = begins_options (is_full old c) c (drop 1 (words_of name)) old reply effect new did
replies_options c (asked.LockAll k) name old reply effect new (stop, all, text, came, same) = ap (λ (h : Hub). h.options) same
replies_options c (asked.Plain request) name old reply effect new did = ap (λ (h : Hub). h.options) did.rest
replies_options c (asked.Read request) name old reply effect new (read, came, same) = ap (λ (h : Hub). h.options) same

makes_options : (o : Option Key) (c : ℕ) (request : ClientRequest) (name out : List ℕ) (old new : Hub) → MakesBy o c request name old out new → new.options ≡ old.options
makes_options None c request name out old new did = replies_options c request name old did.reply did.effect new did.replies
makes_options (Some k) c request name out old new part = gives_options None k 1024 part.idle part.told new part.gives ∙ ap (λ (h : Hub). h.options) part.rest

serves_options : (p : Permission) (c : ℕ) (request : ClientRequest) (name out : List ℕ) (old new : Hub) → ServesBy p c request name old out new → new.options ≡ old.options
serves_options permit.Make c request name out old new did = makes_options (part_of old request) c request name out old new did
serves_options permit.NoTransaction c request name out old new (text, same) = ap (λ (h : Hub). h.options) same
serves_options permit.Operator c request name out old new (text, same) = ap (λ (h : Hub). h.options) same

drops_options : (c left : ℕ) (ps : List ℕ) (old : Hub) (out : List ℕ) (new : Hub) → DropsAll c left ps old out new → new.options ≡ old.options
drops_options c left [] old out new (none, same) = ap (λ (h : Hub). h.options) same
drops_options c left (p ∷ ps) old out new (inl (long, none, same)) = ap (λ (h : Hub). h.options) same
drops_options c left (p ∷ ps) old out new (inr (mid, first, rest, fits, one, later, text)) = drops_options c (left - names_at old p) ps mid rest new later ∙ ap (λ (h : Hub). h.options) one.rest

ends_options : (o : Option Key) (c : ℕ) (ps : List ℕ) (old : Hub) (out : List ℕ) (new : Hub) → EndsBy o c ps old out new → new.options ≡ old.options
ends_options None c ps old out new drops = drops_options c 1024 ps old out new drops
ends_options (Some k) c ps old out new (own, gives) = gives_options (Some c) k 1024 old out new gives

sets_options : (c : ℕ) (ps : List ℕ) (old new : Hub) → SetsAllAside c ps old new → new.options ≡ old.options
sets_options c [] old new same = ap (λ (h : Hub). h.options) same
sets_options c (p ∷ ps) old new (mid, one, rest) = sets_options c ps mid new rest ∙ ap (λ (h : Hub). h.options) one.rest

closed_options : (c : ℕ) (h : Hub) (b : Bool) → (if b then h else record h { counts = slice_set h.counts c 0 }).options ≡ h.options
closed_options c h true = refl
closed_options c h false = refl

said_options : (s : Said) (name : List ℕ) (old : Hub) (out : List ℕ) (one : ℕ) (new : Hub) → AnswersSaid s name old out one new → new.options ≡ old.options
said_options said.Nobody name old out one new (text, count, same) = ap (λ (h : Hub). h.options) same
said_options (said.Malformed c) name old out one new (text, count, same) = ap (λ (h : Hub). h.options) same
said_options (said.HangsUp c) name old out one new (lawful, did, none) =
    let ps = to_end did.aside.begun c in
    ap (λ (h : Hub). h.options) did.rest ∙ closed_options c did.last (has_any did.last.begun c) ∙ ends_options (long_first did.aside ps) c ps did.aside did.told did.last did.ends
    ∙ sets_options c (to_set_aside old.begun c) old did.aside did.sets
said_options (said.Asks c request) name old out one new (lawful, did, none) = serves_options (permission_of old.begun c request) c request name out old new did

answers_options : (old : Hub) (line out : List ℕ) (one : ℕ) (new : Hub) → Answers old line out one new → new.options ≡ old.options
answers_options old line out one new did = (let says = said_of old.options.connections line in said_options says.said says.name old out one new did)

-- ---- one line after the other

touch_same : (a b : Listing) (s : Said) (t : Key) → connection_of b t ≡ connection_of a t → MayTouch b s t → MayTouch a s t
touch_same a b said.Nobody t same never = never
touch_same a b (said.Malformed c) t same never = never
touch_same a b (said.HangsUp c) t same own = sym same ∙ own
touch_same a b (said.Asks c request) t same (inl operator) = inl operator
touch_same a b (said.Asks c request) t same (inr own) = inr (sym same ∙ own)

module _ (old mid last : Hub) (line : List ℕ) (lines : List (List ℕ)) (t : Key) (reply : List ℕ) (one : ℕ) (answers : Answers old line reply one mid) (live : is_live old.manager.table t ≡ true)
    (none : NoneTouches old (line ∷ lines) t) where
  none_after : connection_of mid.begun t ≡ connection_of old.begun t → NoneTouches mid lines t
  none_after same other among touches =
      let kept = subst (λ n. MayTouch mid.begun (said_of n other).said t) (ap (λ o. o.connections) (answers_options old line reply one mid answers)) touches in
      none other (inr among) (touch_same old.begun mid.begun (said_of old.options.connections other).said t same kept)

  run_next : (is_live mid.manager.table t ≡ true → NoneTouches mid lines t → StaysApart mid t last) → StaysApart old t last
  run_next rest =
      let first = lines_are_apart line reply one old mid answers t live (none line (inl refl)) in
      stays_then old mid last t first (rest first.left.live (none_after first.owner))

pub runs_are_apart : RunsAreApart
runs_are_apart true [] out malformed old last (none, zero, same) t live apart = same_stays old last t same live
runs_are_apart false [] out malformed old last (none, zero, same) t live apart = same_stays old last t same live
runs_are_apart true (line ∷ lines) out malformed old last (mid, reply, rest, one, more, answers, later, text, count) t live apart =
    run_next old mid last line lines t reply one answers live apart (λ still none. runs_are_apart true lines rest more mid last later t still none)
runs_are_apart false (line ∷ lines) out malformed old last (inl (none, zero, same)) t live apart = same_stays old last t same live
runs_are_apart false (line ∷ lines) out malformed old last (inr (mid, reply, rest, one, more, answers, later, text, count)) t live apart =
    run_next old mid last line lines t reply one answers live apart (λ still none. runs_are_apart false lines rest more mid last later t still none)
