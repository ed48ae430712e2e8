-- A part of a hang-up, one transaction after the other.
use Rattle.std.proofs.Common.{◌≡◌, ◌<◌, ◌≤◌, ◌-◌, ℕ, zero, suc, Bool, true, false, nat_lt, if◌then◌else◌, List, [], ◌∷◌, ◌++◌, take, Option, Some, None, inl, inr, refl, sym, ap, subst, ◌∙◌, append_assoc, append-nil}
use Rattle.std.specs.Option.{IfSome}
use Rattle.std.proofs.lemmas.Option.{same_Some}
use Rattle.mm_arena.specs.declared.key.Key.{Key}
use Rattle.mm_lists.specs.Members.{head}
use Rattle.mm_rules.specs.TableState.{owned_count}
use Rattle.mm_tagged_lists.specs.TaggedLists.{Listing, ListsMatchSpots, list_at, spot_at}
use Rattle.mm_connections.specs.Begun.{aside_list, key_in, open_list}
use Rattle.mm_connections.specs.Hub.{Hub}
use Rattle.mm_connections.specs.Text.{Drops, DropsAll, SetsAside, SetsAllAside, long_first, many, names_at, to_set_aside}
use Rattle.mm_connections.specs.private.Fits.{NoneFits}
use Rattle.mm_connections.proofs.Lemmas.Begun.{list_after, list_aside}

-- of a list without items a part has none
pub take_none : (left : ℕ) (xs : List ℕ) → xs ≡ [] → take left xs ≡ []
take_none zero xs none = refl
take_none (suc left) xs none = ap (take (suc left)) none

-- the first of a part is that of the list
take_first : (left more p : ℕ) (xs ys : List ℕ) → more ≡ suc left → xs ≡ p ∷ ys → take more xs ≡ p ∷ take left ys
take_first left more p xs ys is first = ap (λ n. take n xs) is ∙ ap (take (suc left)) first

-- ---- their waits are taken back

-- so far those at the front of the list were set aside, and this many may follow: they complete it
abbrev pub SetsOn : ℕ → ℕ → Hub → Hub → Type 0
SetsOn c left old now = (new : Hub) → SetsAllAside c (take left (list_at now.begun (open_list c))) now new → SetsAllAside c (to_set_aside old.begun c) old new

pub sets_more : (c p left more : ℕ) (old now mid : Hub) → more ≡ suc left → ListsMatchSpots now.begun → head (list_at now.begun (open_list c)) ≡ Some p → SetsAside c p now mid
    → SetsOn c more old now → SetsOn c left old mid
sets_more c p left more old now mid is matched first one so_far new rest =
    let begun = ap (λ (h : Hub). h.begun) one.rest in
    let list = list_aside now.begun c p one.generation matched first ∙ ap (λ (b : Listing). p ∷ list_at b (open_list c)) (sym begun) in
    let here : SetsAllAside c (p ∷ take left (list_at mid.begun (open_list c))) now new = (mid, one, rest) in
    so_far new (subst (λ ps. SetsAllAside c ps now new) (sym (take_first left more p _ _ is list)) here)

pub sets_end : (c left : ℕ) (old now : Hub) → take left (list_at now.begun (open_list c)) ≡ [] → SetsOn c left old now → SetsAllAside c (to_set_aside old.begun c) old now
sets_end c left old now none so_far = so_far now (subst (λ ps. SetsAllAside c ps now now) (sym none) refl)

-- ---- they end

-- the first of a list is the last transaction of this slot, and is the first of a part of it too
module _ (h : Hub) (p generation list : ℕ) (was : spot_at h.begun p ≡ Some (record { list = list; tag = generation })) where
  abbrev key_there : Key
  key_there = record { process = p; generation = generation }

  pub names_of : names_at h p ≡ owned_count h.manager.table key_there
  names_of = ap (λ o. owned_count h.manager.table (key_in p o)) was

  pub too_long : (left : ℕ) (xs : List ℕ) → head xs ≡ Some p → left < owned_count h.manager.table key_there → NoneFits left h xs
  too_long left [] first more = absurd (cc)
  too_long left (x ∷ xs) first more = subst (λ q. left < names_at h q) (sym (same_Some x p first)) (subst (λ n. left < n) (sym names_of) more)

  pub first_long : (xs : List ℕ) → head xs ≡ Some p → long_first h xs ≡ many h key_there
  first_long [] first = absurd (cc)
  first_long (x ∷ xs) first = ap (λ q. many h (key_in q (spot_at h.begun q))) (same_Some x p first) ∙ ap (λ o. many h (key_in p o)) was

pub long_first_none : (h : Hub) (xs : List ℕ) → xs ≡ [] → long_first h xs ≡ None
long_first_none h xs none = ap (long_first h) none

pub long_first_part : (h : Hub) (n more : ℕ) (xs : List ℕ) → more ≡ suc n → long_first h (take more xs) ≡ long_first h xs
long_first_part h n more [] is = ap (λ m. long_first h (take m [])) is
long_first_part h n more (x ∷ xs) is = ap (λ m. long_first h (take m (x ∷ xs))) is

many_by : (P : Key → Type 0) (b : Bool) (k : Key) → P k → IfSome (if b then Some k else None) P
many_by P true k holds = holds
many_by P false k holds = tt

-- who owns many names is the transaction that was asked about
pub many_keeps : (P : Key → Type 0) (h : Hub) (k : Key) (o : Option Key) → o ≡ many h k → P k → IfSome o P
many_keeps P h k o is holds = subst (λ q. IfSome q P) (sym is) (many_by P (nat_lt 1024 (owned_count h.manager.table k)) k holds)

-- so far those at the front of the list were dropped, this was told, so many names are left to be given back, and this many transactions may follow: what is told of these completes it
abbrev pub DropsOn : ℕ → ℕ → ℕ → Hub → List ℕ → Hub → Type 0
DropsOn c left n old told now =
    (rest : List ℕ) (new : Hub) → DropsAll c left (take n (list_at now.begun (aside_list c))) now rest new → DropsAll c 1024 (take 256 (list_at old.begun (aside_list c))) old (told ++ rest) new

pub drops_more : (c p left n more : ℕ) (old now mid : Hub) (told one : List ℕ) → more ≡ suc n → ListsMatchSpots now.begun → head (list_at now.begun (aside_list c)) ≡ Some p → names_at now p ≤ left → Drops c p now one mid
    → DropsOn c left more old told now → DropsOn c (left - names_at now p) n old (told ++ one) mid
drops_more c p left n more old now mid told one is matched first fits drop so_far rest new drops =
    let begun = ap (λ (h : Hub). h.begun) drop.rest in
    let list = list_after now.begun (aside_list c) p matched first ∙ ap (λ (b : Listing). p ∷ list_at b (aside_list c)) (sym begun) in
    let here : DropsAll c left (p ∷ take n (list_at mid.begun (aside_list c))) now (one ++ rest) new = inr (mid, one, rest, fits, drop, drops, refl) in
    let all = subst (λ ps. DropsAll c left ps now (one ++ rest) new) (sym (take_first n more p _ _ is list)) here in
    subst (λ out. DropsAll c 1024 (take 256 (list_at old.begun (aside_list c))) old out new) (sym (append_assoc told one rest)) (so_far (one ++ rest) new all)

pub drops_end : (c left n : ℕ) (old now : Hub) (told : List ℕ) → DropsAll c left (take n (list_at now.begun (aside_list c))) now [] now → DropsOn c left n old told now → DropsAll c 1024 (take 256 (list_at old.begun (aside_list c))) old told now
drops_end c left n old now told last so_far = subst (λ out. DropsAll c 1024 (take 256 (list_at old.begun (aside_list c))) old out now) (append-nil told) (so_far [] now last)

-- none ends of no transactions, nor where the first one owns too many names
pub drops_none : (c left n : ℕ) (h : Hub) (xs : List ℕ) → take n xs ≡ [] → DropsAll c left (take n xs) h [] h
drops_none c left n h xs none = subst (λ ps. DropsAll c left ps h [] h) (sym none) (refl, refl)

pub drops_stop : (c left n : ℕ) (h : Hub) (xs : List ℕ) → NoneFits left h xs → DropsAll c left (take n xs) h [] h
drops_stop c left n h [] none = drops_none c left n h [] (take_none n [] refl)
drops_stop c left zero h (p ∷ ps) long = (refl, refl)
drops_stop c left (suc n) h (p ∷ ps) long = inl (long, refl, refl)
