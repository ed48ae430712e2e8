-- The records of items, as their spots and their links.
use Rattle.std.proofs.Common.{◌≡◌, ◌≤◌, ◌<◌, ℕ, zero, suc, replicate, List, ◌++◌, Option, None, Some, length, get_or, set, take, ap, sym, subst, ◌∙◌, arith, refl}
use Rattle.std.proofs.lemmas.List.{take_at, length-map, map-set}
use Rattle.std.proofs.lemmas.Option.{slice_get-get_or}
use Rattle.std.proofs.Math.ListN.{get_or-map}
use Rattle.std.proofs.Math.Seq.{map-set_same}
use Rattle.std.specs.Option.{option_and_then}
use Rattle.mm_tagged_lists.specs.declared.spot.Spot.{Spot}
use Rattle.mm_links.specs.declared.links.Links.{Links}
use Rattle.mm_links.specs.Link.{none_number}
use Rattle.mm_links.specs.Links.{unlinked, before_of, next_of, with_before, with_next, put_first, taken_out}
use Rattle.mm_tagged_lists.specs.declared.tagged_lists.Item.{Item}
use Rattle.mm_tagged_lists.specs.TaggedLists.{Listing, unlisted}
use Rattle.mm_tagged_lists.specs.private.Linked.{links_of, spots_of, seen, AreLinked, AreConsistent}
use Rattle.mm_tagged_lists.proofs.Lemmas.Linked.{lists_seen, AreLinked-unlisted}

-- what is kept of an item that is in no list
abbrev pub no_spot : Item
no_spot = record { spot = None; links = unlinked }

-- what a value says of its fields
pub links_now : (s : Listing) (firsts : List (Option ℕ)) (rs : List Item) → seen firsts rs ≡ s → AreConsistent firsts rs → AreLinked s firsts (links_of rs)
links_now s firsts rs is kept = subst (λ t. AreLinked t firsts (links_of rs)) is kept

pub length-links_of : (rs : List Item) → length (links_of rs) ≡ length rs
length-links_of rs = length-map rs (λ r. r.links)

-- what a read gives
pub read_links : (rs : List Item) (r : ℕ) (read other : Item) → read ≡ get_or rs r other → read.links ≡ get_or (links_of rs) r other.links
read_links rs r read other is = ap (λ x. x.links) is ∙ sym (get_or-map (λ x. x.links) rs r other)

-- what is written
pub set_links : (rs : List Item) (r : ℕ) (new : Item) → links_of (set rs r new) ≡ set (links_of rs) r new.links
set_links rs r new = map-set (λ x. x.links) rs r new

pub set_spots : (rs : List Item) (r : ℕ) (new : Item) → spots_of (set rs r new) ≡ set (spots_of rs) r new.spot
set_spots rs r new = map-set (λ x. x.spot) rs r new

-- what follows r
next_read : (rs : List Item) (r : ℕ) (d : Item) → r < length rs → (get_or rs r d).links.next ≡ next_of (links_of rs) r
next_read rs r d below =
    ap (λ l. l.next) (sym (get_or-map (λ x. x.links) rs r d))
    ∙ sym (ap (option_and_then (λ l. l.next)) (slice_get-get_or (links_of rs) r d.links (omega (arith, length-links_of rs))))

before_read : (rs : List Item) (r : ℕ) (d : Item) → r < length rs → (get_or rs r d).links.before ≡ before_of (links_of rs) r
before_read rs r d below =
    ap (λ l. l.before) (sym (get_or-map (λ x. x.links) rs r d))
    ∙ sym (ap (option_and_then (λ l. l.before)) (slice_get-get_or (links_of rs) r d.links (omega (arith, length-links_of rs))))

-- with one link of r written
pub set_before_links : (rs : List Item) (r : ℕ) (d : Item) (at before : Option ℕ) → r < length rs → at ≡ Some r
    → links_of (set rs r (record { spot = (get_or rs r d).spot; links = record { before = before; next = (get_or rs r d).links.next } })) ≡ with_before (links_of rs) at before
set_before_links rs r d at before below is =
    set_links rs r _ ∙ ap (λ n. set (links_of rs) r (record { before = before; next = n })) (next_read rs r d below)
    ∙ ap (λ a. with_before (links_of rs) a before) (sym is)

pub set_next_links : (rs : List Item) (r : ℕ) (d : Item) (at next : Option ℕ) → r < length rs → at ≡ Some r
    → links_of (set rs r (record { spot = (get_or rs r d).spot; links = record { before = (get_or rs r d).links.before; next = next } })) ≡ with_next (links_of rs) at next
set_next_links rs r d at next below is =
    set_links rs r _ ∙ ap (λ b. set (links_of rs) r (record { before = b; next = next })) (before_read rs r d below)
    ∙ ap (λ a. with_next (links_of rs) a next) (sym is)

-- and the spot stays
pub same_spots : (rs : List Item) (r : ℕ) (d : Item) (links : Links) → spots_of (set rs r (record { spot = (get_or rs r d).spot; links = links })) ≡ spots_of rs
same_spots rs r d links = map-set_same (λ x. x.spot) rs r (record { spot = (get_or rs r d).spot; links = links }) d refl

-- with r put first: the links and the spots of what is then written
pub put_links : (rs : List Item) (r : ℕ) (new : Item) (next link : Option ℕ) (put written : List Item) → put ≡ set rs r new → link ≡ Some r → links_of written ≡ with_before (links_of put) next link
    → new.links ≡ record { before = None; next = next } → links_of written ≡ put_first (links_of rs) r next
put_links rs r new next link put written put_is link_is is new_is =
    is ∙ ap (with_before (links_of put) next) link_is ∙ ap (λ l. with_before l next (Some r)) (ap links_of put_is ∙ set_links rs r new)
    ∙ ap (λ l. with_before (set (links_of rs) r l) next (Some r)) new_is

pub put_spots : (s : Listing) (firsts : List (Option ℕ)) (rs : List Item) (r : ℕ) (new : Item) (spot : Option Spot) (put written : List Item) → seen firsts rs ≡ s → put ≡ set rs r new → new.spot ≡ spot
    → spots_of written ≡ spots_of put → spots_of written ≡ set s.spots r spot
put_spots s firsts rs r new spot put written shows put_is spot_is is =
    is ∙ ap spots_of put_is ∙ set_spots rs r new ∙ ap (set (spots_of rs) r) spot_is ∙ ap (λ (s : Listing). set s.spots r spot) shows

-- with r given up and its neighbours linked to each other, in these steps
module _ (rs gone relinked back written : List Item) (r : ℕ) (free : Item) (gone_is : gone ≡ set rs r free) (free_is : free ≡ no_spot) (back_is : back ≡ relinked) where
  pub join_links : (link : Links) → links_of relinked ≡ with_next (links_of gone) link.before link.next → links_of written ≡ with_before (links_of back) link.next link.before → links_of written ≡ taken_out (links_of rs) r link
  join_links link relinked_is is =
      let gave = ap links_of gone_is ∙ set_links rs r free ∙ ap (λ f. set (links_of rs) r f.links) free_is in
      let linked = ap links_of back_is ∙ relinked_is ∙ ap (λ l. with_next l link.before link.next) gave in
      is ∙ ap (λ l. with_before l link.next link.before) linked

  pub join_spots : (s : Listing) (firsts : List (Option ℕ)) → seen firsts rs ≡ s → spots_of relinked ≡ spots_of gone → spots_of written ≡ spots_of back → spots_of written ≡ set s.spots r None
  join_spots s firsts shows relinked_is is =
      let gave = ap spots_of gone_is ∙ set_spots rs r free ∙ ap (λ f. set (spots_of rs) r f.spot) free_is in
      is ∙ ap spots_of back_is ∙ relinked_is ∙ gave ∙ ap (λ (s : Listing). set s.spots r None) shows

-- the fields are kept, and a contract sees this
pub record IsShown (s : Listing) (firsts : List (Option ℕ)) (rs : List Item) : Type 0 where
  pub kept : AreConsistent firsts rs
  pub is : seen firsts rs ≡ s

pub shown_linked : (s : Listing) (firsts : List (Option ℕ)) (rs : List Item) → AreLinked s firsts (links_of rs) → spots_of rs ≡ s.spots → IsShown s firsts rs
shown_linked s firsts rs linked spots =
    let lists = lists_seen s firsts (links_of rs) linked in
    let is : seen firsts rs ≡ s = λ i. record { spots = spots i; lists = lists i } in
    record { kept = subst (λ t. AreLinked t firsts (links_of rs)) (sym is) linked; is = is }

-- the same, where they were written over others of a vector of this length
pub shown_written : (s : Listing) (firsts : List (Option ℕ)) (len : ℕ) (rs old : List Item) → len ≡ length s.spots → AreLinked s firsts (links_of rs) → spots_of rs ≡ s.spots
    → IsShown s firsts (take len (rs ++ old))
shown_written s firsts len rs old whole linked spots = rw (take_at rs old len (omega (arith, whole, linked.size, length-links_of rs))) (shown_linked s firsts rs linked spots)

-- ---- at first

all_free : (n : ℕ) → links_of (replicate n no_spot) ≡ replicate n unlinked
all_free zero = refl
all_free (suc n) = cc (all_free n)

none_listed : (n : ℕ) → spots_of (replicate n no_spot) ≡ replicate n None
none_listed zero = refl
none_listed (suc n) = cc (none_listed n)

pub shown_unlisted : (lists items : ℕ) (firsts : List (Option ℕ)) (rs : List Item) → firsts ≡ replicate lists None → rs ≡ replicate items no_spot → items ≤ none_number → lists ≤ none_number
    → IsShown (unlisted lists items) firsts rs
shown_unlisted lists items firsts rs firsts_are are few few_lists =
    shown_linked (unlisted lists items) firsts rs
    (AreLinked-unlisted lists items firsts (links_of rs) firsts_are (ap links_of are ∙ all_free items) few few_lists)
    (ap spots_of are ∙ none_listed items)
