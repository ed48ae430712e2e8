-- The links of the fields, and what is read of them.
use Rattle.std.proofs.Common.{◌≡◌, ◌≢◌, ℕ, suc, replicate, zero, ◌<◌, ◌≤◌, List, [], ◌∷◌, Option, Some, None, map, length, get_or, slice_get, refl, sym, ap, subst, ◌∙◌, arith}
use Rattle.std.specs.Option.{option_and_then}
use Rattle.std.proofs.lemmas.List.{get_or_default, get_or-map, length-map, length-replicate}
use Rattle.std.proofs.lemmas.Option.{slice_get-get_or, same_Some}
use Rattle.mm_tagged_lists.specs.declared.spot.Spot.{Spot}
use Rattle.mm_lists.specs.Members.{Among, head}
use Rattle.mm_lists.proofs.Lemmas.NoRepeat.{length-NoRepeat}
use Rattle.mm_links.specs.declared.links.Links.{Links}
use Rattle.mm_links.specs.Link.{none_number}
use Rattle.mm_links.specs.Links.{unlinked, next_of}
use Rattle.mm_links.specs.Chain.{head_or, walk, IsChain}
use Rattle.mm_links.proofs.Lemmas.Ends.{Among-head_or}
use Rattle.mm_links.proofs.Lemmas.Chain.{IsChain-kept, IsChain-cut, walk-IsChain}
use Rattle.mm_tagged_lists.specs.TaggedLists.{Listing, spot_at, list_at, unlisted, FollowsInList}
use Rattle.mm_tagged_lists.specs.private.Linked.{AreLinked}
use Rattle.mm_tagged_lists.proofs.Lemmas.ListsMatchSpots.{in_range, one_list, list_at-unlisted, unlisted_matches}

pub head_or-None : (xs : List ℕ) → head_or xs None ≡ head xs
head_or-None [] = refl
head_or-None (x ∷ xs) = refl

-- the first of each list
abbrev pub heads_of : List (List ℕ) → List (Option ℕ)
heads_of lists = map (λ rs. head_or rs None) lists

walks : (links : List Links) (most : ℕ) (lists : List (List ℕ)) → ((n : ℕ) → walk links most (head_or (get_or lists n []) None) ≡ get_or lists n []) → map (walk links most) (heads_of lists) ≡ lists
walks links most [] each = refl
walks links most (xs ∷ lists) each = λ i. each 0 i ∷ walks links most lists (λ n. each (suc n)) i

module _ (s : Listing) (firsts : List (Option ℕ)) (links : List Links) (linked : AreLinked s firsts links) where
  -- no list is longer than there are items
  short : (n : ℕ) → length (list_at s n) ≤ length links
  short n =
      length-NoRepeat (list_at s n) (length links) (linked.matched.once n)
      (λ r among. omega (arith, linked.size, in_range s linked.matched n r among))

  -- the walks from the firsts give the lists
  pub lists_seen : map (walk links (length links)) firsts ≡ s.lists
  lists_seen =
      ap (map (walk links (length links))) linked.heads
      ∙ walks links (length links) s.lists (λ n. walk-IsChain links None (list_at s n) (length links) (short n) (linked.chains n))

  -- one first for each list
  pub length-firsts : length firsts ≡ length s.lists
  length-firsts = ap length linked.heads ∙ length-map s.lists (λ rs. head_or rs None)

  -- what a read of the firsts gives
  pub first_is : (n : ℕ) (first other : Option ℕ) → n < length s.lists → first ≡ get_or firsts n other → first ≡ head_or (list_at s n) None
  first_is n first other below read =
      read ∙ get_or_default firsts n other None (omega (arith, length-firsts))
      ∙ ap (λ f. get_or f n None) linked.heads ∙ get_or-map (λ rs. head_or rs None) s.lists n [] None below

  -- the first of a list is an item
  pub first_in_range : (n q : ℕ) → head_or (list_at s n) None ≡ Some q → q < length links
  first_in_range n q is =
      omega (arith, linked.size, in_range s linked.matched n q (Among-head_or (list_at s n) q is))

  -- where what is not in the list n keeps its links, the other lists stay chained
  pub chain_elsewhere : (new : List Links) (n m : ℕ) → m ≢ n → ((q : ℕ) → Among q (list_at s m) → (Among q (list_at s n) → ⊥) → slice_get new q ≡ slice_get links q) → IsChain new None (list_at s m) None
  chain_elsewhere new n m other same =
      IsChain-kept links new None (list_at s m) None
      (λ q here. same q here (λ there. other (one_list s linked.matched m n q here there))) (linked.chains m)

  -- what a read of the links gives
  module _ (r : ℕ) (link other : Links) (below : r < length s.spots) (read : link ≡ get_or links r other) where
    pub link_is : slice_get links r ≡ Some link
    link_is = slice_get-get_or links r other (omega (arith, linked.size)) ∙ ap Some (sym read)

    pub FollowsInList-link : FollowsInList s r link.next
    FollowsInList-link n earlier later whole =
        let here = IsChain-cut links None earlier r later None (subst (λ rs. IsChain links None rs None) whole (linked.chains n)) in
        ap (λ l. l.next) (same_Some link _ (sym link_is ∙ here.link)) ∙ head_or-None later

    pub next-unlisted : spot_at s r ≡ None → link.next ≡ None
    next-unlisted free = ap (option_and_then (λ l. l.next)) (sym link_is) ∙ linked.loose r free

-- ---- at first

no_next : (n r : ℕ) → next_of (replicate n unlinked) r ≡ None
no_next zero r = refl
no_next (suc n) zero = refl
no_next (suc n) (suc r) = no_next n r

no_heads : (n : ℕ) → replicate n None ≡ heads_of (replicate n [])
no_heads zero = refl
no_heads (suc n) = ap (λ firsts. None ∷ firsts) (no_heads n)

pub AreLinked-unlisted : (lists items : ℕ) (firsts : List (Option ℕ)) (links : List Links) → firsts ≡ replicate lists None → links ≡ replicate items unlinked → items ≤ none_number → lists ≤ none_number
    → AreLinked (unlisted lists items) firsts links
AreLinked-unlisted lists items firsts links firsts_are links_are few few_lists =
    let many : length (replicate items unlinked) ≡ items = length-replicate items unlinked in
    let no_spots : length (replicate {A = Option Spot} items None) ≡ items = length-replicate items None in
    let no_firsts : length (replicate {A = Option ℕ} lists None) ≡ lists = length-replicate lists None in
    rw (firsts_are, links_are) (record {
      heads = no_heads lists;
      chains = λ n. subst (λ rs. IsChain (replicate items unlinked) None rs None) (sym (list_at-unlisted lists items n)) tt;
      loose = λ r _. no_next items r;
      size = many ∙ sym no_spots;
      few_items = omega arith;
      few_lists = omega arith;
      matched = unlisted_matches lists items;
    })
