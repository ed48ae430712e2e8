-- The links after an item is given a spot.
use Rattle.std.proofs.Common.{◌≡◌, ◌≢◌, ℕ, ◌<◌, List, [], ◌∷◌, Option, Some, None, length, set, sym, ap, subst, ◌∙◌, inl, inr, arith, length-set}
use Rattle.std.specs.Option.{option_and_then}
use Rattle.std.proofs.lemmas.Bool.{cases_eq}
use Rattle.std.proofs.lemmas.List.{get_or-set_same, get_or-set_other, map-set}
use Rattle.mm_tagged_lists.specs.declared.spot.Spot.{Spot}
use Rattle.mm_lists.specs.Members.{Among}
use Rattle.mm_lists.proofs.Lemmas.Set.{get_or-set_cases}
use Rattle.mm_links.specs.declared.links.Links.{Links}
use Rattle.mm_links.specs.Links.{next_of, put_first}
use Rattle.mm_links.specs.Chain.{head_or, IsChain}
use Rattle.mm_links.proofs.Lemmas.PutFirst.{length-put_first, slice_get-put_first, IsChain-put_first}
use Rattle.mm_tagged_lists.specs.TaggedLists.{Listing, spot_at, list_at, given}
use Rattle.mm_tagged_lists.specs.private.Linked.{AreLinked}
use Rattle.mm_tagged_lists.proofs.Lemmas.ListsMatchSpots.{in_no_list, given_matches}
use Rattle.mm_tagged_lists.proofs.Lemmas.Linked.{chain_elsewhere}

module _ (s : Listing) (spot : Spot) (r : ℕ) (list : spot.list < length s.lists) (item : r < length s.spots) (free : spot_at s r ≡ None) (firsts : List (Option ℕ)) (links : List Links) (linked : AreLinked s firsts links) where
  abbrev its_list : List ℕ
  its_list = list_at s spot.list

  abbrev given_links : List Links
  given_links = put_first links r (head_or its_list None)

  absent : (m : ℕ) → Among r (list_at s m) → ⊥
  absent = in_no_list s linked.matched r free

  chain_of_spot : IsChain given_links None (r ∷ its_list) None
  chain_of_spot =
      IsChain-put_first links r its_list (omega (arith, linked.size)) (absent spot.list) (linked.matched.once spot.list) (linked.chains spot.list)

  chain_of_other : (m : ℕ) → m ≢ spot.list → IsChain given_links None (list_at s m) None
  chain_of_other m other =
      chain_elsewhere s firsts links linked given_links spot.list m other
      (λ q here elsewhere. slice_get-put_first links r its_list q (λ same. absent m (subst (λ k. Among k (list_at s m)) same here)) elsewhere)

  given_loose : (q : ℕ) → spot_at (given s spot r) q ≡ None → next_of given_links q ≡ None
  given_loose q free_now =
      elim (cases_eq q r) [
        | inl same ↦
            let never : Some spot ≡ None =
            sym (get_or-set_same s.spots r (Some spot) None item) ∙ ap (spot_at (given s spot r)) (sym same) ∙ free_now in
            absurd (cc)
        | inr other ↦
            let was_free : spot_at s q ≡ None = sym (get_or-set_other s.spots r q (Some spot) None other) ∙ free_now in
            ap (option_and_then (λ l. l.next)) (slice_get-put_first links r its_list q other (in_no_list s linked.matched q was_free spot.list))
            ∙ linked.loose q was_free
      ]

  given_linked : AreLinked (given s spot r) (set firsts spot.list (Some r)) given_links
  given_linked = record {
    heads = ap (λ f. set f spot.list (Some r)) linked.heads ∙ sym (map-set (λ rs. head_or rs None) s.lists spot.list (r ∷ its_list));
    chains = λ m. get_or-set_cases (λ rs. IsChain given_links None rs None) s.lists spot.list (r ∷ its_list) [] m list (λ _. chain_of_spot) (chain_of_other m);
    loose = given_loose;
    size = length-put_first links r (head_or its_list None) ∙ linked.size ∙ sym (length-set s.spots r (Some spot));
    few_items = omega (arith, length-put_first links r (head_or its_list None), linked.few_items);
    few_lists = omega (arith, length-set firsts spot.list (Some r), linked.few_lists);
    matched = given_matches s spot r list item free linked.matched;
  }

  pub AreLinked-given : (next first : Option ℕ) (new : List Links) → next ≡ head_or its_list None → first ≡ Some r → new ≡ put_first links r next → AreLinked (given s spot r) (set firsts spot.list first) new
  AreLinked-given next first new next_is first_is new_is =
      rw (first_is, new_is, next_is) given_linked
