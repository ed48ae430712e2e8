-- The links after an item is taken from its list.
use Rattle.std.proofs.Common.{◌≡◌, ◌≢◌, ℕ, ◌<◌, List, Option, Some, None, length, get_or, set, slice_get, sym, ap, subst, ◌∙◌, inl, inr, arith, length-set}
use Rattle.std.specs.Option.{option_and_then}
use Rattle.std.proofs.lemmas.Bool.{cases_eq}
use Rattle.std.proofs.lemmas.List.{get_or-set_other, map-set}
use Rattle.std.proofs.lemmas.Option.{same_Some}
use Rattle.mm_tagged_lists.specs.declared.spot.Spot.{Spot}
use Rattle.mm_lists.specs.Members.{Among, without}
use Rattle.mm_lists.proofs.Lemmas.Filter.{without-absent}
use Rattle.mm_links.specs.declared.links.Links.{Links}
use Rattle.mm_links.specs.Links.{next_of, taken_out}
use Rattle.mm_links.specs.Chain.{head_or, first_with_next, IsChain}
use Rattle.mm_links.proofs.Lemmas.TakenOut.{length-taken_out, links_there, slice_get-there, Among-before, Among-next, slice_get-taken_out, slice_get-taken_out_same, IsChain-taken_out, first_with_next-taken_out}
use Rattle.mm_tagged_lists.specs.TaggedLists.{Listing, spot_at, list_at, freed}
use Rattle.mm_tagged_lists.specs.private.Linked.{AreLinked}
use Rattle.mm_tagged_lists.proofs.Lemmas.ListsMatchSpots.{in_no_list, in_its_list, in_range, one_list, list_at-freed, freed_matches, map_without-set}
use Rattle.mm_tagged_lists.proofs.Lemmas.Linked.{heads_of, link_is, chain_elsewhere}

module _ (s : Listing) (spot : Spot) (r : ℕ) (item : r < length s.spots) (firsts : List (Option ℕ)) (links : List Links) (linked : AreLinked s firsts links) (placed : spot_at s r ≡ Some spot) where
  abbrev its_list : List ℕ
  its_list = list_at s spot.list

  among : Among r its_list
  among = in_its_list s linked.matched r spot placed

  abbrev had : Links
  had = links_there links r its_list among (linked.matched.once spot.list) (linked.chains spot.list)

  abbrev rest : List Links
  rest = taken_out links r had

  -- r is in no other list
  absent : (m : ℕ) → m ≢ spot.list → Among r (list_at s m) → ⊥
  absent m other there = other (one_list s linked.matched m spot.list r there among)

  lists_are : (freed s r).lists ≡ set s.lists spot.list (without r its_list)
  lists_are = map_without-set r s.lists spot.list absent

  -- what is not in the list of the spot keeps its links
  kept : (q : ℕ) → (Among q its_list → ⊥) → slice_get rest q ≡ slice_get links q
  kept q elsewhere = slice_get-taken_out links r its_list among (linked.matched.once spot.list) (linked.chains spot.list) q elsewhere

  chain_left : (m : ℕ) → IsChain rest None (without r (list_at s m)) None
  chain_left m =
      elim (cases_eq m spot.list) [
        | inl same ↦
            subst (λ k. IsChain rest None (without r (list_at s k)) None) (sym same)
            (IsChain-taken_out links r its_list among (linked.matched.once spot.list) (linked.chains spot.list))
        | inr other ↦
            subst (λ rs. IsChain rest None rs None) (sym (without-absent r (list_at s m) (absent m other)))
            (chain_elsewhere s firsts links linked rest spot.list m other (λ q _ elsewhere. kept q elsewhere))
      ]

  freed_loose : (q : ℕ) → spot_at (freed s r) q ≡ None → next_of rest q ≡ None
  freed_loose q free_now =
      elim (cases_eq q r) [
        | inl same ↦
            ap (option_and_then (λ l. l.next)) (ap (slice_get rest) same
            ∙ slice_get-taken_out_same links r its_list among (linked.matched.once spot.list) (linked.chains spot.list))
        | inr other ↦
            let was_free : spot_at s q ≡ None = sym (get_or-set_other s.spots r q None None other) ∙ free_now in
            ap (option_and_then (λ l. l.next)) (kept q (in_no_list s linked.matched q was_free spot.list)) ∙ linked.loose q was_free
      ]

  freed_linked : (first : Option ℕ) → first ≡ head_or (without r its_list) None → AreLinked (freed s r) (set firsts spot.list first) rest
  freed_linked first first_is = record {
    heads =
        ap (set firsts spot.list) first_is ∙ ap (λ f. set f spot.list (head_or (without r its_list) None)) linked.heads
        ∙ sym (map-set (λ rs. head_or rs None) s.lists spot.list (without r its_list)) ∙ ap heads_of (sym lists_are);
    chains = λ m. subst (λ rs. IsChain rest None rs None) (sym (list_at-freed s r m)) (chain_left m);
    loose = freed_loose;
    size = length-taken_out links r had ∙ linked.size ∙ sym (length-set s.spots r None);
    few_items = omega (arith, length-taken_out links r had, linked.few_items);
    few_lists = omega (arith, length-set firsts spot.list first, linked.few_lists);
    matched = freed_matches s r item linked.matched;
  }

  -- where a read of the links gave these
  module _ (link other : Links) (read : link ≡ get_or links r other) where
    same_link : had ≡ link
    same_link =
        same_Some _ link (sym (slice_get-there links r its_list among (linked.matched.once spot.list) (linked.chains spot.list))
        ∙ link_is s firsts links linked r link other item read)

    -- what comes before r
    pub before_in_range : (q : ℕ) → link.before ≡ Some q → q < length links
    before_in_range q is =
        let there = Among-before links r its_list among (linked.matched.once spot.list) (linked.chains spot.list) q (ap (λ l. l.before) same_link ∙ is) in
        omega (arith, linked.size, in_range s linked.matched spot.list q there)

    -- what follows it
    pub next_in_range : (q : ℕ) → link.next ≡ Some q → q < length links
    next_in_range q is =
        let there = Among-next links r its_list among (linked.matched.once spot.list) (linked.chains spot.list) q (ap (λ l. l.next) same_link ∙ is) in
        omega (arith, linked.size, in_range s linked.matched spot.list q there)

    pub AreLinked-freed : (first changed : Option ℕ) (new : List Links) → first ≡ head_or its_list None → changed ≡ first_with_next first link.before link.next → new ≡ taken_out links r link → AreLinked (freed s r) (set firsts spot.list changed) new
    AreLinked-freed first changed new first_is changed_is new_is =
        let changed_first : changed ≡ head_or (without r its_list) None =
        changed_is ∙ ap (λ l. first_with_next first l.before l.next) (sym same_link)
        ∙ ap (λ f. first_with_next f had.before had.next) first_is
        ∙ first_with_next-taken_out links r its_list among (linked.matched.once spot.list) (linked.chains spot.list) in
        rw new_is (subst (λ l. AreLinked (freed s r) (set firsts spot.list changed) (taken_out links r l)) same_link
        (freed_linked changed changed_first))
