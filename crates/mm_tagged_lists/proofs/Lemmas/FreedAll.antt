-- The fields after all items of a list are freed.
use Rattle.std.proofs.Common.{◌≡◌, ◌<◌, ℕ, List, [], ◌∷◌, length, fold, Option, Some, None, option_map, get_or, set, refl, sym, ap, subst, ◌∙◌, inl, arith, length-set}
use Rattle.std.proofs.lemmas.List.{set-set, set-get_or, length-map}
use Rattle.std.proofs.lemmas.Option.{same_Some, slice_get-get_or}
use Rattle.mm_tagged_lists.specs.declared.spot.Spot.{Spot}
use Rattle.mm_lists.specs.Members.{Among, NoRepeat, without}
use Rattle.mm_lists.proofs.Lemmas.Cut.{without-cut, AreApart-cut}
use Rattle.mm_links.specs.declared.links.Links.{Links}
use Rattle.mm_links.specs.Links.{unlinked, with_before}
use Rattle.mm_links.specs.Chain.{head_or, IsChain}
use Rattle.mm_tagged_lists.specs.declared.tagged_lists.Item.{Item}
use Rattle.mm_tagged_lists.specs.TaggedLists.{Listing, spot_at, list_at, freed}
use Rattle.mm_tagged_lists.specs.private.Linked.{links_of, spots_of, AreLinked}
use Rattle.mm_tagged_lists.specs.private.Path.{freed_in}
use Rattle.mm_tagged_lists.proofs.Lemmas.ListsMatchSpots.{in_range, list_at-freed}
use Rattle.mm_tagged_lists.proofs.Lemmas.Linked.{first_is}
use Rattle.mm_tagged_lists.proofs.Lemmas.Freed.{AreLinked-freed}
use Rattle.mm_tagged_lists.proofs.Lemmas.Items.{set_links, set_spots}

-- with r linked to nothing
abbrev pub unlinked_at : List Links → ℕ → List Links
unlinked_at links r = set links r unlinked

spot_by : (o : Option Spot) (p : ℕ) → option_map (λ (k : Spot). k.list) o ≡ Some p → (k : Spot) × (o ≡ Some k) × (k.list ≡ p)
spot_by None p is = let never : None ≡ Some p = is in absurd (cc)
spot_by (Some k) p is = (k, refl, same_Some k.list p is)

-- what comes before the first one makes no difference once it is unlinked
before_first : (links : List Links) (rs : List ℕ) → fold unlinked_at (with_before links (head_or rs None) None) rs ≡ fold unlinked_at links rs
before_first links [] = refl
before_first links (q ∷ rs) = ap (λ ls. fold unlinked_at ls rs) (set-set links q _ unlinked)

module _ (p : ℕ) where
  pub all_linked : (rs : List ℕ) (s : Listing) (firsts : List (Option ℕ)) (links : List Links) → AreLinked s firsts links → p < length s.lists → list_at s p ≡ rs → AreLinked (fold freed s rs) (set firsts p None) (fold unlinked_at links rs)
  all_linked [] s firsts links linked below is =
      let none : get_or firsts p None ≡ None = first_is s firsts links linked p (get_or firsts p None) None below refl ∙ ap (λ rs. head_or rs None) is in
      let same : set firsts p None ≡ firsts = ap (set firsts p) (sym none) ∙ set-get_or firsts p None in
      subst (λ f. AreLinked s f links) (sym same) linked
  all_linked (r ∷ rs) s firsts links linked below is =
      let among : Among r (list_at s p) = subst (Among r) (sym is) (inl refl) in
      let spot = spot_by (spot_at s r) p ((linked.matched.listed p r).0 among) in
      let within : r < length s.spots = in_range s linked.matched p r among in
      let once : NoRepeat (r ∷ rs) = subst NoRepeat is (linked.matched.once p) in
      let chain : IsChain links None (r ∷ rs) None = subst (λ qs. IsChain links None qs None) is (linked.chains p) in
      let link : Links = record { before = None; next = head_or rs None } in
      let read : link ≡ get_or links r link = same_Some link (get_or links r link) (sym chain.0 ∙ slice_get-get_or links r link (omega (arith, linked.size, within))) in
      let first = head_or (list_at s spot.0.list) None in
      let left = with_before (set links r unlinked) (head_or rs None) None in
      let one : AreLinked (freed s r) (set firsts spot.0.list (head_or rs None)) left =
      AreLinked-freed s spot.0 r within firsts links linked spot.1 link link read first (head_or rs None) left refl refl refl in
      let here : AreLinked (freed s r) (set firsts p (head_or rs None)) left = subst (λ m. AreLinked (freed s r) (set firsts m (head_or rs None)) left) spot.2 one in
      let rest : list_at (freed s r) p ≡ rs = list_at-freed s r p ∙ ap (without r) is ∙ without-cut [] r rs (AreApart-cut [] r rs once) in
      let all = all_linked rs (freed s r) (set firsts p (head_or rs None)) left here (omega (arith, length-map s.lists (without r), below)) rest in
      rw (sym (before_first (set links r unlinked) rs), sym (set-set firsts p (head_or rs None) None)) all

-- the records
pub links_freed : (rs : List ℕ) (now : List Item) → links_of (fold freed_in now rs) ≡ fold unlinked_at (links_of now) rs
links_freed [] now = refl
links_freed (r ∷ rs) now = links_freed rs (freed_in now r) ∙ ap (λ ls. fold unlinked_at ls rs) (set_links now r _)

pub spots_freed : (rs : List ℕ) (now : List Item) (s : Listing) → spots_of now ≡ s.spots → spots_of (fold freed_in now rs) ≡ (fold freed s rs).spots
spots_freed [] now s is = is
spots_freed (r ∷ rs) now s is = spots_freed rs (freed_in now r) (freed s r) (set_spots now r _ ∙ ap (λ os. set os r None) is)

pub length_freed : (rs : List ℕ) (s : Listing) → length (fold freed s rs).spots ≡ length s.spots
length_freed [] s = refl
length_freed (r ∷ rs) s = length_freed rs (freed s r) ∙ length-set s.spots r None
