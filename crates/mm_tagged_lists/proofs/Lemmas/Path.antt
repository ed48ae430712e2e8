-- Items that are freed one after the other, along the links.
use Rattle.std.proofs.Common.{◌≡◌, ◌<◌, ◌≤◌, ℕ, zero, suc, List, [], ◌∷◌, length, fold, Option, Some, None, get_or, slice_get, refl, sym, ap, subst, ◌∙◌, inl, inr, arith, set, length-set}
use Rattle.std.specs.Option.{option_and_then}
use Rattle.std.proofs.lemmas.Option.{same_Some, slice_get_within}
use Rattle.mm_lists.specs.Members.{Among, NoRepeat}
use Rattle.mm_lists.proofs.Lemmas.NoRepeat.{length-NoRepeat}
use Rattle.mm_lists.proofs.Lemmas.Set.{slice_get-set_other}
use Rattle.mm_links.specs.declared.links.Links.{Links}
use Rattle.mm_links.specs.Links.{unlinked, next_of}
use Rattle.mm_links.specs.Chain.{head_or, walk, IsChain}
use Rattle.mm_tagged_lists.specs.declared.tagged_lists.Item.{Item}
use Rattle.mm_tagged_lists.specs.private.Linked.{links_of}
use Rattle.mm_tagged_lists.specs.private.Path.{IsPath, freed_in}
use Rattle.mm_tagged_lists.proofs.Lemmas.Items.{length-links_of, set_links}

-- ---- paths

path_within : (links : List Links) (first : Option ℕ) (rs : List ℕ) → IsPath links first rs → (q : ℕ) → Among q rs → q < length links
path_within links first [] path q among = absurd among
path_within links first (r ∷ rs) path q (inl same) = subst (λ n. n < length links) (sym same) path.1
path_within links first (r ∷ rs) path q (inr later) = path_within links (next_of links r) rs path.2 q later

-- a walk from the first on gives the path
walk_path : (links : List Links) (first : Option ℕ) (rs : List ℕ) (most : ℕ) → length rs ≤ most → IsPath links first rs → walk links most first ≡ rs
walk_path links first [] zero short path = refl
walk_path links first [] (suc most) short path = ap (walk links (suc most)) path
walk_path links first (r ∷ rs) zero short path = absurd (omega arith)
walk_path links first (r ∷ rs) (suc most) short path =
    ap (walk links (suc most)) path.0 ∙ ap (λ qs. r ∷ qs) (walk_path links (next_of links r) rs most (omega arith) path.2)

path_seen : (links : List Links) (first : Option ℕ) (rs : List ℕ) → NoRepeat rs → IsPath links first rs → walk links (length links) first ≡ rs
path_seen links first rs once path = walk_path links first rs (length links) (length-NoRepeat rs (length links) once (path_within links first rs path)) path

-- where what is not on it changes, a path stays
path_kept : (links : List Links) (first : Option ℕ) (rs : List ℕ) (r : ℕ) (link : Links) → (Among r rs → ⊥) → IsPath links first rs → IsPath (set links r link) first rs
path_kept links first [] r link absent path = path
path_kept links first (q ∷ rs) r link absent path =
    let same : next_of (set links r link) q ≡ next_of links q = ap (option_and_then (λ l. l.next)) (slice_get-set_other links q r link (λ is. absent (inl (sym is)))) in
    (path.0, omega (arith, length-set links r link, path.1), subst (λ f. IsPath (set links r link) f rs) (sym same) (path_kept links (next_of links q) rs r link (λ later. absent (inr later)) path.2))

-- a chain is one
pub chain_path : (links : List Links) (before : Option ℕ) (rs : List ℕ) → IsChain links before rs None → IsPath links (head_or rs None) rs
chain_path links before [] chain = refl
chain_path links before (r ∷ rs) chain =
    let next : next_of links r ≡ head_or rs None = ap (option_and_then (λ l. l.next)) chain.0 in
    (refl, slice_get_within links r _ chain.0, subst (λ f. IsPath links f rs) (sym next) (chain_path links (Some r) rs chain.1))

-- ---- the loop

-- those from `next` on are left to be freed, of those from `first` on
pub record IsLeft (was : List Item) (first : Option ℕ) (now : List Item) (next : Option ℕ) : Type 0 where
  pub rest : List ℕ
  pub once : NoRepeat rest
  pub path : IsPath (links_of now) next rest
  pub whole : (rs : List ℕ) → NoRepeat rs → IsPath (links_of was) first rs → fold freed_in now rest ≡ fold freed_in was rs

-- there is one path from a first one on
one_path : (links : List Links) (first : Option ℕ) (xs ys : List ℕ) → IsPath links first xs → IsPath links first ys → xs ≡ ys
one_path links first [] [] x y = refl
one_path links first [] (q ∷ ys) x y = let never : None ≡ Some q = sym x ∙ y.0 in absurd (cc)
one_path links first (p ∷ xs) [] x y = let never : None ≡ Some p = sym y ∙ x.0 in absurd (cc)
one_path links first (p ∷ xs) (q ∷ ys) x y =
    let same : p ≡ q = same_Some p q (sym x.0 ∙ y.0) in
    let there = subst (λ n. IsPath links (next_of links n) ys) (sym same) y.2 in
    ap (λ n. n ∷ xs) same ∙ ap (λ zs. q ∷ zs) (one_path links (next_of links p) xs ys x.2 there)

pub left_at_first : (was : List Item) (first : Option ℕ) → (rs : List ℕ) × NoRepeat rs × IsPath (links_of was) first rs → IsLeft was first was first
left_at_first was first given = record {
  rest = given.0;
  once = given.1;
  path = given.2;
  whole = λ rs once path. ap (fold freed_in was) (one_path (links_of was) first given.0 rs given.2 path);
}

-- what is read of r
pub read_next : (now : List Item) (r : ℕ) (was other : Item) → r < length now → was ≡ get_or now r other → was.links.next ≡ next_of (links_of now) r
read_next now r was other below read =
    ap (λ (x : Item). x.links.next) read ∙ sym (ap (option_and_then (λ l. l.next)) (link_read now r other below))
  where
    link_read : (now : List Item) (r : ℕ) (other : Item) → r < length now → slice_get (links_of now) r ≡ Some (get_or now r other).links
    link_read [] r other below = absurd (omega arith)
    link_read (x ∷ xs) zero other below = refl
    link_read (x ∷ xs) (suc r) other below = link_read xs r other (omega arith)

module _ (was : List Item) (first : Option ℕ) (now : List Item) (next : Option ℕ) (left : IsLeft was first now next) where
  -- where none is left, all are freed
  pub all_freed : next ≡ None → (rs : List ℕ) → NoRepeat rs → IsPath (links_of was) first rs → now ≡ fold freed_in was rs
  all_freed none rs once path = by left.rest left.path (left.whole rs once path)
    where
      by : (xs : List ℕ) → IsPath (links_of now) next xs → fold freed_in now xs ≡ fold freed_in was rs → now ≡ fold freed_in was rs
      by [] path same = same
      by (x ∷ xs) path same = let never : None ≡ Some x = sym none ∙ path.0 in absurd (cc)

  module _ (r : ℕ) (is : next ≡ Some r) where
    -- r is the first that is left
    pub record Cut (xs : List ℕ) : Type 0 where
      pub later : List ℕ
      pub whole : xs ≡ r ∷ later
      pub below : r < length (links_of now)
      pub path : IsPath (links_of now) (next_of (links_of now) r) later

    cut_by : (xs : List ℕ) → IsPath (links_of now) next xs → Cut xs
    cut_by [] path = let never : None ≡ Some r = sym path ∙ is in absurd (cc)
    cut_by (x ∷ xs) path =
        let same : x ≡ r = same_Some x r (sym path.0 ∙ is) in
        record {
          later = xs;
          whole = ap (λ n. n ∷ xs) same;
          below = subst (λ n. n < length (links_of now)) same path.1;
          path = subst (λ n. IsPath (links_of now) (next_of (links_of now) n) xs) same path.2;
        }

    cut : Cut left.rest
    cut = cut_by left.rest left.path

    pub below : r < length now
    below = omega (arith, length-links_of now, cut.below)

    once_cut : NoRepeat (r ∷ cut.later)
    once_cut = subst NoRepeat cut.whole left.once

    module _ (then : List Item) (after : Option ℕ) (then_is : then ≡ freed_in now r) (after_is : after ≡ next_of (links_of now) r) where
      links_then : links_of then ≡ set (links_of now) r unlinked
      links_then = ap links_of then_is ∙ set_links now r _

      path_then : IsPath (links_of then) after cut.later
      path_then = rw (links_then, after_is) (path_kept (links_of now) (next_of (links_of now) r) cut.later r unlinked once_cut.0 cut.path)

      pub left_then : IsLeft was first then after
      left_then = record {
        rest = cut.later;
        once = once_cut.1;
        path = path_then;
        whole = λ rs once path. ap (λ s. fold freed_in s cut.later) then_is ∙ ap (fold freed_in now) (sym cut.whole) ∙ left.whole rs once path;
      }

      pub fewer_then : length (walk (links_of then) (length (links_of then)) after) < length (walk (links_of now) (length (links_of now)) next)
      fewer_then = omega (arith, ap length (path_seen (links_of then) after cut.later once_cut.1 path_then), ap length (path_seen (links_of now) next left.rest left.once left.path ∙ cut.whole))
