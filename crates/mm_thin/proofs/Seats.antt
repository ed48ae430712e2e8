-- Which seat has which part, after seats are joined, after one is split, and after a step of two parts.
use Rattle.std.proofs.Common.{◌≡◌, ◌≢◌, ◌⊎◌, ℕ, zero, suc, nat_eq, cond, if◌then◌else◌, List, [], ◌∷◌, ◌++◌, length, set, refl, sym, ap, ◌∙◌, inl, inr, subst, eq-eqb, ne_eqb, ⊎_elim}
use Rattle.std.proofs.lemmas.Bool.{cases_eq}
use mathlib.Core.Option.{some, some-injective, some-ne-none}
use lib.ListN.{get_elem?}
use Rattle.atomic_table.proofs.Lists.{at_set, set_again}
use Rattle.mm_lists.specs.Members.{Among}
use Rattle.mm_lists.proofs.Lemmas.Among.{among_append}
use Rattle.mm_thin.specs.declared.views.DeskView.{DeskView}
use Rattle.mm_thin.specs.declared.views.Part.{Part}
use Rattle.mm_thin.specs.Rule.{place_of, Told, Knows, AllKnow}

-- one more at the end: what is read is one of those before, or that one in its place
at_end : {A : Type 0} (l : List A) (a b : A) (j : ℕ) → get_elem? (l ++ a ∷ []) j ≡ some b → (get_elem? l j ≡ some b) ⊎ ((j ≡ length l) × (a ≡ b))
at_end [] a b zero e = inr (refl, some-injective a b e)
at_end [] a b (suc j) e = absurd (some-ne-none b (sym e))
at_end (x ∷ xs) a b zero e = inl e
at_end (x ∷ xs) a b (suc j) e = elim (at_end xs a b j e) [ inl before ↦ inl before | inr here ↦ inr (ap suc here.0, here.1) ]

-- what a part knows, at a seat that has it
abbrev pub Sits : DeskView → (ℕ → Told) → (ℕ → ℕ) → ℕ → Part → Type 0
Sits d g seat_of seat part = (seat ≡ seat_of (place_of part)) × Knows d g part

-- the seat of one place is another one from now on
abbrev pub moved : (ℕ → ℕ) → ℕ → ℕ → ℕ → ℕ
moved seat_of place new k = if nat_eq k place then new else seat_of k

moved_here : (seat_of : ℕ → ℕ) (place new k : ℕ) → k ≡ place → moved seat_of place new k ≡ new
moved_here seat_of place new k same = ap (λ b. cond b new (seat_of k)) (eq-eqb k place same)

moved_there : (seat_of : ℕ → ℕ) (place new k : ℕ) → k ≢ place → moved seat_of place new k ≡ seat_of k
moved_there seat_of place new k apart = ap (λ b. cond b new (seat_of k)) (ne_eqb k place apart)

-- all parts of one seat are another one's from now on
abbrev pub handed : (ℕ → ℕ) → ℕ → ℕ → ℕ → ℕ
handed seat_of other seat k = if nat_eq (seat_of k) other then seat else seat_of k

handed_over : (seat_of : ℕ → ℕ) (other seat k : ℕ) → other ≡ seat_of k → handed seat_of other seat k ≡ seat
handed_over seat_of other seat k of = ap (λ b. cond b seat (seat_of k)) (eq-eqb (seat_of k) other (sym of))

handed_kept : (seat_of : ℕ → ℕ) (other seat k : ℕ) → seat_of k ≢ other → handed seat_of other seat k ≡ seat_of k
handed_kept seat_of other seat k apart = ap (λ b. cond b seat (seat_of k)) (ne_eqb (seat_of k) other apart)

handed_own : (seat_of : ℕ → ℕ) (other seat k : ℕ) → seat ≡ seat_of k → handed seat_of other seat k ≡ seat
handed_own seat_of other seat k own = elim (cases_eq (seat_of k) other) [
  | inl same ↦ handed_over seat_of other seat k (sym same)
  | inr apart ↦ handed_kept seat_of other seat k apart ∙ sym own
]

module _ (views : List (List Part)) (d : DeskView) (g : ℕ → Told) (seat_of : ℕ → ℕ) (parts : AllKnow views d g seat_of) where
  -- ---- two seats are joined

  module _ (seat other : ℕ) (v w : List Part) (at : get_elem? views seat ≡ some v) (differs : other ≢ seat) (there : get_elem? (set views seat (v ++ w)) other ≡ some w) where
    was_there : get_elem? views other ≡ some w
    was_there = ⊎_elim
        (λ (here : (other ≡ seat) × (v ++ w ≡ w)). absurd (differs here.0))
        (λ (before : (other ≢ seat) × (get_elem? views other ≡ some w)). before.1)
        (at_set views seat other (v ++ w) w there)

    joined_part : (part : Part) → Among part (v ++ w) → Sits d g (handed seat_of other seat) seat part
    joined_part part among = elim (among_append v w part among) [
      | inl left ↦ (let sits = parts seat v part at left in (sym (handed_own seat_of other seat (place_of part) sits.0), sits.1))
      | inr right ↦ (let sits = parts other w part was_there right in (sym (handed_over seat_of other seat (place_of part) sits.0), sits.1))
    ]

    other_part : (k : ℕ) (u : List Part) (part : Part) → k ≢ other → get_elem? views k ≡ some u → Among part u → Sits d g (handed seat_of other seat) k part
    other_part k u part apart e among =
        let sits = parts k u part e among in
        (sits.0 ∙ sym (handed_kept seat_of other seat (place_of part) (λ same. apart (sits.0 ∙ same))), sits.1)

    pub joined : AllKnow (set (set views seat (v ++ w)) other []) d g (handed seat_of other seat)
    joined k u part e among = ⊎_elim
        (λ (spent : (k ≡ other) × ([] ≡ u)). absurd (subst (λ (x : List Part). Among part x) (sym spent.1) among))
        (λ (rest : (k ≢ other) × (get_elem? (set views seat (v ++ w)) k ≡ some u)). ⊎_elim
        (λ (here : (k ≡ seat) × (v ++ w ≡ u)). subst (λ (i : ℕ). Sits d g (handed seat_of other seat) i part) (sym here.0) (joined_part part (subst (λ (x : List Part). Among part x) (sym here.1) among)))
        (λ (before : (k ≢ seat) × (get_elem? views k ≡ some u)). other_part k u part rest.0 before.1 among)
        (at_set views seat k (v ++ w) u rest.1))
        (at_set (set views seat (v ++ w)) other k [] u e)

  -- ---- a part is split off, or a new one is made

  module _ (seat : ℕ) (x y : Part) (e : DeskView) (h : ℕ → Told) (own : seat ≡ seat_of (place_of x)) (differ : place_of x ≢ place_of y) (x_knows : Knows e h x) (y_knows : Knows e h y)
      (others : (k : ℕ) (z : Part) → k ≢ seat → k ≡ seat_of (place_of z) → Knows d g z → (place_of z ≢ place_of y) × Knows e h z) where
    abbrev new : ℕ
    new = length (set views seat (x ∷ []))

    kept_part : (part : Part) → Among part (x ∷ []) → Sits e h (moved seat_of (place_of y) new) seat part
    kept_part part (inl is) = subst (λ (p : Part). Sits e h (moved seat_of (place_of y) new) seat p) (sym is) (own ∙ sym (moved_there seat_of (place_of y) new (place_of x) differ), x_knows)
    kept_part part (inr never) = absurd never

    new_part : (part : Part) → Among part (y ∷ []) → Sits e h (moved seat_of (place_of y) new) new part
    new_part part (inl is) = subst (λ (p : Part). Sits e h (moved seat_of (place_of y) new) new p) (sym is) (sym (moved_here seat_of (place_of y) new (place_of y) refl), y_knows)
    new_part part (inr never) = absurd never

    elsewhere : (k : ℕ) (u : List Part) (part : Part) → k ≢ seat → get_elem? views k ≡ some u → Among part u → Sits e h (moved seat_of (place_of y) new) k part
    elsewhere k u part apart e among =
        let sits = parts k u part e among in
        let now = others k part apart sits.0 sits.1 in
        (sits.0 ∙ sym (moved_there seat_of (place_of y) new (place_of part) now.0), now.1)

    pub split_off : AllKnow (set views seat (x ∷ []) ++ (y ∷ []) ∷ []) e h (moved seat_of (place_of y) new)
    split_off k u part is among = ⊎_elim
        (λ (old : get_elem? (set views seat (x ∷ [])) k ≡ some u). ⊎_elim
        (λ (here : (k ≡ seat) × (x ∷ [] ≡ u)). subst (λ (i : ℕ). Sits e h (moved seat_of (place_of y) new) i part) (sym here.0) (kept_part part (subst (λ (v : List Part). Among part v) (sym here.1) among)))
        (λ (there : (k ≢ seat) × (get_elem? views k ≡ some u)). elsewhere k u part there.0 there.1 among)
        (at_set views seat k (x ∷ []) u old))
        (λ (here : (k ≡ new) × (y ∷ [] ≡ u)). subst (λ (i : ℕ). Sits e h (moved seat_of (place_of y) new) i part) (sym here.0) (new_part part (subst (λ (v : List Part). Among part v) (sym here.1) among)))
        (at_end (set views seat (x ∷ [])) (y ∷ []) u k is)

  -- ---- a part is added to a seat

  module _ (seat : ℕ) (x y : Part) (e : DeskView) (h : ℕ → Told) (own : seat ≡ seat_of (place_of y)) (differ : place_of y ≢ place_of x) (x_knows : Knows e h x) (y_knows : Knows e h y)
      (others : (k : ℕ) (z : Part) → k ≢ seat → k ≡ seat_of (place_of z) → Knows d g z → (place_of z ≢ place_of x) × Knows e h z) where
    abbrev seats : ℕ → ℕ
    seats = moved seat_of (place_of x) seat

    added_part : (part : Part) → Among part (x ∷ y ∷ []) → Sits e h seats seat part
    added_part part (inl is) = subst (λ (p : Part). Sits e h seats seat p) (sym is) (sym (moved_here seat_of (place_of x) seat (place_of x) refl), x_knows)
    added_part part (inr (inl is)) = subst (λ (p : Part). Sits e h seats seat p) (sym is) (own ∙ sym (moved_there seat_of (place_of x) seat (place_of y) differ), y_knows)
    added_part part (inr (inr never)) = absurd never

    pub added : AllKnow (set views seat (x ∷ y ∷ [])) e h seats
    added k u part is among = ⊎_elim
        (λ (here : (k ≡ seat) × (x ∷ y ∷ [] ≡ u)). subst (λ (i : ℕ). Sits e h seats i part) (sym here.0) (added_part part (subst (λ (v : List Part). Among part v) (sym here.1) among)))
        (λ (there : (k ≢ seat) × (get_elem? views k ≡ some u)).
        let sits = parts k u part there.1 among in
        let now = others k part there.0 sits.0 sits.1 in
        (sits.0 ∙ sym (moved_there seat_of (place_of x) seat (place_of part) now.0), now.1))
        (at_set views seat k (x ∷ y ∷ []) u is)

  -- ---- a step of one part

  module _ (seat : ℕ) (x : Part) (e : DeskView) (h : ℕ → Told) (own : seat ≡ seat_of (place_of x)) (x_knows : Knows e h x)
      (others : (k : ℕ) (z : Part) → place_of z ≢ place_of x → Knows d g z → Knows e h z) where
    alone_part : (part : Part) → Among part (x ∷ []) → Sits e h seat_of seat part
    alone_part part (inl is) = subst (λ (p : Part). Sits e h seat_of seat p) (sym is) (own, x_knows)
    alone_part part (inr never) = absurd never

    pub changed_alone : AllKnow (set views seat (x ∷ [])) e h seat_of
    changed_alone k u part is among = ⊎_elim
        (λ (here : (k ≡ seat) × (x ∷ [] ≡ u)). subst (λ (i : ℕ). Sits e h seat_of i part) (sym here.0) (alone_part part (subst (λ (v : List Part). Among part v) (sym here.1) among)))
        (λ (there : (k ≢ seat) × (get_elem? views k ≡ some u)).
        let sits = parts k u part there.1 among in
        (sits.0, others k part (λ same. there.0 (sits.0 ∙ ap seat_of same ∙ sym own)) sits.1))
        (at_set views seat k (x ∷ []) u is)

  -- ---- a seat without parts is split off

  pub blank_off : (seat : ℕ) (v : List Part) → get_elem? views seat ≡ some v → AllKnow (set views seat v ++ [] ∷ []) d g seat_of
  blank_off seat v at k u part is among = ⊎_elim
      (λ (old : get_elem? (set views seat v) k ≡ some u). parts k u part (subst (λ (l : List (List Part)). get_elem? l k ≡ some u) (set_again views seat v at) old) among)
      (λ (here : (k ≡ length (set views seat v)) × ([] ≡ u)). absurd (subst (λ (x : List Part). Among part x) (sym here.1) among))
      (at_end (set views seat v) [] u k is)
