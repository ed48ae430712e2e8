-- The items of an array in turn, and how many there are.
use Rattle.std.proofs.Common.{◌≡◌, ◌∙◌, ap, refl, sym, ℕ, suc, ◌+◌, ◌<◌, ◌≤◌, true, false, List, [], ◌∷◌, ◌++◌, length, map, get_or, drop, drop-cons, add-one, append_assoc, length-append, nat_le, ◌&&◌, cond, if◌then◌else◌, Option, Some, None, option_map, option_and_then, arith}
use Rattle.std.specs.List.{All}
use Rattle.std.proofs.lemmas.Grind.{common_steps}
use Rattle.std.proofs.lemmas.List.{map-append}
use Rattle.std.proofs.lemmas.List.Elements.{All-append, All-cons}
use Rattle.std.proofs.lemmas.Bool.{le-leb, lt-leb}
use Rattle.serde_json.specs.Data.{Data, Items, item}
use Rattle.serde_json.specs.Find.{as_array}
use Rattle.serde_json.specs.View.{view, items_view}
use Rattle.serde_json.specs.declared.value.Value.{Value}
use Rattle.mm_workload.specs.declared.step.WorkStep.{WorkStep}
use Rattle.mm_workload.specs.Json.{all_of, all_in, count}
use Rattle.mm_workload.specs.Work.{IsShort}

-- what was made so far, and what the rest gives
abbrev pub GoesOn : {X : Type 0} → (Data → Option X) → List X → List Value → List Value → Type 0
GoesOn f made all rest = all_of f (items_view all) ≡ option_map (λ more. made ++ more) (all_of f (items_view rest))

append_none : {X : Type 0} → (xs : List X) → xs ++ [] ≡ xs
append_none [] = refl
append_none (x ∷ xs) = ap (λ ys. x ∷ ys) (append_none xs)

pub goes_on-last : {X : Type 0} → (f : Data → Option X) (made : List X) (all : List Value) → GoesOn f made all [] → all_of f (items_view all) ≡ Some made
goes_on-last f made all on = on ∙ ap Some (append_none made)

pub count-view : (vs : List Value) → count (items_view vs) ≡ length vs
count-view [] = refl
count-view (v ∷ vs) = ap (λ n. 1 + n) (count-view vs) ∙ (omega arith)

within : {X : Type 0} → (least most n : ℕ) (o : Option (List X)) → least ≤ n → n ≤ most → (if nat_le least n && nat_le n most then o else None) ≡ o
within least most n o a b = rw (le-leb least n a, le-leb n most b) refl

over : {X : Type 0} → (least most n : ℕ) (o : Option (List X)) → most < n → (if nat_le least n && nat_le n most then o else None) ≡ None
over least most n o a = elim (nat_le least n) as (λ t. cond (t && nat_le n most) o None ≡ None) [
  | true ↦ rw (lt-leb n most a) refl
  | false ↦ refl
]

under : {X : Type 0} → (least most n : ℕ) (o : Option (List X)) → n < least → (if nat_le least n && nat_le n most then o else None) ≡ None
under least most n o a = rw (lt-leb least n a) refl

pub all_in-within : {X : Type 0} → (least most : ℕ) (f : Data → Option X) (vs : List Value) → least ≤ length vs → length vs ≤ most →
    all_in least most f (items_view vs) ≡ all_of f (items_view vs)
all_in-within least most f vs a b = rw (count-view vs) (within least most (length vs) (all_of f (items_view vs)) a b)

pub all_in-over : {X : Type 0} → (least most : ℕ) (f : Data → Option X) (vs : List Value) → most < length vs → all_in least most f (items_view vs) ≡ None
all_in-over least most f vs a = rw (count-view vs) (over least most (length vs) (all_of f (items_view vs)) a)

pub all_in-under : {X : Type 0} → (least most : ℕ) (f : Data → Option X) (vs : List Value) → length vs < least → all_in least most f (items_view vs) ≡ None
all_in-under least most f vs a = rw (count-view vs) (under least most (length vs) (all_of f (items_view vs)) a)

drop_all : {X : Type 0} → (xs : List X) (n : ℕ) → length xs ≤ n → drop n xs ≡ []
drop_all xs n h = grind (arith, common_steps)

-- past the last item
pub goes_on-end : {X : Type 0} → (f : Data → Option X) (made : List X) (all : List Value) (i : ℕ) → length all ≤ i →
    GoesOn f made all (drop i all) → all_of f (items_view all) ≡ Some made
goes_on-end f made all i h on =
    goes_on-last f made all (on ∙ ap (λ rest. option_map (λ more. made ++ more) (all_of f (items_view rest))) (drop_all all i h))

-- the items of an array that may be absent
pub in_array : {X : Type 0} → (f : Items → Option X) (o : Option Data) → option_and_then (λ d. option_and_then f (as_array d)) o ≡ option_and_then f (option_and_then as_array o)
in_array f None = refl
in_array f (Some d) = refl

-- the items from one on
items_at : (all : List Value) (i : ℕ) (v : Value) → v ≡ get_or all i v → i < length all → items_view (drop i all) ≡ item (view v) (items_view (drop (i + 1) all))
items_at all i v is before =
    ap items_view (drop-cons all i v before ∙ (ap (λ w. w ∷ drop (suc i) all) (sym is) ∙ ap (λ n. v ∷ drop n all) (sym (add-one i))))

one_more : {X : Type 0} → (made : List X) (x : X) (o : Option (List X)) →
    option_map (λ more. made ++ more) (option_map (λ xs. x ∷ xs) o) ≡ option_map (λ more. (made ++ x ∷ []) ++ more) o
one_more made x None = refl
one_more made x (Some xs) = ap Some (sym (append_assoc made (x ∷ []) xs))

-- an item that is something
pub goes_on-next : {X : Type 0} → (f : Data → Option X) (made : List X) (all : List Value) (i : ℕ) (v : Value) (x : X) → v ≡ get_or all i v → i < length all →
    f (view v) ≡ Some x → GoesOn f made all (drop i all) → GoesOn f (made ++ x ∷ []) all (drop (i + 1) all)
goes_on-next f made all i v x is before found on =
    let rest = all_of f (items_view (drop (i + 1) all)) in
    on ∙ (ap (λ ds. option_map (λ more. made ++ more) (all_of f ds)) (items_at all i v is before)
    ∙ (ap (λ o. option_map (λ more. made ++ more) (option_and_then (λ y. option_map (λ xs. y ∷ xs) rest) o)) found ∙ one_more made x rest))

-- an item that is nothing
pub goes_on-none : {X : Type 0} → (f : Data → Option X) (made : List X) (all : List Value) (i : ℕ) (v : Value) → v ≡ get_or all i v → i < length all →
    f (view v) ≡ None → GoesOn f made all (drop i all) → all_of f (items_view all) ≡ None
goes_on-none f made all i v is before none on =
    let rest = all_of f (items_view (drop (i + 1) all)) in
    on ∙ (ap (λ ds. option_map (λ more. made ++ more) (all_of f ds)) (items_at all i v is before)
    ∙ ap (λ o. option_map (λ more. made ++ more) (option_and_then (λ y. option_map (λ xs. y ∷ xs) rest) o)) none)

pub longer : {X : Type 0} → (made all : List X) (x : X) (n : ℕ) → all ≡ made ++ x ∷ [] → length made ≡ n → length all ≡ n + 1
longer made all x n is long = ap length is ∙ (length-append made (x ∷ []) ∙ ap (λ k. k + 1) long)

pub one_mapped : {X Y : Type 0} → (f : X → Y) (made all : List X) (x : X) → all ≡ made ++ x ∷ [] → map f all ≡ map f made ++ f x ∷ []
one_mapped f made all x is = ap (map f) is ∙ map-append f made (x ∷ [])

alone : (own : List WorkStep) → IsShort own → All IsShort (own ∷ [])
alone own h = All-cons IsShort own [] h (λ k d below. omega arith)

-- one client more, whose steps are few
pub one_short : (made : List (List WorkStep)) (own : List WorkStep) → All IsShort made → IsShort own → All IsShort (made ++ own ∷ [])
one_short made own few h = All-append IsShort made (own ∷ []) few (alone own h)
