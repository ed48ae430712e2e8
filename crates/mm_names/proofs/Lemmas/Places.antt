-- The names in their places, and what is read of them.
use Rattle.std.proofs.Common.{◌≡◌, ℕ, zero, suc, ◌+◌, ◌*◌, ◌≤◌, ◌<◌, List, [], ◌∷◌, length, take, drop, get_or, replicate, Option, Some, None, option_map, refl, sym, ap, ◌∙◌, inl, inr, arith}
use Rattle.std.proofs.Math.Nat.{suc-mul}
use Rattle.std.proofs.lemmas.Nat.{row_fits}
use Rattle.std.proofs.lemmas.Bool.{cases_lt}
use Rattle.std.proofs.lemmas.List.{drop-drop, get_or_past, get_or-replicate, length-drop, length-replicate, length-take-le}
use Rattle.std.proofs.lemmas.Option.{same_Some}
use Rattle.mm_names.specs.Names.{NameTable, name_of, CanBeName, IsInRange}
use Rattle.mm_names.specs.private.Places.{names_in, seen, ArePlaced}

-- what stands in the place n, where it has this length
abbrev pub name_in : ℕ → ℕ → List ℕ → Option ℕ → Option (List ℕ)
name_in width n bytes l = option_map (λ length. take length (drop (n * width) bytes)) l

pub length-names_in : (width : ℕ) (ls : List (Option ℕ)) (bytes : List ℕ) → length (names_in width ls bytes) ≡ length ls
length-names_in width [] bytes = refl
length-names_in width (l ∷ ls) bytes = ap suc (length-names_in width ls (drop width bytes))

pub get_or-names_in : (width : ℕ) (ls : List (Option ℕ)) (bytes : List ℕ) (n : ℕ) → get_or (names_in width ls bytes) n None ≡ name_in width n bytes (get_or ls n None)
get_or-names_in width [] bytes n = refl
get_or-names_in width (l ∷ ls) bytes zero =
    ap (λ k. option_map (λ length. take length (drop k bytes)) l) (let none : 0 ≡ 0 * width = omega arith in none)
get_or-names_in width (l ∷ ls) bytes (suc n) =
    get_or-names_in width ls (drop width bytes) n
    ∙ ap (λ rest. option_map (λ length. take length rest) (get_or ls n None)) (drop-drop (n * width) width bytes ∙ ap (λ k. drop k bytes) (omega (arith, suc-mul n width)))

-- at the opening no number has a name
pub names_in-none : (width n : ℕ) (bytes : List ℕ) → names_in width (replicate n None) bytes ≡ replicate n None
names_in-none width zero bytes = refl
names_in-none width (suc n) bytes = ap (λ names. None ∷ names) (names_in-none width n (drop width bytes))

-- and no name has a length
pub no_length : {P : Type 0} (n i l : ℕ) → get_or (replicate n None) i None ≡ Some l → P
no_length n i l is = elim (cases_lt i n) [
  | inl below ↦ (let none : get_or {A = Option ℕ} (replicate n None) i None ≡ None = get_or-replicate n i None None below in let never : None ≡ Some l = sym none ∙ is in absurd (cc))
  | inr past ↦ (let none : get_or {A = Option ℕ} (replicate n None) i None ≡ None = get_or_past (replicate n None) i None (omega (arith, length-replicate {A = Option ℕ} n None)) in let never : None ≡ Some l = sym none ∙ is in absurd (cc))
]

-- what a caller sees, and the fields
module _ (t : NameTable) (width : ℕ) (ls : List (Option ℕ)) (bytes : List ℕ) (is : seen width ls bytes ≡ t) (placed : ArePlaced width ls bytes) where
  pub as_many : length t.names ≡ length ls
  as_many = sym (ap (λ (s : NameTable). length s.names) is) ∙ length-names_in width ls bytes

  pub as_wide : t.name_bytes ≡ width
  as_wide = sym (ap (λ (s : NameTable). s.name_bytes) is)

  pub name_at : (n : ℕ) → name_of t n ≡ name_in width n bytes (get_or ls n None)
  name_at n = sym (ap (λ s. name_of s n) is) ∙ get_or-names_in width ls bytes n

  -- the place of a number is within the bytes
  pub has_place : (n : ℕ) → n < length t.names → n * width + width ≤ length bytes
  has_place n below =
      omega (arith, row_fits n width (length ls) width (omega (arith, as_many)) (omega arith), placed.room)

  -- all is in range
  pub IsInRange-seen : IsInRange t
  IsInRange-seen = record {
    lengths = λ n name has. lengths n (get_or ls n None) name refl (sym (name_at n) ∙ has);
    numbers = (omega (arith, as_many, placed.numbers), omega (arith, as_many, placed.numbers));
    bytes = (omega (arith, as_wide, placed.wide), omega (arith, as_wide, placed.wide));
  } where
    lengths : (n : ℕ) (l : Option ℕ) (name : List ℕ) → get_or ls n None ≡ l → name_in width n bytes l ≡ Some name → CanBeName t name
    lengths n None name has is = let never : None ≡ Some name = is in absurd (cc)
    lengths n (Some l) name has is =
        let below : n < length ls = elim (cases_lt n (length ls)) [
          | inl below ↦ below
          | inr past ↦ (let never : None ≡ Some l = sym (get_or_past ls n None past) ∙ has in absurd (cc))
        ] in
        let rest = drop (n * width) bytes in
        let taken : take l rest ≡ name = same_Some _ _ is in
        let fits = placed.fits n l has in
        let long : length name ≡ l = ap length (sym taken) ∙ length-take-le l rest (omega (arith, length-drop (n * width) bytes, has_place n (omega (arith, as_many)), fits)) in
        record { some = omega (arith, long, fits); short = omega (arith, long, fits, as_wide) }
