-- The places after a write.
use Rattle.std.proofs.Common.{◌≡◌, ◌≢◌, ℕ, zero, suc, ◌+◌, ◌*◌, ◌≤◌, ◌<◌, List, [], ◌∷◌, length, take, drop, get_or, set, Option, Some, None, option_map, refl, sym, ap, subst, ◌∙◌, inl, inr, arith, length-set, Vec, Global}
use Rattle.std.proofs.lemmas.Nat.{row_fits}
use Rattle.std.proofs.lemmas.Bool.{cases_eq, cases_lt}
use Rattle.std.proofs.lemmas.List.{drop-take, get_or-set_same, get_or-set_other, ext_get_or, get_or_past, length-append, length-drop, length-take-le, with_items_is}
use Rattle.std.proofs.lemmas.Slice.{take-put_mid_below, drop-put_mid, between-put_mid}
use Rattle.std.specs.Vec.{with_items}
use borrow.Rule.Slice.PartMut.{put_mid}
use Rattle.mm_names.specs.private.Places.{names_in, ArePlaced}
use Rattle.mm_names.proofs.Lemmas.Places.{name_in, length-names_in, get_or-names_in}

-- what the places have after a name was written at the head of the place m
module _ (width : ℕ) (bytes : List ℕ) (m : ℕ) (name : List ℕ) (k : ℕ) (is : length name ≡ k) (short : k ≤ width) (within : m * width + width ≤ length bytes) where
  abbrev pub written : List ℕ
  written = put_mid (m * width) k bytes name

  name_in-here : name_in width m written (Some k) ≡ Some name
  name_in-here =
      ap Some (ap (λ n. take n (drop (m * width) written)) (omega arith) ∙ between-put_mid (m * width) k bytes name (m * width + k) (omega arith) (omega arith))

  below : (n l : ℕ) → n < m → l ≤ width → take l (drop (n * width) written) ≡ take l (drop (n * width) bytes)
  below n l earlier fits =
      let room : n * width + width ≤ m * width = row_fits n width m width earlier (omega arith) in
      sym (drop-take (n * width) l written)
      ∙ ap (drop (n * width)) (take-put_mid_below (m * width) k bytes name (n * width + l) (omega arith) (omega arith))
      ∙ drop-take (n * width) l bytes

  above : (n : ℕ) → m < n → drop (n * width) written ≡ drop (n * width) bytes
  above n later =
      let room : m * width + width ≤ n * width = row_fits m width n width later (omega arith) in
      drop-put_mid (m * width) k bytes name (n * width) (omega arith) (omega arith) is

  name_in-elsewhere : (n : ℕ) (l : Option ℕ) → n ≢ m → ((x : ℕ) → l ≡ Some x → x ≤ width) → name_in width n written l ≡ name_in width n bytes l
  name_in-elsewhere n None apart fits = refl
  name_in-elsewhere n (Some l) apart fits = elim (cases_lt n m) [
    | inl earlier ↦ ap Some (below n l earlier (fits l refl))
    | inr later ↦ ap (λ rest. Some (take l rest)) (above n (omega arith))
  ]

module _ (width : ℕ) (ls : List (Option ℕ)) (bytes : List ℕ) (placed : ArePlaced width ls bytes) where
  -- the names after one is written
  pub names_in-written : (m : ℕ) (name : List ℕ) (k : ℕ) → length name ≡ k → k ≤ width → m < length ls
      → names_in width (set ls m (Some k)) (put_mid (m * width) k bytes name) ≡ set (names_in width ls bytes) m (Some name)
  names_in-written m name k is short within =
      let room : m * width + width ≤ length ls * width = row_fits m width (length ls) width within (omega arith) in
      let inside : m * width + width ≤ length bytes = omega (arith, placed.room) in
      let after = put_mid (m * width) k bytes name in
      let names = names_in width ls bytes in
      ext_get_or None (names_in width (set ls m (Some k)) after) (set names m (Some name))
      (length-names_in width (set ls m (Some k)) after ∙ length-set ls m (Some k) ∙ sym (length-set names m (Some name) ∙ length-names_in width ls bytes))
      (λ n below. get_or-names_in width (set ls m (Some k)) after n ∙ elim (cases_eq n m) [
        | inl same ↦
            let at_m : name_in width m after (get_or (set ls m (Some k)) m None) ≡ get_or (set names m (Some name)) m None =
            ap (name_in width m after) (get_or-set_same ls m (Some k) None within)
            ∙ name_in-here width bytes m name k is short inside
            ∙ sym (get_or-set_same names m (Some name) None (omega (arith, length-names_in width ls bytes))) in
            subst (λ i. name_in width i after (get_or (set ls m (Some k)) i None) ≡ get_or (set names m (Some name)) i None) (sym same) at_m
        | inr apart ↦
            ap (name_in width n after) (get_or-set_other ls m n (Some k) None apart)
            ∙ name_in-elsewhere width bytes m name k is short inside n (get_or ls n None) apart (λ l has. (placed.fits n l has).1)
            ∙ sym (get_or-names_in width ls bytes n)
            ∙ sym (get_or-set_other names m n (Some name) None apart)
      ])

  -- each name is in its place after a length is written
  pub ArePlaced-set : (m : ℕ) (l : Option ℕ) (after : List ℕ) → length after ≡ length bytes → ((k : ℕ) → l ≡ Some k → (1 ≤ k) × (k ≤ width))
      → ArePlaced width (set ls m l) after
  ArePlaced-set m l after same has_length =
      let size = length-set ls m l in
      record {
        room = same ∙ placed.room ∙ ap (λ n. n * width) (sym size);
        numbers = (omega arith, omega arith);
        wide = placed.wide;
        fits = λ n k is. elim (cases_eq n m) [
          | inl here ↦ elim (cases_lt m (length ls)) [
            | inl within ↦ has_length k (sym (get_or-set_same ls m l None within) ∙ ap (λ i. get_or (set ls m l) i None) (sym here) ∙ is)
            | inr past ↦ (let none : get_or (set ls m l) n None ≡ None = get_or_past (set ls m l) n None (omega arith) in let never : None ≡ Some k = sym none ∙ is in absurd (cc))
          ]
          | inr apart ↦ placed.fits n k (sym (get_or-set_other ls m n l None apart) ∙ is)
        ];
      }

-- the names after one is taken away
pub names_in-cleared : (width : ℕ) (ls : List (Option ℕ)) (bytes : List ℕ) (m : ℕ) → names_in width (set ls m None) bytes ≡ set (names_in width ls bytes) m None
names_in-cleared width [] bytes m = refl
names_in-cleared width (l ∷ ls) bytes zero = refl
names_in-cleared width (l ∷ ls) bytes (suc m) =
    ap (λ names. option_map (λ length. take length bytes) l ∷ names) (names_in-cleared width ls (drop width bytes) m)

length-put_mid : (start k : ℕ) (bytes name : List ℕ) → length name ≡ k → start + k ≤ length bytes → length (put_mid start k bytes name) ≡ length bytes
length-put_mid start k bytes name is fits =
    rw (length-append, length-append, length-drop, length-drop, length-take-le start bytes (omega arith)) (omega arith)

-- what a vector of bytes has after a write to a part of it
pub record IsWritten (v : Vec ℕ Global) (start : ℕ) (name now : List ℕ) : Type 0 where
  pub items : now ≡ put_mid start (length name) v.items name
  pub size : length now ≡ length v.items

pub IsWritten-put_mid : (v : Vec ℕ Global) (was now name : List ℕ) (start k : ℕ) → was ≡ v.items → length was ≡ v.len → now ≡ name → k ≡ length name → start + length name ≤ length v.items
    → IsWritten v start name (with_items v (put_mid start k was now)).items
IsWritten-put_mid v was now name start k is size after whole fits =
    let same : put_mid start k was now ≡ put_mid start (length name) v.items name = rw (is, after, whole) refl in
    let long = length-put_mid start (length name) v.items name refl fits in
    let items = with_items_is v (put_mid start k was now) (ap length same ∙ long ∙ sym (ap length is) ∙ size) ∙ same in
    record { items = items; size = ap length items ∙ long }
