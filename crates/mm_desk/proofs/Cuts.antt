-- The counts while several names change at once.
use Rattle.std.proofs.Common.{◌≡◌, ◌≢◌, ℕ, zero, suc, ◌+◌, ◌<◌, List, [], ◌∷◌, length, set, Option, None, refl, sym, ap, ◌∙◌, subst, inl, inr, arith, get_or-set_same, get_or-set_other, length-set}
use Rattle.std.specs.Prelude.{slice_index}
use Rattle.std.proofs.lemmas.Bool.{cases_eq}
use Rattle.std.proofs.lemmas.List.{set-get_or}
use Rattle.mm_lists.specs.Members.{Among, NoRepeat}
use Rattle.mm_lists.proofs.Lemmas.Among.{among_or_not}
use Rattle.mm_desk.specs.Tally.{name_at, IsCut, IsMended}
use Rattle.mm_desk.proofs.Names.{names_ext}

-- ---- numbers in a list

pub index_of : (n : ℕ) (ns : List ℕ) → Among n ns → (j : ℕ) × (j < length ns) × (slice_index ns j ≡ n)
index_of n [] among = absurd among
index_of n (m ∷ ms) (inl same) = (0, omega arith, sym same)
index_of n (m ∷ ms) (inr later) = (let rest = index_of n ms later in (suc rest.0, (let low = rest.1 in omega arith), rest.2))

among_at : (ns : List ℕ) (j : ℕ) → j < length ns → Among (slice_index ns j) ns
among_at [] j low = absurd (omega arith)
among_at (m ∷ ms) zero low = inl refl
among_at (m ∷ ms) (suc j) low = inr (among_at ms j (omega arith))

pub apart_at : (ns : List ℕ) → NoRepeat ns → (i j : ℕ) → i < length ns → j < length ns → i ≢ j → slice_index ns i ≢ slice_index ns j
apart_at [] once i j low low' apart = absurd (omega arith)
apart_at (m ∷ ms) once zero zero low low' apart = absurd (apart refl)
apart_at (m ∷ ms) once zero (suc j) low low' apart = λ same. once.0 (subst (λ k. Among k ms) (sym same) (among_at ms j (omega arith)))
apart_at (m ∷ ms) once (suc i) zero low low' apart = λ same. once.0 (subst (λ k. Among k ms) same (among_at ms i (omega arith)))
apart_at (m ∷ ms) once (suc i) (suc j) low low' apart = apart_at ms once.1 i j (omega arith) (omega arith) (λ same. apart (ap suc same))

pub none_at : (ns : List ℕ) (n : ℕ) → (Among n ns → ⊥) → (j : ℕ) → j < length ns → slice_index ns j ≢ n
none_at ns n not_among j low same = not_among (subst (λ k. Among k ns) same (among_at ns j low))

-- ---- one number after another

module _ (names : List (Option (List ℕ))) (numbers : List ℕ) (once : NoRepeat numbers) (i : ℕ) (low : i < length numbers) (mid : List (Option (List ℕ))) where
  abbrev number : ℕ
  number = slice_index numbers i

  earlier : (j : ℕ) → j < i → j < length numbers → slice_index numbers j ≢ number
  earlier j before below = apart_at numbers once j i below low (λ same. omega arith)

  later : (j : ℕ) → i < j → j < length numbers → slice_index numbers j ≢ number
  later j after below = apart_at numbers once j i below low (λ same. omega arith)

  module _ (inside : number < length mid) where
    here : (x : Option (List ℕ)) → name_at (set mid number x) number ≡ x
    here x = get_or-set_same mid number x None inside

    there : (x : Option (List ℕ)) (n : ℕ) → n ≢ number → name_at (set mid number x) n ≡ name_at mid n
    there x n apart = get_or-set_other mid number n x None apart

    pub cut_more : IsCut names numbers i mid → IsCut names numbers (i + 1) (set mid number None)
    cut_more cut = record {
      size = length-set mid number None ∙ cut.size;
      gone = λ j before below. elim (cases_eq j i) [
        | inl same ↦ ap (λ k. name_at (set mid number None) (slice_index numbers k)) same ∙ here None
        | inr apart ↦ there None (slice_index numbers j) (earlier j (omega arith) below) ∙ cut.gone j (omega arith) below
      ];
      same = λ n away. there None n (λ is. away i (omega arith) low (sym is)) ∙ cut.same n (λ j before below. away j (omega arith) below);
    }

    pub mend_more : IsMended names numbers i mid → IsMended names numbers (i + 1) (set mid number (name_at names number))
    mend_more mended = record {
      size = length-set mid number (name_at names number) ∙ mended.size;
      done = λ j before below. elim (cases_eq j i) [
        | inl same ↦ ap (λ k. name_at (set mid number (name_at names number)) (slice_index numbers k)) same ∙ here (name_at names number) ∙ ap (λ k. name_at names (slice_index numbers k)) (sym same)
        | inr apart ↦ there (name_at names number) (slice_index numbers j) (earlier j (omega arith) below) ∙ mended.done j (omega arith) below
      ];
      left = λ j after below. there (name_at names number) (slice_index numbers j) (later j (omega arith) below) ∙ mended.left j (omega arith) below;
      same = λ n away. there (name_at names number) n (λ is. away i low (sym is)) ∙ mended.same n away;
    }

  pub cut_here : IsCut names numbers i mid → name_at mid number ≡ name_at names number
  cut_here cut = cut.same number earlier

-- a name is written as it was
pub set_same : (mid : List (Option (List ℕ))) (n : ℕ) (x : Option (List ℕ)) → name_at mid n ≡ x → set mid n x ≡ mid
set_same mid n x is = ap (set mid n) (sym is) ∙ set-get_or mid n None

-- ---- the first and the last

pub cut_none : (names : List (Option (List ℕ))) (numbers : List ℕ) → IsCut names numbers 0 names
cut_none names numbers = record { size = refl; gone = λ j before below. absurd (omega arith); same = λ n away. refl }

-- all are cut, and the names change at these numbers alone
pub cut_to_mend : (names names' : List (Option (List ℕ))) (numbers : List ℕ) (mid : List (Option (List ℕ))) → IsCut names numbers (length numbers) mid → length names' ≡ length names → ((n : ℕ) → (Among n numbers → ⊥) → name_at names' n ≡ name_at names n) → IsMended names' numbers 0 mid
cut_to_mend names names' numbers mid cut size same = record {
  size = cut.size ∙ sym size;
  done = λ j before below. absurd (omega arith);
  left = λ j after below. cut.gone j below below;
  same = λ n away. cut.same n (λ j before below. away j below) ∙ sym (same n (λ among. (let at = index_of n numbers among in away at.0 at.1 at.2)));
}

pub mended_all : (names : List (Option (List ℕ))) (numbers : List ℕ) (mid : List (Option (List ℕ))) → IsMended names numbers (length numbers) mid → mid ≡ names
mended_all names numbers mid mended = names_ext mid names mended.size (λ n. elim (among_or_not n numbers) [
  | inl among ↦ (let at = index_of n numbers among in ap (name_at mid) (sym at.2) ∙ mended.done at.0 at.1 at.1 ∙ ap (name_at names) at.2)
  | inr apart ↦ mended.same n (none_at numbers n apart)
])

-- ---- as the loops ask for them

module _ (names : List (Option (List ℕ))) (numbers : List ℕ) (once : NoRepeat numbers) (within : (n : ℕ) → Among n numbers → n < length names) (i : ℕ) (low : i < length numbers) (mid : List (Option (List ℕ))) (n : ℕ) (is : n ≡ slice_index numbers i) where
  fits : length mid ≡ length names → slice_index numbers i < length mid
  fits size = (let low_number = within (slice_index numbers i) (among_at numbers i low) in omega arith)

  pub cut_ready : IsCut names numbers i mid → (n < length mid) × (name_at mid n ≡ name_at names n)
  cut_ready cut = subst (λ k. (k < length mid) × (name_at mid k ≡ name_at names k)) (sym is) (fits cut.size, cut_here names numbers once i low mid cut)

  pub cut_next : IsCut names numbers i mid → IsCut names numbers (i + 1) (set mid n None)
  cut_next cut = subst (λ k. IsCut names numbers (i + 1) (set mid k None)) (sym is) (cut_more names numbers once i low mid (fits cut.size) cut)

  pub mend_ready : IsMended names numbers i mid → (n < length mid) × (name_at mid n ≡ None)
  mend_ready mended = subst (λ k. (k < length mid) × (name_at mid k ≡ None)) (sym is) (fits mended.size, mended.left i (omega arith) low)

  pub mend_next : IsMended names numbers i mid → IsMended names numbers (i + 1) (set mid n (name_at names n))
  mend_next mended = subst (λ k. IsMended names numbers (i + 1) (set mid k (name_at names k))) (sym is) (mend_more names numbers once i low mid (fits mended.size) mended)
