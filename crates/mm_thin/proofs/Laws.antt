-- The laws of the words after a change of one bucket.
use Rattle.std.proofs.Common.{◌≡◌, ◌≢◌, ◌⊎◌, ◌↔◌, ℕ, ◌+◌, ◌<◌, ◌≤◌, true, false, not, nat_eq, cond, if◌then◌else◌, List, ◌∷◌, length, set, filter, refl, sym, ap, ◌∙◌, inl, inr, arith, subst, eq-eqb, ne_eqb, length-set, get_or-set_same, get_or-set_other}
use Rattle.std.specs.Prelude.{slice_index}
use Rattle.std.proofs.lemmas.Bool.{cases_eq}
use mathlib.Core.Option.{Option, some}
use lib.ListN.{get_elem?}
use Rattle.mm_lists.specs.Members.{Among, without}
use Rattle.mm_lists.proofs.Lemmas.Filter.{Among-without, Among-without_other, filter_gives, filter_keeps}
use Rattle.mm_thin.specs.declared.views.Lent.{Lent}
use Rattle.mm_thin.specs.declared.views.DeskView.{DeskView}
use Rattle.mm_thin.specs.Views.{loan, with_fat, with_reading, done_reading, without_fat, without_lent, thinned}
use Rattle.mm_thin.specs.Rule.{thin, IsFat, IsLent, IsRead, Told, Fits, IsLawful}

-- ---- what is told of the records, after one of them changes

abbrev pub with_told : (ℕ → Told) → ℕ → Told → ℕ → Told
with_told g number now k = if nat_eq k number then now else g k

pub at_told : (g : ℕ → Told) (number : ℕ) (now : Told) (k : ℕ) → k ≡ number → with_told g number now k ≡ now
at_told g number now k same = ap (λ b. cond b now (g k)) (eq-eqb k number same)

pub at_other : (g : ℕ → Told) (number : ℕ) (now : Told) (k : ℕ) → k ≢ number → with_told g number now k ≡ g k
at_other g number now k apart = ap (λ b. cond b now (g k)) (ne_eqb k number apart)

-- in another bucket it is as before
abbrev pub AsBefore : (ℕ → Told) → (ℕ → Told) → ℕ → Type 0
AsBefore g h c = (i : ℕ) → (Among c (h i).0 ↔ Among c (g i).0) × (Among c (g i).0 → (h i).1 ≡ (g i).1)

module _ (g : ℕ → Told) (number b : ℕ) (now : Told) (apart : (c : ℕ) → c ≢ b → (Among c now.0 ↔ Among c (g number).0) × (Among c (g number).0 → now.1 ≡ (g number).1)) where
  pub told_apart : (c : ℕ) → c ≢ b → AsBefore g (with_told g number now) c
  told_apart c away i = elim (cases_eq i number) [
    | inl same ↦ subst (λ (x : Told). (Among c x.0 ↔ Among c (g i).0) × (Among c (g i).0 → x.1 ≡ (g i).1)) (sym (at_told g number now i same))
        (subst (λ k. (Among c now.0 ↔ Among c (g k).0) × (Among c (g k).0 → now.1 ≡ (g k).1)) (sym same) (apart c away))
    | inr other ↦ subst (λ (x : Told). (Among c x.0 ↔ Among c (g i).0) × (Among c (g i).0 → x.1 ≡ (g i).1)) (sym (at_other g number now i other))
        (((λ x. x), (λ x. x)), (λ among. refl))
  ]

pub same_as_before : (g : ℕ → Told) (c : ℕ) → AsBefore g g c
same_as_before g c i = (((λ x. x), (λ x. x)), (λ among. refl))

pub more_apart : (b : ℕ) (xs : List ℕ) (c : ℕ) → c ≢ b → Among c (b ∷ xs) ↔ Among c xs
more_apart b xs c away = ((λ among. elim among [ inl same ↦ absurd (away same) | inr later ↦ later ]), (λ among. inr among))

pub less_apart : (b : ℕ) (xs : List ℕ) (c : ℕ) → c ≢ b → Among c (without b xs) ↔ Among c xs
less_apart b xs c away = ((λ among. (Among-without c b xs among).0), (λ among. Among-without_other c b xs away among))

pub same_apart : (b : ℕ) (xs : List ℕ) (c : ℕ) → c ≢ b → Among c xs ↔ Among c xs
same_apart b xs c away = ((λ among. among), (λ among. among))

-- what is lent of another bucket is as before
abbrev pub LentApart : ℕ → List Lent → List Lent → Type 0
LentApart b before after = (l : Lent) → l.bucket ≢ b → Among l after ↔ Among l before

pub same_lent : (b : ℕ) (ls : List Lent) → LentApart b ls ls
same_lent b ls l away = ((λ x. x), (λ x. x))

pub more_lent : (b i : ℕ) (name : List ℕ) (ls : List Lent) → LentApart b ls (loan b i name ∷ ls)
more_lent b i name ls l away = ((λ among. elim among [ inl same ↦ absurd (away (ap (λ (x : Lent). x.bucket) same)) | inr later ↦ later ]), (λ among. inr among))

pub less_lent : (b : ℕ) (ls : List Lent) → LentApart b ls (filter (λ l. not (nat_eq l.bucket b)) ls)
less_lent b ls l away = (
  (λ among. (filter_gives (λ (x : Lent). not (nat_eq x.bucket b)) ls l among).0),
  (λ among. filter_keeps (λ (x : Lent). not (nat_eq x.bucket b)) ls l among (ap not (ne_eqb l.bucket b away))),
)

pub none_lent : (b : ℕ) (ls : List Lent) (l : Lent) → Among l (filter (λ l. not (nat_eq l.bucket b)) ls) → l.bucket ≡ b → ⊥
none_lent b ls l among same =
    let passes : not (nat_eq l.bucket b) ≡ true = (filter_gives (λ (x : Lent). not (nat_eq x.bucket b)) ls l among).1 in
    let never : false ≡ true = sym (ap not (eq-eqb l.bucket b same)) ∙ passes in
    absurd (cc)

-- ---- a bucket whose word and members stay

same_bucket : (word now : ℕ) (d e : DeskView) (g h : ℕ → Told) (c : ℕ) → now ≡ word → AsBefore g h c → Among c e.fat ↔ Among c d.fat → ((l : Lent) → l.bucket ≡ c → Among l e.lent ↔ Among l d.lent)
    → Fits word d g c → Fits now e h c
same_bucket word now d e g h c is told fats lents f = record {
  one = λ i j first second. f.one i j ((told i).0.0 first) ((told j).0.0 second);
  taken = λ i among.
      let before = (told i).0.0 among in
      elim (f.taken i before) [
        | inl thin ↦ inl (is ∙ thin)
        | inr lent ↦ inr (subst IsLent (sym is) lent.0, subst (λ name. Among (loan c i name) e.lent) (sym ((told i).1 before)) ((lents (loan c i (g i).1) refl).1 lent.1))
      ];
  thin_of = λ i e. (told i).0.1 (f.thin_of i (sym is ∙ e));
  is_fat = λ among. subst IsFat (sym is) (f.is_fat (fats.0 among));
  fat = λ now_fat. fats.1 (f.fat (subst IsFat is now_fat));
  lent = λ l among of.
      let was = f.lent l ((lents l of).0 among) of in
      (fats.1 was.0, λ now_lent. (let its = was.1 (subst IsLent is now_lent) in ((told l.number).0.1 its.0, its.1 ∙ sym ((told l.number).1 its.0))));
  held = λ now_lent. (let l = f.held (subst IsLent is now_lent) in (l.0, (lents l.0 l.2).1 l.1, l.2));
}

-- what is read of other buckets is read as before
pub reads_apart : (words : List ℕ) (b now : ℕ) (g h : ℕ → Told) (told : (c : ℕ) → c ≢ b → AsBefore g h c) (away : slice_index words b ≢ 2) (l : Lent)
    → (slice_index words l.bucket ≡ 2) × Among l.bucket (g l.number).0 × (l.name ≡ (g l.number).1)
    → (slice_index (set words b now) l.bucket ≡ 2) × Among l.bucket (h l.number).0 × (l.name ≡ (h l.number).1)
reads_apart words b now g h told away l was =
    let apart : l.bucket ≢ b = λ same. away (ap (slice_index words) (sym same) ∙ was.0) in
    let before = told l.bucket apart l.number in
    (get_or-set_other words b l.bucket now 0 apart ∙ was.0, before.0.1 was.1, was.2 ∙ sym (before.1 was.1))

-- and no other is, where the word that changes does not say that it is read
pub read_still : (words : List ℕ) (b now : ℕ) (reading : List Lent) → b < length words → now ≢ 2 → ((c : ℕ) → c < length words → slice_index words c ≡ 2 → (l : Lent) × Among l reading × (l.bucket ≡ c))
    → (c : ℕ) → c < length words → slice_index (set words b now) c ≡ 2 → (l : Lent) × Among l reading × (l.bucket ≡ c)
read_still words b now reading inside away before c below two = elim (cases_eq c b) [
  | inl same ↦ absurd (away (sym (get_or-set_same words b now 0 inside) ∙ ap (slice_index (set words b now)) (sym same) ∙ two))
  | inr apart ↦ before c below (sym (get_or-set_other words b c now 0 apart) ∙ two)
]

module _ (words : List ℕ) (homes homes' : List (Option (List ℕ))) (d e : DeskView) (g h : ℕ → Told) (b now : ℕ) (inside : b < length words) (records : e.records ≡ d.records) (sized : length homes' ≡ length homes)
    (told : (c : ℕ) → c ≢ b → AsBefore g h c) (fats : (c : ℕ) → c ≢ b → Among c e.fat ↔ Among c d.fat) (lents : LentApart b d.lent e.lent)
    (low : (i : ℕ) → Among b (h i).0 → (i < d.records) × (i < length homes)) (here : Fits now e h b)
    (single : (c i : ℕ) → c ≢ b → Among b (h i).0 → Among c (h i).0 → ⊥)
    (reads : (l : Lent) → Among l e.reading → (slice_index (set words b now) l.bucket ≡ 2) × Among l.bucket (h l.number).0 × (l.name ≡ (h l.number).1))
    (read_at : (c : ℕ) → c < length words → slice_index (set words b now) c ≡ 2 → (l : Lent) × Among l e.reading × (l.bucket ≡ c))
    (fresh : (i : ℕ) → i < length homes' → e.records ≤ i → (name : List ℕ) × (get_elem? homes' i ≡ some (some name)))
    (home : (c i : ℕ) → Among c (h i).0 → (get_elem? homes' i ≡ some (some (h i).1)) ⊎ IsRead e i)
    (is : IsLawful words homes d g) where
  changed_each : (c : ℕ) → c < length (set words b now) → Fits (slice_index (set words b now) c) e h c
  changed_each c below = elim (cases_eq c b) [
    | inl same ↦ subst (λ k. Fits (slice_index (set words b now) k) e h k) (sym same) (subst (λ w. Fits w e h b) (sym (get_or-set_same words b now 0 inside)) here)
    | inr apart ↦ same_bucket (slice_index words c) (slice_index (set words b now) c) d e g h c (get_or-set_other words b c now 0 apart) (told c apart) (fats c apart)
        (λ l of. lents l (λ at_b. apart (sym of ∙ at_b))) (is.each c (omega (arith, length-set words b now)))
  ]

  pub lawful_changed : IsLawful (set words b now) homes' e h
  lawful_changed = record {
    each = changed_each;
    low = λ c i among. elim (cases_eq c b) [
      | inl same ↦ (let l = low i (subst (λ k. Among k (h i).0) same among) in let l0 = l.0 in let l1 = l.1 in (omega (arith, length-set words b now), omega arith, omega arith))
      | inr apart ↦ (let l = is.low c i ((told c apart i).0.0 among) in let l0 = l.0 in let l1 = l.1 in let l2 = l.2 in (omega (arith, length-set words b now), omega arith, omega arith))
    ];
    low_fat = λ c among. elim (cases_eq c b) [
      | inl same ↦ omega (arith, length-set words b now)
      | inr apart ↦ (let l = is.low_fat c ((fats c apart).0 among) in omega (arith, length-set words b now))
    ];
    low_lent = λ l among. elim (cases_eq l.bucket b) [
      | inl same ↦ omega (arith, length-set words b now)
      | inr apart ↦ (let low_before = is.low_lent l ((lents l apart).0 among) in omega (arith, length-set words b now))
    ];
    single = λ c c' i first second. elim (cases_eq c b) [
      | inl same ↦ elim (cases_eq c' b) [
        | inl same' ↦ same ∙ sym same'
        | inr apart' ↦ absurd (single c' i apart' (subst (λ k. Among k (h i).0) same first) second)
      ]
      | inr apart ↦ elim (cases_eq c' b) [
        | inl same' ↦ absurd (single c i apart (subst (λ k. Among k (h i).0) same' second) first)
        | inr apart' ↦ is.single c c' i ((told c apart i).0.0 first) ((told c' apart' i).0.0 second)
      ]
    ];
    reads = reads;
    read_at = λ c below two. read_at c (omega (arith, length-set words b now)) two;
    fresh = fresh;
    home = home;
  }

-- ---- the bucket that changes

zero_fat : (word : ℕ) → word ≡ 0 → IsFat word → ⊥
zero_fat word free fat = (let low = fat.0 in omega arith)

pub thin_fat : (word i : ℕ) → word ≡ thin i → IsFat word → ⊥
thin_fat word i is fat = (let high = fat.1 in let same : word ≡ i + 4 = is in omega arith)

thin_lent : (word i : ℕ) → word ≡ thin i → IsLent word → ⊥
thin_lent word i is lent = (let high = lent.1 in let same : word ≡ i + 4 = is in omega arith)

low_thin : (word i : ℕ) → word < 4 → word ≡ thin i → ⊥
low_thin word i low is = (let same : word ≡ i + 4 = is in omega arith)

not_lent_at : (word : ℕ) → word < 2 → IsLent word → ⊥
not_lent_at word low lent = (let high = lent.0 in omega arith)

module _ (word : ℕ) (d : DeskView) (g : ℕ → Told) (b : ℕ) (f : Fits word d g b) where
  -- what is lent is fat
  pub lent_fat : (l : Lent) → Among l d.lent → l.bucket ≡ b → IsFat word
  lent_fat l among of = f.is_fat (f.lent l among of).0

  pub free_untaken : word < 2 → (i : ℕ) → Among b (g i).0 → ⊥
  free_untaken low i among = elim (f.taken i among) [
    | inl is ↦ low_thin word i (omega arith) is
    | inr lent ↦ not_lent_at word low lent.0
  ]

  module _ (number : ℕ) (now : Told) where
    -- it was free, and is taken
    module _ (free : word ≡ 0) (has : Among b now.0) where
      pub only : (j : ℕ) → Among b (with_told g number now j).0 → j ≡ number
      only j among = elim (cases_eq j number) [
        | inl same ↦ same
        | inr apart ↦ absurd (free_untaken (omega arith) j (subst (λ (x : Told). Among b x.0) (at_other g number now j apart) among))
      ]

      pub fits_taken : Fits (thin number) d (with_told g number now) b
      fits_taken = record {
        one = λ i j first second. only i first ∙ sym (only j second);
        taken = λ i among. inl (ap thin (sym (only i among)));
        thin_of = λ i e. subst (λ (x : Told). Among b x.0) (sym (at_told g number now i (let e' : number + 4 ≡ i + 4 = e in omega arith))) has;
        is_fat = λ among. absurd (zero_fat word free (f.is_fat among));
        fat = λ fat. absurd (thin_fat (thin number) number refl fat);
        lent = λ l among of. absurd (zero_fat word free (lent_fat l among of));
        held = λ lent. absurd (thin_lent (thin number) number refl lent);
      }

    -- this record had taken it, and has not any more
    module _ (had : Among b (g number).0) (gone : Among b now.0 → ⊥) where
      pub none_left : (j : ℕ) → Among b (with_told g number now j).0 → ⊥
      none_left j among = elim (cases_eq j number) [
        | inl same ↦ gone (subst (λ (x : Told). Among b x.0) (at_told g number now j same) among)
        | inr apart ↦ apart (f.one j number (subst (λ (x : Told). Among b x.0) (at_other g number now j apart) among) had)
      ]

      pub fits_given : word ≡ thin number → Fits 0 d (with_told g number now) b
      fits_given was = record {
        one = λ i j first second. absurd (none_left i first);
        taken = λ i among. absurd (none_left i among);
        thin_of = λ i e. absurd (low_thin 0 i (omega arith) e);
        is_fat = λ among. absurd (thin_fat word number was (f.is_fat among));
        fat = λ fat. absurd (zero_fat 0 refl fat);
        lent = λ l among of. absurd (thin_fat word number was (lent_fat l among of));
        held = λ lent. absurd (not_lent_at 0 (omega arith) lent);
      }

      pub fits_let_go : word ≡ 3 → Fits 1 d (with_told g number now) b
      fits_let_go was = record {
        one = λ i j first second. absurd (none_left i first);
        taken = λ i among. absurd (none_left i among);
        thin_of = λ i e. absurd (low_thin 1 i (omega arith) e);
        is_fat = λ among. (omega arith, omega arith);
        fat = λ fat. f.fat (omega arith, omega arith);
        lent = λ l among of. ((f.lent l among of).0, λ lent. absurd (not_lent_at 1 (omega arith) lent));
        held = λ lent. absurd (not_lent_at 1 (omega arith) lent);
      }

  -- it is fat from now on
  pub fits_fat : word ≡ 0 → Fits 1 (with_fat d b) g b
  fits_fat free = record {
    one = f.one;
    taken = λ i among. absurd (free_untaken (omega arith) i among);
    thin_of = λ i e. absurd (low_thin 1 i (omega arith) e);
    is_fat = λ among. (omega arith, omega arith);
    fat = λ fat. inl refl;
    lent = λ l among of. absurd (zero_fat word free (lent_fat l among of));
    held = λ lent. absurd (not_lent_at 1 (omega arith) lent);
  }

  pub fits_reading : (i : ℕ) → word ≡ thin i → Fits 2 (with_reading d b i (g i).1) g b
  fits_reading i was = record {
    one = f.one;
    taken = λ j among. inr ((omega arith, omega arith), inl (ap (λ k. loan b k (g k).1) (f.one j i among (f.thin_of i was))));
    thin_of = λ j e. absurd (low_thin 2 j (omega arith) e);
    is_fat = λ among. (omega arith, omega arith);
    fat = λ fat. inl refl;
    lent = λ l among of. elim among [
      | inl same ↦ (inl refl, λ lent. (subst (λ k. Among b (g k).0) (sym (ap (λ (x : Lent). x.number) same)) (f.thin_of i was), ap (λ (x : Lent). x.name) same ∙ ap (λ k. (g k).1) (sym (ap (λ (x : Lent). x.number) same))))
      | inr later ↦ absurd (thin_fat word i was (lent_fat l later of))
    ];
    held = λ lent. (loan b i (g i).1, inl refl, refl);
  }

  -- its name is read
  pub fits_read : word ≡ 2 → Fits 3 (done_reading d) g b
  fits_read was = record {
    one = f.one;
    taken = λ i among. elim (f.taken i among) [ inl is ↦ absurd (low_thin word i (omega arith) is) | inr lent ↦ inr ((omega arith, omega arith), lent.1) ];
    thin_of = λ i e. absurd (low_thin 3 i (omega arith) e);
    is_fat = λ among. (omega arith, omega arith);
    fat = λ fat. f.fat (omega arith, omega arith);
    lent = λ l among of. (let its = f.lent l among of in (its.0, λ lent. its.1 (omega arith, omega arith)));
    held = λ lent. f.held (omega arith, omega arith);
  }

  -- it is thin again
  pub fits_thinned : (i : ℕ) (name : List ℕ) → Among (loan b i name) d.lent → word ≡ 3 → Fits (thin i) (thinned d b) g b
  fits_thinned i name lent was =
      let has : Among b (g i).0 = ((f.lent (loan b i name) lent refl).1 (omega arith, omega arith)).0 in
      record {
        one = f.one;
        taken = λ j among. inl (ap thin (f.one i j has among));
        thin_of = λ j e. (let same : i ≡ j = (let four : i + 4 ≡ j + 4 = e in omega arith) in subst (λ k. Among b (g k).0) same has);
        is_fat = λ among. absurd ((Among-without b b d.fat among).1 refl);
        fat = λ fat. absurd (thin_fat (thin i) i refl fat);
        lent = λ l among of. absurd (none_lent b d.lent l among of);
        held = λ lent. absurd (thin_lent (thin i) i refl lent);
      }

  -- the record that had taken it has let it go
  pub fits_looked : word ≡ 1 → Fits word (without_lent d b) g b
  fits_looked was = record {
    one = f.one;
    taken = λ i among. absurd (free_untaken (omega arith) i among);
    thin_of = f.thin_of;
    is_fat = f.is_fat;
    fat = f.fat;
    lent = λ l among of. absurd (none_lent b d.lent l among of);
    held = λ lent. absurd (not_lent_at word (omega arith) lent);
  }

  -- it is free again
  module _ (has : Among b d.fat) (not_lent : (l : Lent) → Among l d.lent → l.bucket ≡ b → ⊥) where
    fat_untaken : (i : ℕ) → Among b (g i).0 → ⊥
    fat_untaken i among = elim (f.taken i among) [
      | inl is ↦ thin_fat word i is (f.is_fat has)
      | inr lent ↦ not_lent (loan b i (g i).1) lent.1 refl
    ]

    pub fits_freed : Fits 0 (without_fat d b) g b
    fits_freed = record {
      one = λ i j first second. absurd (fat_untaken i first);
      taken = λ i among. absurd (fat_untaken i among);
      thin_of = λ i e. absurd (low_thin 0 i (omega arith) e);
      is_fat = λ among. absurd ((Among-without b b d.fat among).1 refl);
      fat = λ fat. absurd (zero_fat 0 refl fat);
      lent = λ l among of. absurd (not_lent l among of);
      held = λ lent. absurd (not_lent_at 0 (omega arith) lent);
    }
