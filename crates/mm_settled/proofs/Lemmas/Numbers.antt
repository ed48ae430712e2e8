-- Numbers in lists, and lists of those that pass a test.
use Rattle.std.proofs.Common.{◌≡◌, ◌≢◌, ◌||◌, ℕ, Bool, true, false, List, [], ◌∷◌, length, filter, nat_eq, inl, inr, refl, sym, ap, ◌∙◌, arith}
use Rattle.std.proofs.lemmas.Bool.{cases_Bool, eqb-true, eq-eqb}
use Rattle.mm_lists.specs.Members.{Among, NoRepeat}
use Rattle.mm_lists.proofs.Lemmas.Among.{all_from}
use Rattle.mm_lists.proofs.Lemmas.Filter.{filter_none}
use Rattle.mm_settled.specs.private.Lists.{is_listed}

-- two tests that agree on a list
pub filter_agree_on : (p q : ℕ → Bool) (xs : List ℕ) → ((x : ℕ) → Among x xs → p x ≡ q x) → filter p xs ≡ filter q xs
filter_agree_on p q [] same = refl
filter_agree_on p q (x ∷ xs) same =
    let rest : filter p xs ≡ filter q xs = filter_agree_on p q xs (λ y among. same y (inr among)) in
    elim (cases_Bool (q x)) [
      | inl here ↦ let mine : p x ≡ true = same x (inl refl) ∙ here in rw (here, mine) (ap (λ ys. x ∷ ys) rest)
      | inr out ↦ let mine : p x ≡ false = same x (inl refl) ∙ out in rw (out, mine) rest
    ]

-- one number alone passes
pub filter_one : (p : ℕ → Bool) (xs : List ℕ) (n : ℕ) → NoRepeat xs → Among n xs → p n ≡ true → ((m : ℕ) → m ≢ n → p m ≡ false) → filter p xs ≡ n ∷ []
filter_one p [] n once among passes others = absurd among
filter_one p (x ∷ xs) n once (inl same) passes others =
    let here : p x ≡ true = ap p (sym same) ∙ passes in
    let rest : filter p xs ≡ [] = filter_none p xs (all_from (λ m. p m ≡ false) xs (λ m among. others m (λ e. once.0 (rw (← same, ← e) among)))) in
    rw (here, rest, same) refl
filter_one p (x ∷ xs) n once (inr later) passes others =
    let out : p x ≡ false = others x (λ e. once.0 (rw e later)) in
    rw out (filter_one p xs n once.1 later passes others)

pub is_listed_among : (ns : List ℕ) (n : ℕ) → is_listed ns n ≡ true → Among n ns
is_listed_among [] n listed = absurd (cc)
is_listed_among (m ∷ ms) n listed = elim (cases_Bool (nat_eq n m)) [
  | inl same ↦ inl (eqb-true n m same)
  | inr apart ↦ inr (is_listed_among ms n (sym (ap (λ b. b || is_listed ms n) apart) ∙ listed))
]

or_true : (b : Bool) → (b || true) ≡ true
or_true true = refl
or_true false = refl

pub among_is_listed : (ns : List ℕ) (n : ℕ) → Among n ns → is_listed ns n ≡ true
among_is_listed [] n among = absurd among
among_is_listed (m ∷ ms) n (inl same) = ap (λ b. b || is_listed ms n) (eq-eqb n m same)
among_is_listed (m ∷ ms) n (inr later) = ap (λ b. nat_eq n m || b) (among_is_listed ms n later) ∙ or_true (nat_eq n m)

pub no_length : (ns : List ℕ) → length ns ≡ 0 → ns ≡ []
no_length [] none = refl
no_length (n ∷ ns) none = absurd (omega (arith, none))
