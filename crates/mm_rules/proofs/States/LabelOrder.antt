-- Labels and their words: a word tells the process of its label, and words compare as labels do.
use Rattle.std.proofs.Common.{◌≡◌, ◌≢◌, ◌⊎◌, ◌&&◌, ℕ, ◌%◌, ◌<◌, ◌≤◌, true, false, nat_lt, nat_eq, IsTrue, refl, ap, arith, inl, inr}
use Rattle.std.proofs.lemmas.Bool.{cases_Bool, cases_lt, eqb-true, eqb-false, ltb-true, ltb-false, and_parts, or_parts, or_cases, not-true, and_cases, and_from, eq-eqb}
use Rattle.mm_label.specs.Label.{Label, label_lt, label_le, label_eq, fresh_label, word_of, process_range}

-- the process of the label that a word keeps
abbrev pub word_process : ℕ → ℕ
word_process w = w % process_range

pub word_process_is : (l : Label) → l.process < process_range → word_process (word_of l) ≡ l.process
word_process_is l inside = omega arith

pub same_label : (a b : Label) → a.counter ≡ b.counter → a.process ≡ b.process → a ≡ b
same_label a b counter process = λ i. record { counter = counter i; process = process i }

pub label_eq_true : (a b : Label) → label_eq a b ≡ true → a ≡ b
label_eq_true a b e =
    let parts : (nat_eq a.counter b.counter ≡ true) × (nat_eq a.process b.process ≡ true) = and_parts (nat_eq a.counter b.counter) (nat_eq a.process b.process) e in
    same_label a b (eqb-true a.counter b.counter parts.0) (eqb-true a.process b.process parts.1)

pub label_eq_is : (a b : Label) → a ≡ b → label_eq a b ≡ true
label_eq_is a b e = and_from (nat_eq a.counter b.counter) (nat_eq a.process b.process) (eq-eqb a.counter b.counter (ap (λ (l : Label). l.counter) e)) (eq-eqb a.process b.process (ap (λ (l : Label). l.process) e))

-- one word, one label
pub word_tells : (a b : Label) → a.process < process_range → b.process < process_range → word_of a ≡ word_of b → a ≡ b
word_tells a b a_in b_in e = same_label a b (omega arith) (omega arith)

-- ---- order

-- a is below b, and a is at most b
abbrev Below : Label → Label → Type 0
Below a b = (a.counter < b.counter) ⊎ ((a.counter ≡ b.counter) × (a.process < b.process))

abbrev AtMost : Label → Label → Type 0
AtMost a b = (a.counter < b.counter) ⊎ ((a.counter ≡ b.counter) × (a.process ≤ b.process))

below_from : (a b : Label) → label_lt a b ≡ true → Below a b
below_from a b below = elim (or_cases (nat_lt a.counter b.counter) (nat_eq a.counter b.counter && nat_lt a.process b.process) below) [
  | inl counter ↦ inl (ltb-true a.counter b.counter counter)
  | inr same ↦
      let parts : (nat_eq a.counter b.counter ≡ true) × (nat_lt a.process b.process ≡ true) = and_parts (nat_eq a.counter b.counter) (nat_lt a.process b.process) same in
      inr (eqb-true a.counter b.counter parts.0, ltb-true a.process b.process parts.1)
]

at_most_from_not : (a b : Label) → label_lt b a ≡ false → AtMost a b
at_most_from_not a b above =
    let parts : (nat_lt b.counter a.counter ≡ false) × ((nat_eq b.counter a.counter && nat_lt b.process a.process) ≡ false)
    = or_parts (nat_lt b.counter a.counter) (nat_eq b.counter a.counter && nat_lt b.process a.process) above in
    let low : a.counter ≤ b.counter = ltb-false b.counter a.counter parts.0 in
    elim (and_cases (nat_eq b.counter a.counter) (nat_lt b.process a.process) parts.1) [
      | inl other ↦ let apart : b.counter ≢ a.counter = eqb-false b.counter a.counter other in inl (omega arith)
      | inr process ↦
          let order : a.process ≤ b.process = ltb-false b.process a.process process in
          elim (cases_lt a.counter b.counter) [ inl less ↦ inl less | inr more ↦ inr (omega arith, order) ]
    ]

at_most_from : (a b : Label) → IsTrue (label_le a b) → AtMost a b
at_most_from a b low = at_most_from_not a b (not-true (label_lt b a) low)

pub at_most_to : (a b : Label) → AtMost a b → IsTrue (label_le a b)
at_most_to a b low = elim (cases_Bool (label_lt b a)) [
  | inl below ↦ let up : Below b a = below_from b a below in absurd (omega arith)
  | inr e ↦ rw e refl
]

pub label_le_same : (a : Label) → IsTrue (label_le a a)
label_le_same a = at_most_to a a (inr (refl, omega arith))

pub label_le_then : (a b c : Label) → IsTrue (label_le a b) → IsTrue (label_le b c) → IsTrue (label_le a c)
label_le_then a b c first second =
    let low : AtMost a b = at_most_from a b first in
    let high : AtMost b c = at_most_from b c second in
    at_most_to a c (grind arith)

-- two labels, each at most the other, are one
pub label_le_both : (a b : Label) → IsTrue (label_le a b) → IsTrue (label_le b a) → a ≡ b
label_le_both a b low high =
    let first : AtMost a b = at_most_from a b low in
    let second : AtMost b a = at_most_from b a high in
    same_label a b (omega arith) (omega arith)

pub label_le_lt : (a b : Label) → label_lt a b ≡ true → IsTrue (label_le a b)
label_le_lt a b below = let up : Below a b = below_from a b below in at_most_to a b (grind arith)

pub label_le_counter : (a b : Label) → IsTrue (label_le a b) → a.counter ≤ b.counter
label_le_counter a b low = omega (arith, at_most_from a b low)

-- ---- words

pub lt_words : (a b : Label) → label_lt a b ≡ true → a.process < process_range → word_of a < word_of b
lt_words a b below a_in = omega (arith, below_from a b below)

pub le_words : (a b : Label) → IsTrue (label_le a b) → a.process < process_range → word_of a ≤ word_of b
le_words a b low a_in = omega (arith, at_most_from a b low)

pub lt_false_words : (a b : Label) → label_lt a b ≡ false → b.process < process_range → word_of b ≤ word_of a
lt_false_words a b above b_in = omega (arith, at_most_from_not b a above)

pub lt_from_words : (a b : Label) → word_of a < word_of b → b.process < process_range → label_lt a b ≡ true
lt_from_words a b below b_in = elim (cases_Bool (label_lt a b)) [
  | inl e ↦ e
  | inr above ↦ let up : word_of b ≤ word_of a = lt_false_words a b above b_in in absurd (omega arith)
]

-- a fresh label is above the own one of which it is made
pub fresh_above : (own holder : Label) (n : ℕ) → own.process < process_range → word_of own < word_of (fresh_label own holder n)
fresh_above own holder n inside = omega arith
