-- Labels are ordered: each is at most itself, and what is at most another is at most what that is at most.
use Rattle.std.proofs.Common.{◌≡◌, ◌≢◌, ◌⊎◌, ◌&&◌, ◌<◌, ◌≤◌, true, false, nat_lt, nat_eq, IsTrue, refl, arith, inl, inr}
use Rattle.std.proofs.lemmas.Bool.{cases_Bool, cases_lt, eqb-true, eqb-false, ltb-true, ltb-false, and_parts, or_parts, or_cases, not-true, and_cases}
use Rattle.mm_label.specs.Label.{Label, label_lt, label_le}

abbrev Below : Label → Label → Type 0
Below a b = (a.counter < b.counter) ⊎ ((a.counter ≡ b.counter) × (a.process < b.process))

abbrev AtMost : Label → Label → Type 0
AtMost a b = (a.counter < b.counter) ⊎ ((a.counter ≡ b.counter) × (a.process ≤ b.process))

below_from : (a b : Label) → label_lt a b ≡ true → Below a b
below_from a b below = elim (or_cases (nat_lt a.counter b.counter) (nat_eq a.counter b.counter && nat_lt a.process b.process) below) [
  | inl counter ↦ inl (ltb-true a.counter b.counter counter)
  | inr same ↦
      let parts : (nat_eq a.counter b.counter ≡ true) × (nat_lt a.process b.process ≡ true) = and_parts (nat_eq a.counter b.counter) (nat_lt a.process b.process) same in
      inr (eqb-true a.counter b.counter parts.0, ltb-true a.process b.process parts.1)
]

at_most_from_not : (a b : Label) → label_lt b a ≡ false → AtMost a b
at_most_from_not a b above =
    let parts : (nat_lt b.counter a.counter ≡ false) × ((nat_eq b.counter a.counter && nat_lt b.process a.process) ≡ false)
    = or_parts (nat_lt b.counter a.counter) (nat_eq b.counter a.counter && nat_lt b.process a.process) above in
    let low : a.counter ≤ b.counter = ltb-false b.counter a.counter parts.0 in
    elim (and_cases (nat_eq b.counter a.counter) (nat_lt b.process a.process) parts.1) [
      | inl other ↦ let apart : b.counter ≢ a.counter = eqb-false b.counter a.counter other in inl (omega arith)
      | inr process ↦
          let order : a.process ≤ b.process = ltb-false b.process a.process process in
          elim (cases_lt a.counter b.counter) [ inl less ↦ inl less | inr more ↦ inr (omega arith, order) ]
    ]

at_most_from : (a b : Label) → IsTrue (label_le a b) → AtMost a b
at_most_from a b low = at_most_from_not a b (not-true (label_lt b a) low)

at_most_to : (a b : Label) → AtMost a b → IsTrue (label_le a b)
at_most_to a b low = elim (cases_Bool (label_lt b a)) [
  | inl below ↦ let up : Below b a = below_from b a below in absurd (omega arith)
  | inr e ↦ rw e refl
]

pub label_le_same : (a : Label) → IsTrue (label_le a a)
label_le_same a = at_most_to a a (inr (refl, omega arith))

pub label_le_then : (a b c : Label) → IsTrue (label_le a b) → IsTrue (label_le b c) → IsTrue (label_le a c)
label_le_then a b c first second =
    let low : AtMost a b = at_most_from a b first in
    let high : AtMost b c = at_most_from b c second in
    at_most_to a c (grind arith)

pub label_le_both : (a b : Label) → IsTrue (label_le a b) → IsTrue (label_le b a) → a ≡ b
label_le_both a b first second =
    let low : AtMost a b = at_most_from a b first in
    let high : AtMost b a = at_most_from b a second in
    let counter : a.counter ≡ b.counter = omega (arith, low, high) in
    let process : a.process ≡ b.process = omega (arith, low, high) in
    λ i. record { counter = counter i; process = process i }
