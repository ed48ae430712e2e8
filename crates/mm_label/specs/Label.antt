-- Labels: pairs of a counter and a process, ordered by counter and then by process, and the words that keep them.
use Rattle.std.specs.Prelude.{ℕ, ◌≡◌, ◌<◌, ◌+◌, ◌*◌, ◌/◌, ◌%◌, ◌^◌, max, Bool, ◌&&◌, ◌||◌, nat_lt, nat_eq, not, IsTrue, List, ◌++◌, codes}
use Rattle.std.specs.declared.cmp.Ordering.{Ordering}
use Rattle.std.specs.Ordering.{nat_cmp, on, then_cmp}
use Rattle.std.specs.Fmt.{decimal}

pub record Label : Type 0 where
  pub counter : ℕ
  pub process : ℕ

-- a is below b
abbrev pub label_lt : Label → Label → Bool
label_lt a b = nat_lt a.counter b.counter || (nat_eq a.counter b.counter && nat_lt a.process b.process)

-- a is at most b
abbrev pub label_le : Label → Label → Bool
label_le a b = not (label_lt b a)

-- a and b are one label
abbrev pub label_eq : Label → Label → Bool
label_eq a b = nat_eq a.counter b.counter && nat_eq a.process b.process

-- both labels of process i at first
abbrev pub opening_label : ℕ → Label
opening_label i = record { counter = 0; process = i }

-- the label that process n gets if its public label is own and it comes to wait for one that shows holder
abbrev pub fresh_label : Label → Label → ℕ → Label
fresh_label own holder n = record { counter = max own.counter holder.counter + 1; process = n }

-- a label's counter is below the first number, and its process below the second
abbrev pub counter_range : ℕ
counter_range = 2 ^ 44

abbrev pub process_range : ℕ
process_range = 1048576

-- both parts are within their ranges, as they are in each label that a program holds
abbrev pub IsInRange : Label → Type 0
IsInRange l = (l.counter < counter_range) × (l.process < process_range)

-- the word that keeps a label: the counter in its high bits, the process in its low ones
abbrev pub word_of : Label → ℕ
word_of l = l.counter * process_range + l.process

-- the label that a word keeps
abbrev pub label_of : ℕ → Label
label_of w = record { counter = w / process_range; process = w % process_range }

-- the label that a word of the former packing keeps, of 48 bits of counter and 16 of process
abbrev pub label_of_old : ℕ → Label
label_of_old w = record { counter = w / 65536; process = w % 65536 }

-- how a and b compare: by counter, and then by process
abbrev pub label_cmp : Label → Label → Ordering
label_cmp = then_cmp (on (λ l. l.counter) nat_cmp) (on (λ l. l.process) nat_cmp)

-- counter.process, both in decimal
abbrev pub label_text : Label → List ℕ
label_text l = decimal l.counter ++ codes "." ++ decimal l.process

-- words compare as the labels that they keep
abbrev pub WordsKeepTheOrder : Type 0
WordsKeepTheOrder = (a b : Label) → a.process < process_range → b.process < process_range
    → (nat_lt (word_of a) (word_of b) ≡ label_lt a b)
    × (nat_eq (word_of a) (word_of b) ≡ label_eq a b)

-- a fresh label of n is above both labels that it is made of, and is n's
abbrev pub FreshIsAbove : Type 0
FreshIsAbove = (own holder : Label) (n : ℕ)
    → IsTrue (label_lt own (fresh_label own holder n))
    × IsTrue (label_lt holder (fresh_label own holder n))
    × ((fresh_label own holder n).process ≡ n)
