-- The loops over the words of a generator.
use Rattle.std.proofs.Common.{◌≡◌, ◌∙◌, ap, sym, refl, ℕ, zero, suc, ◌+◌, ◌-◌, ◌%◌, ◌<◌, ◌≤◌, List, [], ◌∷◌, ◌++◌, length, map, cond, true, false, add-one, arith}
use Rattle.std.specs.List.{All, fold, list_any}
use Rattle.std.proofs.lemmas.List.{append_assoc, map-append}
use Rattle.std.proofs.lemmas.List.Elements.{All-cons}
use Rattle.std.proofs.lemmas.List.Sums.{fold-append}
use Rattle.std.proofs.lemmas.Grind.{common_steps}
use Rattle.std.proofs.lemmas.Nat.{mod_below}
use Rattle.rand_pcg.specs.Lcg.{Lcg}
use Rattle.rand_pcg.specs.Pcg.{pcg32}
use Rattle.mm_workload.specs.declared.step.WorkStep.{WorkStep}
use Rattle.mm_workload.specs.declared.step.WorkStep.TheVariants.{Acquire}
use Rattle.mm_workload.specs.Work.{IsShort}
use Rattle.mm_workload.specs.Shapes.{Shape}
use Rattle.mm_workload.specs.Storm.{acquires, after, client_of, clients_from, draws, drawn, with_resource, words}

after-suc : (n : ℕ) (g : Lcg) → after (suc n) g ≡ (pcg32 (after n g)).1
unfolding after
after-suc zero g = refl
after-suc (suc n) g = after-suc n (pcg32 g).1

words-suc : (n : ℕ) (g : Lcg) → words (suc n) g ≡ words n g ++ (pcg32 (after n g)).0 ∷ []
unfolding after words
words-suc zero g = refl
words-suc (suc n) g = ap (λ ws. (pcg32 g).0 ∷ ws) (words-suc n (pcg32 g).1)

-- the resources of the next n words
abbrev pub given : Shape → ℕ → Lcg → List ℕ
given shape n g = map (λ word. word % shape.resources) (words n g)

given-more : (shape : Shape) (n : ℕ) (g : Lcg) → given shape (n + 1) g ≡ given shape n g ++ (pcg32 (after n g)).0 % shape.resources ∷ []
given-more shape n g = rw (add-one, words-suc n g) (map-append (λ word. word % shape.resources) (words n g) ((pcg32 (after n g)).0 ∷ []))

-- one more word
pub after-more : (n : ℕ) (g now left : Lcg) (word : ℕ) → now ≡ after n g → (word, left) ≡ pcg32 now → left ≡ after (n + 1) g
after-more n g now left word at step =
    let second : left ≡ (pcg32 now).1 = ap (λ p. p.1) step in
    second ∙ (ap (λ s. (pcg32 s).1) at ∙ (sym (after-suc n g) ∙ ap (λ k. after k g) (sym (add-one n))))

pub steps-more : (shape : Shape) (n : ℕ) (g now left : Lcg) (word : ℕ) (had steps : List WorkStep) → now ≡ after n g → (word, left) ≡ pcg32 now →
    had ≡ fold with_resource [] (given shape n g) → steps ≡ with_resource had (word % shape.resources) → steps ≡ fold with_resource [] (given shape (n + 1) g)
steps-more shape n g now left word had steps at step is more =
    let first : word ≡ (pcg32 (after n g)).0 = ap (λ p. p.0) step ∙ ap (λ s. (pcg32 s).0) at in
    rw (given-more shape n g, fold-append with_resource [] (given shape n g) ((pcg32 (after n g)).0 % shape.resources ∷ []))
    (more ∙ (ap (λ h. with_resource h (word % shape.resources)) is ∙ ap (λ w. with_resource (fold with_resource [] (given shape n g)) (w % shape.resources)) first))

-- the end of a client's loop
pub client-is : (shape : Shape) (n : ℕ) (g left : Lcg) (word : ℕ) (steps : List WorkStep) → (word, left) ≡ pcg32 g → n ≡ 1 + word % shape.acquires →
    steps ≡ fold with_resource [] (given shape n left) → steps ≡ client_of shape g
unfolding after
client-is shape n g left word steps step last is =
    is ∙ (ap (λ k. fold with_resource [] (given shape k left)) last ∙ ap (λ p. fold with_resource [] (given shape (1 + p.0 % shape.acquires) p.1)) step)

pub after-client : (shape : Shape) (n : ℕ) (g left now : Lcg) (word : ℕ) → (word, left) ≡ pcg32 g → n ≡ 1 + word % shape.acquires → now ≡ after n left → now ≡ after (1 + draws shape g) g
unfolding after
after-client shape n g left now word step last at =
    let one : 1 + draws shape g ≡ suc (draws shape g) = omega arith in
    at ∙ (ap (λ k. after k left) last ∙ (ap (λ p. after (1 + p.0 % shape.acquires) p.1) step ∙ ap (λ k. after k g) (sym one)))

-- one more client
clients-next : (shape : Shape) (n i : ℕ) (made : List (List WorkStep)) (g : Lcg) → i < n →
    made ++ clients_from shape (n - i) g ≡ (made ++ client_of shape g ∷ []) ++ clients_from shape (n - (i + 1)) (after (1 + draws shape g) g)
unfolding clients_from
clients-next shape n i made g h =
    let e : n - i ≡ suc (n - (i + 1)) = omega arith in
    ap (λ k. made ++ clients_from shape k g) e ∙ sym (append_assoc made (client_of shape g ∷ []) (clients_from shape (n - (i + 1)) (after (1 + draws shape g) g)))

pub clients-more : (shape : Shape) (n i : ℕ) (made now all : List (List WorkStep)) (g left : Lcg) (client : List WorkStep) → i < n → client ≡ client_of shape g →
    left ≡ after (1 + draws shape g) g → now ≡ made ++ client ∷ [] → made ++ clients_from shape (n - i) g ≡ all → now ++ clients_from shape (n - (i + 1)) left ≡ all
clients-more shape n i made now all g left client h is at pushed on =
    ap (λ m. m ++ clients_from shape (n - (i + 1)) left) pushed
    ∙ (ap (λ c. (made ++ c ∷ []) ++ clients_from shape (n - (i + 1)) left) is
    ∙ (ap (λ s. (made ++ client_of shape g ∷ []) ++ clients_from shape (n - (i + 1)) s) at
    ∙ (sym (clients-next shape n i made g h) ∙ on)))

append_none : {X : Type 0} → (xs : List X) → xs ++ [] ≡ xs
append_none [] = refl
append_none (x ∷ xs) = ap (λ ys. x ∷ ys) (append_none xs)

pub clients-last : (shape : Shape) (n i : ℕ) (made : List (List WorkStep)) (g : Lcg) → n ≤ i → made ++ clients_from shape (n - i) g ≡ made
unfolding clients_from
clients-last shape n i made g h =
    let e : n - i ≡ 0 = omega arith in
    ap (λ k. made ++ clients_from shape k g) e ∙ append_none made

-- how many clients and steps there are
words-length : (n : ℕ) (g : Lcg) → length (words n g) ≡ n
unfolding words
words-length zero g = refl
words-length (suc n) g = omega (arith, words-length n (pcg32 g).1)

with_resource-length : (had : List WorkStep) (r : ℕ) → length (with_resource had r) ≤ length had + 1
with_resource-length had r = elim (list_any (acquires r) had) as (λ b. length (cond b had (had ++ Acquire r ∷ [])) ≤ length had + 1) [
  | true ↦ omega arith
  | false ↦ grind (arith, common_steps)
]

steps-length : (had : List WorkStep) (rs : List ℕ) → length (fold with_resource had rs) ≤ length had + length rs
steps-length had [] = omega arith
steps-length had (r ∷ rs) = omega (arith, with_resource-length had r, steps-length (with_resource had r) rs)

client-is_short : (shape : Shape) (g : Lcg) → 1 ≤ shape.acquires → shape.acquires ≤ 256 → IsShort (client_of shape g)
client-is_short shape g some few =
    let word = (pcg32 g).0 in
    let less : word % shape.acquires < shape.acquires = mod_below word shape.acquires (omega (arith, some)) in
    grind (arith, common_steps, less, few, steps-length [] (drawn shape g), words-length (draws shape g) (after 1 g))

pub clients-length : (shape : Shape) (n : ℕ) (g : Lcg) → length (clients_from shape n g) ≡ n
unfolding clients_from
clients-length shape zero g = refl
clients-length shape (suc n) g = omega (arith, clients-length shape n (after (1 + draws shape g) g))

pub clients-are_short : (shape : Shape) (n : ℕ) (g : Lcg) → 1 ≤ shape.acquires → shape.acquires ≤ 256 → All IsShort (clients_from shape n g)
unfolding clients_from
clients-are_short shape zero g some few = λ k d h. absurd (omega arith)
clients-are_short shape (suc n) g some few =
    All-cons IsShort (client_of shape g) (clients_from shape n (after (1 + draws shape g) g)) (client-is_short shape g some few) (clients-are_short shape n (after (1 + draws shape g) g) some few)
