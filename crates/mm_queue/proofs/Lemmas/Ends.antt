-- The processes and the ends of a list of keys.
use Rattle.std.proofs.Common.{◌≡◌, ℕ, ◌+◌, ◌-◌, List, [], ◌∷◌, ◌++◌, Option, Some, None, drop, length, length-append, refl, sym, ap, ◌∙◌, arith}
use Rattle.std.proofs.lemmas.Option.{none-some, same_Some}
use Rattle.mm_arena.specs.declared.key.Key.{Key}
use Rattle.mm_links.specs.Chain.{head_or, last_or, first_with_next}
use Rattle.mm_links.proofs.Lemmas.Ends.{first_with_next-cut, first_with_next-last}
use Rattle.mm_queue.specs.declared.ends.Ends.{Ends}
use Rattle.mm_lists.specs.Members.{head}
use Rattle.mm_queue.specs.private.Linked.{processes_of, ends_of}

pub processes_of-append : (xs ys : List Key) → processes_of (xs ++ ys) ≡ processes_of xs ++ processes_of ys
processes_of-append [] ys = refl
processes_of-append (x ∷ xs) ys = ap (λ ps. x.process ∷ ps) (processes_of-append xs ys)

pub last_or-append : (before : Option ℕ) (xs ys : List ℕ) → last_or before (xs ++ ys) ≡ last_or (last_or before xs) ys
last_or-append before [] ys = refl
last_or-append before (x ∷ xs) ys = last_or-append (Some x) xs ys

-- ---- with a key put last

front_pushed : (keys : List Key) (key : Key) → first_with_next (head_or (processes_of keys) None) (last_or None (processes_of keys)) (Some key.process) ≡ head_or (processes_of (keys ++ key ∷ [])) None
front_pushed [] key = refl
front_pushed (k ∷ keys) key = first_with_next-last (Some k.process) k.process (processes_of keys) (Some key.process)

back_pushed : (before : Option ℕ) (keys : List Key) (key : Key) → Some key.process ≡ last_or before (processes_of (keys ++ key ∷ []))
back_pushed before [] key = refl
back_pushed before (k ∷ keys) key = back_pushed (Some k.process) keys key

pub ends_pushed : (keys : List Key) (key : Key) → ◌≡◌ {A = Ends} (record { front = first_with_next (ends_of keys).front (ends_of keys).back (Some key.process); back = Some key.process; len = (ends_of keys).len + 1 }) (ends_of (keys ++ key ∷ []))
ends_pushed keys key =
    let front = front_pushed keys key in
    let back = back_pushed None keys key in
    let len : length keys + 1 ≡ length (keys ++ key ∷ []) = omega (arith, length-append keys (key ∷ [])) in
    λ i. record { front = front i; back = back i; len = len i }

-- ---- with a key taken out

back_removed : (xs : List ℕ) (p : ℕ) (ys : List ℕ) → first_with_next (last_or None (xs ++ p ∷ ys)) (head_or ys None) (last_or None xs) ≡ last_or None (xs ++ ys)
back_removed xs p [] = sym (last_or-append None xs [])
back_removed xs p (y ∷ ys) = last_or-append None xs (p ∷ y ∷ ys) ∙ sym (last_or-append None xs (y ∷ ys))

pub ends_removed : (before : List Key) (key : Key) (after : List Key)
    → ◌≡◌ {A = Ends} (record {
      front = first_with_next (ends_of (before ++ key ∷ after)).front (last_or None (processes_of before)) (head_or (processes_of after) None);
      back = first_with_next (ends_of (before ++ key ∷ after)).back (head_or (processes_of after) None) (last_or None (processes_of before));
      len = (ends_of (before ++ key ∷ after)).len - 1;
    }) (ends_of (before ++ after))
ends_removed before key after =
    let xs = processes_of before in
    let ys = processes_of after in
    let p = key.process in
    let whole : processes_of (before ++ key ∷ after) ≡ xs ++ p ∷ ys = processes_of-append before (key ∷ after) in
    let left : processes_of (before ++ after) ≡ xs ++ ys = processes_of-append before after in
    let front : first_with_next (ends_of (before ++ key ∷ after)).front (last_or None xs) (head_or ys None) ≡ (ends_of (before ++ after)).front =
    ap (λ zs. first_with_next (head_or zs None) (last_or None xs) (head_or ys None)) whole ∙ first_with_next-cut xs p ys ∙ ap (λ zs. head_or zs None) (sym left) in
    let back : first_with_next (ends_of (before ++ key ∷ after)).back (head_or ys None) (last_or None xs) ≡ (ends_of (before ++ after)).back =
    ap (λ zs. first_with_next (last_or None zs) (head_or ys None) (last_or None xs)) whole ∙ back_removed xs p ys ∙ ap (last_or None) (sym left) in
    let len : length (before ++ key ∷ after) - 1 ≡ length (before ++ after) = omega (arith, length-append before (key ∷ after), length-append before after) in
    λ i. record { front = front i; back = back i; len = len i }

-- ---- the first key

pub head_or-head : (keys : List Key) (p : ℕ) → head_or (processes_of keys) None ≡ Some p → (k : Key) × (rest : List Key) × (keys ≡ k ∷ rest) × (k.process ≡ p)
head_or-head [] p is = absurd (cc)
head_or-head (k ∷ keys) p is = let same : k.process ≡ p = cc in (k, keys, refl, same)

pub head-none : (keys : List Key) → head_or (processes_of keys) None ≡ None → head keys ≡ None
head-none [] is = refl
head-none (k ∷ keys) is = absurd (cc)

pub head-split : (keys : List Key) (k : Key) → head keys ≡ Some k → keys ≡ k ∷ drop 1 keys
head-split [] k is = absurd (none-some k is)
head-split (x ∷ keys) k is = ap (λ y. y ∷ keys) (same_Some x k is)
