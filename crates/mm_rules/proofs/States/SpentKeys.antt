-- A key that is live no more is spent: its process has a later generation, or is neither live nor free; and no change of generations, live and free processes brings it back.
use Rattle.std.proofs.Common.{◌≡◌, ◌≢◌, ◌⊎◌, ◌+◌, ℕ, ◌<◌, ◌∷◌, length, nat_eq, nat_lt, slice_index, slice_index_or, slice_set, true, false, IsTrue, IsFalse, inl, inr, sym, ap, subst, ◌∙◌, arith, get_or-set_same, get_or-set_other}
use Rattle.std.proofs.lemmas.Bool.{cases_eq, cases_Bool, and_parts, and_left, and_right, eqb-true, ne_eqb}
use Rattle.mm_arena.specs.declared.key.Key.{Key}
use Rattle.mm_lists.specs.Members.{Among}
use Rattle.mm_lists.proofs.Lemmas.Set.{true_within}
use Rattle.mm_rules.specs.TableState.{TableState, is_live}
use Rattle.mm_rules.specs.Change.{free_slot}

abbrev pub IsSpent : TableState → Key → Type 0
IsSpent s k = (k.generation < slice_index s.generations k.process) ⊎ (IsFalse (slice_index_or s.live k.process false) × (Among k.process s.free → ⊥))

pub spent_is_dead : (s : TableState) (k : Key) → IsSpent s k → IsFalse (is_live s k)
spent_is_dead s k (inl later) =
    and_right (slice_index_or s.live k.process false) (nat_eq (slice_index s.generations k.process) k.generation) (ne_eqb (slice_index s.generations k.process) k.generation (λ e. omega arith))
spent_is_dead s k (inr retired) = and_left (slice_index_or s.live k.process false) (nat_eq (slice_index s.generations k.process) k.generation) retired.0

-- from s to t no spent key comes back, and each key that was live still is, or is spent
pub record KeepsKeys (s t : TableState) : Type 0 where
  pub spent : (k : Key) → IsSpent s k → IsSpent t k
  pub live : (k : Key) → IsTrue (is_live s k) → IsTrue (is_live t k) ⊎ IsSpent t k

pub keys_then : (a b c : TableState) → KeepsKeys a b → KeepsKeys b c → KeepsKeys a c
keys_then a b c first second = record {
  spent = λ k spent. second.spent k (first.spent k spent);
  live = λ k live. elim (first.live k live) [ inl still ↦ second.live k still | inr spent ↦ inr (second.spent k spent) ];
}

-- t has the generations, the live and the free processes of s
pub record SameKeys (s t : TableState) : Type 0 where
  pub generations : t.generations ≡ s.generations
  pub live : t.live ≡ s.live
  pub free : t.free ≡ s.free

pub same_keys_then : (a b c : TableState) → SameKeys a b → SameKeys b c → SameKeys a c
same_keys_then a b c first second =
    record { generations = second.generations ∙ first.generations; live = second.live ∙ first.live; free = second.free ∙ first.free }

pub same_keeps_keys : (s t : TableState) → SameKeys s t → KeepsKeys s t
same_keeps_keys s t same = record {
  spent = λ k spent. rw (same.generations, same.live, same.free) spent;
  live = λ k live. inl (rw (same.live, same.generations) live);
}

-- ---- the slot of a live process is freed or retired

pub record IsTaken (s : TableState) (n : ℕ) : Type 0 where
  pub live : slice_index_or s.live n false ≡ true
  pub not_free : Among n s.free → ⊥
  pub within : n < length s.generations

module _ (s : TableState) (n : ℕ) (taken : IsTaken s n) where
  live_now : (m : ℕ) → m ≢ n → slice_index_or (slice_set s.live n false) m false ≡ slice_index_or s.live m false
  live_now m apart = get_or-set_other s.live n m false false apart

  gone_now : slice_index_or (slice_set s.live n false) n false ≡ false
  gone_now = get_or-set_same s.live n false false (true_within s.live n taken.live)

  apart_from : (m : ℕ) → slice_index_or s.live m false ≡ false → m ≢ n
  apart_from m dead e = (let never : true ≡ false = sym taken.live ∙ ap (λ i. slice_index_or s.live i false) (sym e) ∙ dead in cc)

  abbrev retired : TableState
  retired = record s { live = slice_set s.live n false }

  retired_keys : KeepsKeys s retired
  retired_keys = record {
    spent = λ k spent. elim spent [
      | inl later ↦ inl later
      | inr dead ↦ inr (live_now k.process (apart_from k.process dead.0) ∙ dead.0, dead.1)
    ];
    live = λ k live. elim (cases_eq k.process n) [
      | inl e ↦ inr (inr (ap (λ i. slice_index_or (slice_set s.live n false) i false) e ∙ gone_now, λ among. taken.not_free (subst (λ (i : ℕ). Among i s.free) e among)))
      | inr apart ↦ inl (rw (live_now k.process apart) live)
    ];
  }

  abbrev next : ℕ
  next = slice_index s.generations n + 1

  abbrev again : TableState
  again = record retired { generations = slice_set s.generations n next; free = n ∷ s.free }

  next_now : slice_index (slice_set s.generations n next) n ≡ next
  next_now = get_or-set_same s.generations n next 0 taken.within

  else_now : (m : ℕ) → m ≢ n → slice_index (slice_set s.generations n next) m ≡ slice_index s.generations m
  else_now m apart = get_or-set_other s.generations n m next 0 apart

  -- a generation of n that was not later than that of now is spent
  spent_by_next : (k : Key) → k.process ≡ n → k.generation < next → k.generation < slice_index (slice_set s.generations n next) k.process
  spent_by_next k e below = omega (arith, next_now, ap (slice_index (slice_set s.generations n next)) e)

  again_keys : KeepsKeys s again
  again_keys = record {
    spent = λ k spent. elim spent [
      | inl later ↦ elim (cases_eq k.process n) [
        | inl e ↦ inl (spent_by_next k e (omega (arith, ap (slice_index s.generations) e)))
        | inr apart ↦ inl (rw (else_now k.process apart) later)
      ]
      | inr dead ↦
          let apart : k.process ≢ n = apart_from k.process dead.0 in
          inr (live_now k.process apart ∙ dead.0, λ among. elim among [ inl e ↦ apart e | inr later ↦ dead.1 later ])
    ];
    live = λ k live.
        let parts : (slice_index_or s.live k.process false ≡ true) × (nat_eq (slice_index s.generations k.process) k.generation ≡ true)
        = and_parts (slice_index_or s.live k.process false) (nat_eq (slice_index s.generations k.process) k.generation) live in
        elim (cases_eq k.process n) [
          | inl e ↦ inr (inl (spent_by_next k e (omega (arith, ap (slice_index s.generations) e, eqb-true (slice_index s.generations k.process) k.generation parts.1))))
          | inr apart ↦ inl (rw (live_now k.process apart, else_now k.process apart) live)
        ];
  }

  pub free_slot_keys : KeepsKeys s (free_slot s n)
  free_slot_keys = elim (cases_Bool (nat_lt (slice_index s.generations n) s.config.generation_limit)) [
    | inl more ↦ rw more again_keys
    | inr last ↦ rw last retired_keys
  ]
