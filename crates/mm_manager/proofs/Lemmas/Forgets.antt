-- The names after some numbers were handed over, where each of these that nobody owns is forgotten.
use Rattle.std.proofs.Common.{◌≡◌, ◌≢◌, ◌↔◌, ℕ, List, [], ◌∷◌, length, fold, Option, Some, None, is_some, if◌then◌else◌, refl, sym, ap, subst, ◌∙◌, inl, inr, arith, slice_set, length-set, get_or-set_same, get_or-set_other}
use Rattle.std.proofs.lemmas.Bool.{cases_eq, cases_lt}
use Rattle.std.proofs.lemmas.List.{get_or_past}
use Rattle.mm_arena.specs.declared.key.Key.{Key}
use Rattle.mm_lists.specs.Members.{Among}
use Rattle.mm_lists.proofs.Lemmas.Among.{among_or_not}
use Rattle.mm_names.specs.Names.{NameTable, name_of, with_name}
use Rattle.mm_rules.specs.TableState.{TableState, owner_of}
use Rattle.mm_manager.specs.private.Numbers.{AreNumbered, forgotten}
use Rattle.mm_manager.specs.LockState.{KeepOwned}
use Rattle.mm_manager.proofs.Lemmas.Numbers.{some_not_none}
use Rattle.mm_manager.proofs.Lemmas.Owners.{LeavesOwners}

cleared_here : (t : NameTable) (n : ℕ) → name_of (with_name t n None) n ≡ None
cleared_here t n = elim (cases_lt n (length t.names)) [
  | inl within ↦ get_or-set_same t.names n None None within
  | inr past ↦ get_or_past (slice_set t.names n None) n None (omega (arith, length-set t.names n None))
]

module _ (s : TableState) where
  forgotten_by : (t : NameTable) (n : ℕ) (o : Option Key) → owner_of s n ≡ o → forgotten s t n ≡ (if is_some o then t else with_name t n None)
  forgotten_by t n o is = ap (λ p. if is_some p then t else with_name t n None) is

  length-forgotten : (t : NameTable) (n : ℕ) (o : Option Key) → owner_of s n ≡ o → length (forgotten s t n).names ≡ length t.names
  length-forgotten t n None is = ap (λ v. length v.names) (forgotten_by t n None is) ∙ length-set t.names n None
  length-forgotten t n (Some k) is = ap (λ v. length v.names) (forgotten_by t n (Some k) is)

  bytes-forgotten : (t : NameTable) (n : ℕ) (o : Option Key) → owner_of s n ≡ o → (forgotten s t n).name_bytes ≡ t.name_bytes
  bytes-forgotten t n None is = ap (λ v. v.name_bytes) (forgotten_by t n None is)
  bytes-forgotten t n (Some k) is = ap (λ v. v.name_bytes) (forgotten_by t n (Some k) is)

  forgotten_apart : (t : NameTable) (n q : ℕ) (o : Option Key) → owner_of s n ≡ o → q ≢ n → name_of (forgotten s t n) q ≡ name_of t q
  forgotten_apart t n q None is apart = ap (λ v. name_of v q) (forgotten_by t n None is) ∙ get_or-set_other t.names n q None None apart
  forgotten_apart t n q (Some k) is apart = ap (λ v. name_of v q) (forgotten_by t n (Some k) is)

  forgotten_owned : (t : NameTable) (n q : ℕ) (k : Key) → owner_of s q ≡ Some k → name_of (forgotten s t n) q ≡ name_of t q
  forgotten_owned t n q k owned = elim (cases_eq q n) [
    | inl same ↦ ap (λ v. name_of v q) (forgotten_by t n (Some k) (ap (owner_of s) (sym same) ∙ owned))
    | inr apart ↦ forgotten_apart t n q (owner_of s n) refl apart
  ]

  forgotten_here : (t : NameTable) (n : ℕ) → owner_of s n ≡ None → name_of (forgotten s t n) n ≡ None
  forgotten_here t n is = ap (λ v. name_of v n) (forgotten_by t n None is) ∙ cleared_here t n

  stays_none : (t : NameTable) (n q : ℕ) → owner_of s q ≡ None → name_of t q ≡ None → name_of (forgotten s t n) q ≡ None
  stays_none t n q free none = elim (cases_eq q n) [
    | inl same ↦ ap (name_of (forgotten s t n)) same ∙ forgotten_here t n (ap (owner_of s) (sym same) ∙ free)
    | inr apart ↦ forgotten_apart t n q (owner_of s n) refl apart ∙ none
  ]

  each_apart : (ns : List ℕ) (t : NameTable) (q : ℕ) → ¬ Among q ns → name_of (fold (forgotten s) t ns) q ≡ name_of t q
  each_apart [] t q absent = refl
  each_apart (n ∷ ns) t q absent =
      each_apart ns (forgotten s t n) q (λ later. absent (inr later)) ∙ forgotten_apart t n q (owner_of s n) refl (λ same. absent (inl same))

  each_owned : (ns : List ℕ) (t : NameTable) (q : ℕ) (k : Key) → owner_of s q ≡ Some k → name_of (fold (forgotten s) t ns) q ≡ name_of t q
  each_owned [] t q k owned = refl
  each_owned (n ∷ ns) t q k owned = each_owned ns (forgotten s t n) q k owned ∙ forgotten_owned t n q k owned

  each_none : (ns : List ℕ) (t : NameTable) (q : ℕ) → owner_of s q ≡ None → name_of t q ≡ None → name_of (fold (forgotten s) t ns) q ≡ None
  each_none [] t q free none = none
  each_none (n ∷ ns) t q free none = each_none ns (forgotten s t n) q free (stays_none t n q free none)

  each_free : (ns : List ℕ) (t : NameTable) (q : ℕ) → owner_of s q ≡ None → Among q ns → name_of (fold (forgotten s) t ns) q ≡ None
  each_free [] t q free among = absurd among
  each_free (n ∷ ns) t q free (inl same) = each_none ns (forgotten s t n) q free (ap (name_of (forgotten s t n)) same ∙ forgotten_here t n (ap (owner_of s) (sym same) ∙ free))
  each_free (n ∷ ns) t q free (inr later) = each_free ns (forgotten s t n) q free later

  length-each : (ns : List ℕ) (t : NameTable) → length (fold (forgotten s) t ns).names ≡ length t.names
  length-each [] t = refl
  length-each (n ∷ ns) t = length-each ns (forgotten s t n) ∙ length-forgotten t n (owner_of s n) refl

  bytes-each : (ns : List ℕ) (t : NameTable) → (fold (forgotten s) t ns).name_bytes ≡ t.name_bytes
  bytes-each [] t = refl
  bytes-each (n ∷ ns) t = bytes-each ns (forgotten s t n) ∙ bytes-forgotten t n (owner_of s n) refl

  -- where nobody owns any of these, all are forgotten
  pub all_forgotten : (ns : List ℕ) (t : NameTable) → ((q : ℕ) → Among q ns → owner_of s q ≡ None) → fold (λ v n. with_name v n None) t ns ≡ fold (forgotten s) t ns
  all_forgotten [] t free = refl
  all_forgotten (n ∷ ns) t free =
      ap (λ v. fold (λ w m. with_name w m None) v ns) (sym (forgotten_by t n None (free n (inl refl)))) ∙ all_forgotten ns (forgotten s t n) (λ q later. free q (inr later))

-- from s to u the numbers ns, which were owned, got other owners or none, and no other one did
module _ (s u : TableState) (t : NameTable) (numbered : AreNumbered s t) (config : u.config ≡ s.config) (ns : List ℕ)
    (owned : (q : ℕ) → Among q ns → ¬ (owner_of s q ≡ None)) (others : (q : ℕ) → ¬ Among q ns → owner_of u q ≡ owner_of s q) where
  kept_by : (n : ℕ) (o : Option Key) → owner_of u n ≡ o → name_of (fold (forgotten u) t ns) n ≡ (if is_some o then name_of t n else None)
  kept_by n (Some h) held = each_owned u ns t n h held
  kept_by n None free = elim (among_or_not n ns) [
    | inl among ↦ each_free u ns t n free among
    | inr absent ↦ each_apart u ns t n absent ∙ (numbered.named n).1 (sym (others n absent) ∙ free)
  ]

  pub each_keeps_owned : KeepOwned t u (fold (forgotten u) t ns)
  each_keeps_owned = record { named = λ n. kept_by n (owner_of u n) refl; numbers = length-each u ns t; name_bytes = bytes-each u ns t }

  owned_before : (n : ℕ) (h : Key) → owner_of u n ≡ Some h → ¬ (owner_of s n ≡ None)
  owned_before n h held none = elim (among_or_not n ns) [
    | inl among ↦ owned n among none
    | inr absent ↦ some_not_none (owner_of u n) h held (others n absent ∙ none)
  ]

  named_by : (n : ℕ) (o : Option Key) → owner_of u n ≡ o → (name_of (fold (forgotten u) t ns) n ≡ None) ↔ (owner_of u n ≡ None)
  named_by n None free = ((λ _. free), (λ _. kept_by n None free))
  named_by n (Some h) held = (
    (λ none. absurd (owned_before n h held ((numbered.named n).0 (sym (each_owned u ns t n h held) ∙ none)))),
    (λ none. absurd (some_not_none (owner_of u n) h held none)),
  )

  pub numbered_each : AreNumbered u (fold (forgotten u) t ns)
  numbered_each = record {
    as_many = length-each u ns t ∙ numbered.as_many ∙ ap (λ c. c.resources) (sym config);
    named = λ n. named_by n (owner_of u n) refl;
  }

-- the names that follow
pub record NamesFollow (t : NameTable) (u : TableState) (named : NameTable) : Type 0 where
  pub kept : KeepOwned t u named
  pub numbered : AreNumbered u named

-- a release hands over one number, which has a name
pub released_names : (s u : TableState) (t named : NameTable) (n : ℕ) → AreNumbered s t → ¬ (name_of t n ≡ None) → LeavesOwners s (λ q. q ≡ n) u → named ≡ forgotten u t n → NamesFollow t u named
released_names s u t named n numbered has leaves is =
    let owned : (q : ℕ) → Among q (n ∷ []) → ¬ (owner_of s q ≡ None) = λ q among none. elim among [
      | inl same ↦ has ((numbered.named n).1 (sym (ap (owner_of s) same) ∙ none))
      | inr never ↦ never
    ] in
    let others : (q : ℕ) → ¬ Among q (n ∷ []) → owner_of u q ≡ owner_of s q = λ q absent. leaves.others q (λ same. absent (inl same)) in
    record {
      kept = subst (KeepOwned t u) (sym is) (each_keeps_owned s u t numbered leaves.config (n ∷ []) owned others);
      numbered = subst (AreNumbered u) (sym is) (numbered_each s u t numbered leaves.config (n ∷ []) owned others);
    }

-- the end of a transaction hands over all that its key owned
pub ended_names : (s u : TableState) (t named : NameTable) (k : Key) (ns : List ℕ) → AreNumbered s t → ((r : ℕ) → Among r ns ↔ (owner_of s r ≡ Some k))
    → LeavesOwners s (λ q. owner_of s q ≡ Some k) u → named ≡ fold (forgotten u) t ns → NamesFollow t u named
ended_names s u t named k ns numbered listed leaves is =
    let owned : (q : ℕ) → Among q ns → ¬ (owner_of s q ≡ None) = λ q among. some_not_none (owner_of s q) k ((listed q).0 among) in
    let others : (q : ℕ) → ¬ Among q ns → owner_of u q ≡ owner_of s q = λ q absent. leaves.others q (λ mine. absent ((listed q).1 mine)) in
    record {
      kept = subst (KeepOwned t u) (sym is) (each_keeps_owned s u t numbered leaves.config ns owned others);
      numbered = subst (AreNumbered u) (sym is) (numbered_each s u t numbered leaves.config ns owned others);
    }
