-- A key that was removed is never live again: its process comes to a later generation, or is neither live nor free.
use Rattle.std.proofs.Common.{◌≡◌, ◌≢◌, ℕ, ◌<◌, ◌≤◌, lt-ltb, le-ltb, List, [], ◌∷◌, None, is_some, length, get_or, set, refl, sym, ap, subst, ◌∙◌, inl, inr, arith, le_refl, true≢false}
use Rattle.std.specs.List.{AllByRecursion}
use Rattle.std.proofs.lemmas.Bool.{cases_eq, cases_lt}
use Rattle.std.proofs.lemmas.List.{get_or-set_same, get_or-set_other, set_past}
use Rattle.mm_arena.specs.declared.key.Key.{Key}
use Rattle.mm_arena.specs.Slots.{Slots, Place, never_used, place_at, lookup, IsLive, live_key, opening_slots, filled, freed, removed}
use Rattle.mm_arena.specs.Calls.{Call, after_all}
use Rattle.mm_arena.proofs.Lemmas.Updates.{IsLive-within, generation_at_value, value_under-other, value_under-empty}
use Rattle.mm_arena.proofs.Lemmas.AfterAll.{kept_after_all}
use Rattle.mm_arena.proofs.Lemmas.AreFree.{has_value, IsLive-off, AreFree-after_all}

module _ {T : Type 0} where
  -- ---- the process has come to a later generation than the key's

  abbrev pub IsPast : Key → Slots T → Type 0
  IsPast key s = key.generation < (place_at s key.process).generation

  -- a write that does not lower the generation
  IsPast-set : (s : Slots T) (key : Key) (process : ℕ) (place : Place T) → (place_at s process).generation ≤ place.generation → IsPast key s → key.generation < (get_or (set s.places process place) key.process never_used).generation
  IsPast-set s key process place rises past =
      elim (cases_eq key.process process) [
        | inl same ↦ elim (cases_lt process (length s.places)) [
          | inl inside ↦ rw (same, get_or-set_same s.places process place never_used inside) (let below : key.generation < (place_at s process).generation = rw same at past in omega arith)
          | inr outside ↦ rw (set_past s.places process place outside) past
        ]
        | inr other ↦ rw (get_or-set_other s.places process key.process place never_used other) past
      ]

  -- a write of a live key's slot, under that key's generation or a later one
  IsPast-set_live : (s : Slots T) (key other : Key) (place : Place T) → other.generation ≤ place.generation → IsLive s other → IsPast key s → key.generation < (get_or (set s.places other.process place) key.process never_used).generation
  IsPast-set_live s key other place rises live past =
      IsPast-set s key other.process place (omega (arith, generation_at_value other.generation (place_at s other.process) live)) past

  IsPast-filled : (s : Slots T) (key : Key) (value : T) (free : List ℕ) → IsPast key s → IsPast key (filled s value free)
  IsPast-filled s key value [] past = past
  IsPast-filled s key value (process ∷ rest) past = IsPast-set s key process _ (le_refl _) past

  pub IsPast-after_all : (key : Key) (s : Slots T) (calls : List (Call T)) → IsPast key s → IsPast key (after_all s calls)
  IsPast-after_all key =
      kept_after_all (IsPast key) (λ t value. IsPast-filled t key value t.free)
      (λ t other. IsPast-set_live t key other _ (omega arith))
      (λ t other. IsPast-set_live t key other _ (le_refl _))
      (λ t other value. IsPast-set_live t key other _ (le_refl _))

  -- ---- the process has no value, and is not free

  pub record IsOut (process : ℕ) (s : Slots T) : Type 0 where
    pub empty : (place_at s process).value ≡ None
    pub off : AllByRecursion (λ other. other ≢ process) s.free

  -- it is not a live key's
  IsOut-apart : (s : Slots T) (process : ℕ) (key : Key) → IsLive s key → IsOut process s → process ≢ key.process
  IsOut-apart s process key live out same =
      true≢false (sym (has_value s key live) ∙ ap is_some (rw same at out.empty))

  -- a write of a live key's slot
  IsOut-set_live : (s : Slots T) (process : ℕ) (key : Key) (place : Place T) → IsLive s key → IsOut process s → (get_or (set s.places key.process place) process never_used).value ≡ None
  IsOut-set_live s process key place live out =
      rw (get_or-set_other s.places key.process process place never_used (IsOut-apart s process key live out)) out.empty

  IsOut-filled : (s : Slots T) (process : ℕ) (value : T) (free : List ℕ) → s.free ≡ free → IsOut process s → IsOut process (filled s value free)
  IsOut-filled s process value [] is out = out
  IsOut-filled s process value (first ∷ rest) is out =
      let off = subst (AllByRecursion (λ other. other ≢ process)) is out.off in
      record {
        empty = rw (get_or-set_other s.places first process _ never_used (λ same. off.0 (sym same))) out.empty;
        off = off.1;
      }

  IsOut-freed : (s : Slots T) (process : ℕ) (key : Key) → IsLive s key → IsOut process s → IsOut process (freed s key)
  IsOut-freed s process key live out =
      record {
        empty = IsOut-set_live s process key _ live out;
        off = (λ same. IsOut-apart s process key live out (sym same), out.off);
      }

  pub IsOut-after_all : (process : ℕ) (s : Slots T) (calls : List (Call T)) → IsOut process s → IsOut process (after_all s calls)
  IsOut-after_all process =
      kept_after_all (IsOut process) (λ t value. IsOut-filled t process value t.free refl)
      (λ t. IsOut-freed t process)
      (λ t key live out. record { empty = IsOut-set_live t process key _ live out; off = out.off })
      (λ t key value live out. record { empty = IsOut-set_live t process key _ live out; off = out.off })

  -- ---- a removal

  -- what a key's slot holds once it was written
  place_at-set : (s : Slots T) (key : Key) (place : Place T) → IsLive s key → get_or (set s.places key.process place) key.process never_used ≡ place
  place_at-set s key place live =
      get_or-set_same s.places key.process place never_used (IsLive-within s key live)

  -- below the last generation, the process comes to a later one
  removed_is_past : (s : Slots T) (key : Key) → IsLive s key → key.generation < s.limit → IsPast key (removed s key)
  removed_is_past s key live below =
      rw (live, lt-ltb key.generation s.limit below, place_at-set s key _ live) (omega arith)

  -- at the last generation, it is out
  removed_is_out : (s : Slots T) (key : Key) → IsLive s key → AllByRecursion (λ other. other ≢ key.process) s.free → s.limit ≤ key.generation → IsOut key.process (removed s key)
  removed_is_out s key live off last =
      rw (live, le-ltb key.generation s.limit last) (record { empty = ap (λ place. place.value) (place_at-set s key _ live); off = off })

  pub removed_is_never_live : (capacity limit : ℕ) (earlier later : List (Call T)) (key : Key)
      → let s = after_all (opening_slots capacity limit) earlier in
      let t = after_all (removed s key) later in
      IsLive s key → (lookup t key ≡ None) × (key.generation ≡ s.limit → live_key t key.process ≡ None)
  removed_is_never_live capacity limit earlier later key live =
      let s : Slots T = after_all (opening_slots capacity limit) earlier in
      elim (cases_lt key.generation s.limit) [
        | inl below ↦
            let past = IsPast-after_all key (removed s key) later (removed_is_past s key live below) in
            (value_under-other key.generation _ (λ same. omega arith), λ last. absurd (omega arith))
        | inr last ↦
            let off = IsLive-off s key live (AreFree-after_all capacity limit earlier) in
            let out = IsOut-after_all key.process (removed s key) later (removed_is_out s key live off last) in
            (value_under-empty key.generation _ out.empty, λ _. rw out.empty refl)
      ]
