-- Each step keeps the rule.
use Rattle.std.proofs.Common.{◌≡◌, ◌≢◌, ◌⊎◌, ℕ, zero, suc, ◌<◌, nat_eq, cond, List, [], ◌∷◌, ◌++◌, length, set, true, false, refl, sym, ap, ◌∙◌, subst, ⊎_elim, inl, inr, eq-eqb, ne_eqb, eqb, arith, append-nil, length-set, length-append}
use Rattle.std.proofs.lemmas.List.{append_assoc, get_or-set_same}
use Rattle.std.specs.Prelude.{slice_index}
use mathlib.Core.Logic.{dite}
use native.Mathlib.Decide.{ℕ_discrete}
use prog.Atomic.{either}
use mathlib.Core.Option.{Option, some, some-ne-none, some-injective}
use lib.ListN.{get_elem?}
use Rattle.atomic_table.specs.Table.{State, Me, Act, Valid, Allows, Enters, stepped, keeps, takes, gives, opening, carried_after, Final, Seen}
use Rattle.atomic_table.proofs.Lists.{at_set, at_snoc, set_again, set_here}
use Rattle.mm_tied.specs.declared.views.Told.{Told}
use Rattle.mm_tied.specs.declared.views.Stage.{Stage}
use Rattle.mm_tied.specs.declared.views.Stage.TheVariants.{Away, Holds}
use Rattle.mm_tied.specs.declared.views.View.{View}
use Rattle.mm_tied.specs.History.{all_told, events_of, calls_by, away, nobody, holding, Chain, LeadsTo}
use Rattle.mm_tied.specs.Rule.{lock_word, Knows, Fits, IsKept, Taken, Noted, Makes}

below : {A : Type 0} (l : List A) (i : ℕ) (a : A) → get_elem? l i ≡ some a → i < length l
below [] i a e = absurd (some-ne-none a (sym e))
below (x ∷ xs) zero a e = omega arith
below (x ∷ xs) (suc i) a e = (let h = below xs i a e in omega arith)

-- one more at the end: what is read is one of those before, or that one in its place
at_end : {A : Type 0} (l : List A) (a b : A) (j : ℕ) → get_elem? (l ++ a ∷ []) j ≡ some b → (get_elem? l j ≡ some b) ⊎ ((j ≡ length l) × (a ≡ b))
at_end [] a b zero e = inr (refl, some-injective a b e)
at_end [] a b (suc j) e = absurd (some-ne-none b (sym e))
at_end (x ∷ xs) a b zero e = inl e
at_end (x ∷ xs) a b (suc j) e = elim (at_end xs a b j e) [ inl before ↦ inl before | inr here ↦ inr (ap suc here.0, here.1) ]

-- what is read is what is there
read : (l : List ℕ) (i n : ℕ) → get_elem? l i ≡ some n → slice_index l i ≡ n
read [] i n e = absurd (some-ne-none n (sym e))
read (x ∷ xs) zero n e = some-injective x n e
read (x ∷ xs) (suc i) n e = read xs i n e

-- ---- histories

module _ {S E : Type 0} (makes : S → E → S → Type 0) where
  chain_append : (s t u : S) (es fs : List E) → Chain makes s es t → Chain makes t fs u → Chain makes s (es ++ fs) u
  chain_append s t u [] fs same c = subst (λ x. Chain makes x fs u) (sym same) c
  chain_append s t u (e ∷ es) fs c d = (c.0, c.1, chain_append c.0 t u es fs c.2 d)

module _ {E : Type 0} where
  events_append : (xs ys : List (Told E)) → events_of (xs ++ ys) ≡ events_of xs ++ events_of ys
  events_append [] ys = refl
  events_append (x ∷ xs) ys = ap (λ l. x.event ∷ l) (events_append xs ys)

  events_told : (by : ℕ) (es : List E) → events_of (all_told by es) ≡ es
  events_told by [] = refl
  events_told by (e ∷ es) = ap (λ l. e ∷ l) (events_told by es)

  calls_append : (by : ℕ) (xs ys : List (Told E)) → calls_by by (xs ++ ys) ≡ calls_by by xs ++ calls_by by ys
  calls_append by [] ys = refl
  calls_append by (x ∷ xs) ys = elim (nat_eq x.by by) as (λ b. cond b (x.event ∷ calls_by by (xs ++ ys)) (calls_by by (xs ++ ys)) ≡ cond b (x.event ∷ calls_by by xs) (calls_by by xs) ++ calls_by by ys) [
    | true ↦ ap (λ l. x.event ∷ l) (calls_append by xs ys)
    | false ↦ calls_append by xs ys
  ]

  calls_own : (by : ℕ) (es : List E) → calls_by by (all_told by es) ≡ es
  calls_own by [] = refl
  calls_own by (e ∷ es) = ap (λ b. cond b (e ∷ calls_by by (all_told by es)) (calls_by by (all_told by es))) (eq-eqb by by refl) ∙ ap (λ l. e ∷ l) (calls_own by es)

  calls_other : (by id : ℕ) (es : List E) → id ≢ by → calls_by by (all_told id es) ≡ []
  calls_other by id [] apart = refl
  calls_other by id (e ∷ es) apart = ap (λ b. cond b (e ∷ calls_by by (all_told id es)) (calls_by by (all_told id es))) (ne_eqb id by apart) ∙ calls_other by id es apart

module _ {T S E : Type 0} (state : T → S) (makes : S → E → S → Type 0) (first : S) where
  pub opens : (m : T) (words : List ℕ) → lock_word < length words → first ≡ state m → IsKept state makes first (opening words (m ∷ []) nobody)
  opens m words long is = record { sized = long; seat = 0; log = []; fits = one; fresh = λ by far. refl; free = λ e. ((m, refl, is), none_holds) }
    where
      one : (by : ℕ) (v : View S E) → get_elem? (nobody ∷ []) by ≡ some v → Fits makes first [] 0 by v
      one zero v e = subst (λ u. Fits makes first [] 0 0 u) (some-injective _ _ e) (record { mine = refl; seen = ([], refl); stage = tt })
      one (suc by) v e = absurd (some-ne-none v (sym e))

      none_holds : (by : ℕ) (v : View S E) → get_elem? (nobody ∷ []) by ≡ some v → v.stage ≡ Away
      none_holds zero v e = ap (λ (u : View S E). u.stage) (sym (some-injective _ _ e))
      none_holds (suc by) v e = absurd (some-ne-none v (sym e))

  -- the state after a step of the word
  abbrev next : State T (View S E) → ℕ → List (Option T) → ℕ → View S E → State T (View S E)
  next s now homes id w = record { words = set s.words lock_word now; homes = homes; views = set s.views id w }

  -- who has no lock fits, wherever the lock is
  plain : (log : List (Told E)) (seat now by : ℕ) (u : View S E) → u.stage ≡ Away → Fits makes first log seat by u → Fits makes first log now by u
  plain log seat now by u without f = record { mine = f.mine; seen = f.seen; stage = subst (λ x. Knows makes first log now by x) (sym without) tt }

  fits_set : (log : List (Told E)) (seat : ℕ) (views : List (View S E)) (id : ℕ) (w : View S E) → ((by : ℕ) (u : View S E) → by ≢ id → get_elem? views by ≡ some u → Fits makes first log seat by u) → Fits makes first log seat id w
      → (by : ℕ) (u : View S E) → get_elem? (set views id w) by ≡ some u → Fits makes first log seat by u
  fits_set log seat views id w others mine by u e = ⊎_elim
      (λ (x : (by ≡ id) × (w ≡ u)). subst (λ (y : ℕ × View S E). Fits makes first log seat y.0 y.1) (λ i. (sym x.0 i, x.1 i)) mine)
      (λ (x : (by ≢ id) × (get_elem? views by ≡ some u)). others by u x.0 x.1)
      (at_set views id by w u e)

  -- nothing changes but the word, which is not 0
  stays : (s : State T (View S E)) (id now : ℕ) (v : View S E) → IsKept state makes first s → get_elem? s.views id ≡ some v → now ≢ 0 → IsKept state makes first (next s now s.homes id v)
  stays s id now v t at some_now = record {
    sized = (let h = t.sized in omega (arith, length-set s.words lock_word now));
    seat = t.seat;
    log = t.log;
    fits = λ by u is. t.fits by u (subst (λ (l : List (View S E)). get_elem? l by ≡ some u) (set_again s.views id v at) is);
    fresh = λ by far. t.fresh by (omega (arith, length-set s.views id v));
    free = λ zero_now. absurd (some_now (sym (get_or-set_same s.words lock_word now 0 t.sized) ∙ zero_now));
  }

  -- a new pass
  abbrev IsNew : Me T (View S E) → Type 0
  IsNew now = now ≡ (nobody, [])

  pub comes : (slots : ℕ) → Enters (IsKept state makes first) slots lock_word (λ n w. IsNew (w, []))
  comes slots s t sized small = (
    nobody,
    record {
      sized = t.sized;
      seat = t.seat;
      log = t.log;
      fits = λ by u e. ⊎_elim
          (λ (old : get_elem? s.views by ≡ some u). t.fits by u old)
          (λ (x : (by ≡ length s.views) × (nobody ≡ u)). subst (λ (y : ℕ × View S E). Fits makes first t.log t.seat y.0 y.1) (λ i. (sym x.0 i, x.1 i))
          (record { mine = t.fresh (length s.views) (omega arith); seen = (t.log, refl); stage = tt }))
          (at_end s.views nobody u by e);
      fresh = λ by far. t.fresh by (omega (arith, length-append s.views (nobody ∷ [])));
      free = λ e. (
        (t.free e).0,
        λ by u is. ⊎_elim
            (λ (old : get_elem? s.views by ≡ some u). (t.free e).1 by u old)
            (λ (same : nobody ≡ u). ap (λ (x : View S E). x.stage) (sym same))
            (at_snoc s.views nobody u by is),
      );
    },
    refl,
  )

  abbrev Changes : (Me T (View S E) → ℕ → Me T (View S E) → Type 0) → ℕ → ℕ → Me T (View S E) → ℕ → State T (View S E) → Type 0
  Changes tells id slots me now s = (w : View S E) × (a : Act T) × Valid s.homes me.1 a × IsKept state makes first (stepped s lock_word now id me.1 w a) × tells me (slice_index s.words lock_word) (w, carried_after me.1 a)

  -- the lock was free, and the word says something else from now on
  hit : (id slots : ℕ) (me : Me T (View S E)) (now : ℕ) (s : State T (View S E)) → IsKept state makes first s → get_elem? s.views id ≡ some me.0 → now ≢ 0 → slice_index s.words lock_word ≡ 0 → Changes (Taken state) id slots me now s
  hit id slots me now s t at some_now e =
      let home = (t.free e).0 in
      let none_holds = (t.free e).1 in
      let w = holding me.0 t.log (state home.0) in
      let mine = t.fits id me.0 at in (
        w,
        takes 0 home.0,
        home.1,
        record {
          sized = (let h = t.sized in omega (arith, length-set s.words lock_word now));
          seat = id;
          log = t.log;
          fits = fits_set t.log id s.views id w (λ by u apart is. plain t.log t.seat id by u (none_holds by u is) (t.fits by u is)) (record { mine = mine.mine; seen = mine.seen; stage = (refl, refl, home.2) });
          fresh = λ by far. t.fresh by (omega (arith, length-set s.views id w));
          free = λ zero_now. absurd (some_now (sym (get_or-set_same s.words lock_word now 0 t.sized) ∙ zero_now));
        },
        (λ z. (t.log, home.0, refl), λ nz. absurd (nz e)),
      )

  missed : (id slots : ℕ) (me : Me T (View S E)) (now : ℕ) (s : State T (View S E)) → IsKept state makes first s → get_elem? s.views id ≡ some me.0 → now ≢ 0 → slice_index s.words lock_word ≢ 0 → Changes (Taken state) id slots me now s
  missed id slots me now s t at some_now ne = (me.0, keeps, tt, stays s id now me.0 t at some_now, (λ z. absurd (ne z), λ nz. refl))

  -- a compare-and-swap of 0 to 1
  pub taking : (slots id : ℕ) (me : Me T (View S E)) → Allows (IsKept state makes first) slots id me lock_word (λ k. either (eqb k 0) 1 k) (λ found now. Taken state me found now)
  taking slots id me s t sized at small =
      let n : ℕ = slice_index s.words lock_word in
      dite (ℕ_discrete n 0)
      (λ e. subst (λ k. Changes (Taken state) id slots me k s) (sym (ap (λ x. either x 1 n) (eq-eqb n 0 e))) (hit id slots me 1 s t at (λ never. omega arith) e))
      (λ ne. subst (λ k. Changes (Taken state) id slots me k s) (sym (ap (λ x. either x 1 n) (ne_eqb n 0 ne))) (missed id slots me n s t at ne ne))

  -- the same, and if it was not free its word says that a thread may sleep
  pub grabbing : (slots id : ℕ) (me : Me T (View S E)) → Allows (IsKept state makes first) slots id me lock_word (λ k. 2) (λ found now. Taken state me found now)
  grabbing slots id me s t sized at small =
      dite (ℕ_discrete (slice_index s.words lock_word) 0)
      (λ e. hit id slots me 2 s t at (λ never. omega arith) e)
      (λ ne. missed id slots me 2 s t at (λ never. omega arith) ne)

  -- who is not the one that has the lock is away
  is_away : (log : List (Told E)) (seat by : ℕ) (x : Stage S E) → (by ≡ seat → ⊥) → Knows makes first log seat by x → x ≡ Away
  is_away log seat by Away apart k = refl
  is_away log seat by (Holds l y) apart k = absurd (apart k.0)

  -- the lock is given back with the value after these events
  putting : (slots id : ℕ) (v : View S E) (log : List (Told E)) (found : S) (value : T) (es : List E) → 0 < slots → v.stage ≡ Holds log found → Chain makes found es (state value)
      → Allows (IsKept state makes first) slots id (v, (0, value) ∷ []) lock_word (λ k. 0) (λ n now. Noted makes first id es (v, (0, value) ∷ []) now)
  putting slots id v log found value es some_slot has run s t sized at small =
      let f = t.fits id v at in
      let known : Knows makes first t.log t.seat id (Holds log found) = subst (λ x. Knows makes first t.log t.seat id x) has f.stage in
      let now : List (Told E) = t.log ++ all_told id es in
      let w : View S E = away now (v.mine ++ es) in
      let chain : Chain makes first (events_of now) (state value) =
      subst (λ l. Chain makes first l (state value)) (sym (events_append t.log (all_told id es) ∙ ap (λ l. events_of t.log ++ l) (events_told id es))) (chain_append makes first found (state value) (events_of t.log) es known.2 run) in
      let own : calls_by id now ≡ v.mine ++ es = calls_append id t.log (all_told id es) ∙ ap (λ l. calls_by id t.log ++ l) (calls_own id es) ∙ ap (λ l. l ++ es) f.mine in (
        w,
        gives,
        tt,
        record {
          sized = (let h = t.sized in omega (arith, length-set s.words lock_word 0));
          seat = t.seat;
          log = now;
          fits = fits_set now t.seat s.views id w
              (λ by u apart is. (let g = t.fits by u is in
              record {
                mine = calls_append by t.log (all_told id es) ∙ ap (λ l. calls_by by t.log ++ l) (calls_other by id es (λ same. apart (sym same))) ∙ append-nil (calls_by by t.log) ∙ g.mine;
                seen = (g.seen.0 ++ all_told id es, ap (λ l. l ++ all_told id es) g.seen.1 ∙ append_assoc u.seen g.seen.0 (all_told id es));
                stage = subst (λ x. Knows makes first now t.seat by x) (sym (is_away t.log t.seat by u.stage (λ here. apart (here ∙ sym known.0)) g.stage)) tt;
              }))
              (record { mine = own; seen = ([], sym (append-nil now)); stage = tt });
          fresh = λ by far. calls_append by t.log (all_told id es) ∙ ap (λ l. calls_by by t.log ++ l) (calls_other by id es (λ same. (let low = below s.views id v at in let long = length-set s.views id w in omega arith)))
              ∙ append-nil (calls_by by t.log) ∙ t.fresh by (omega (arith, length-set s.views id w));
          free = λ _. (
            (value, set_here s.homes 0 (some value) (omega arith), chain),
            λ by u is. ⊎_elim
                (λ (x : (by ≡ id) × (w ≡ u)). ap (λ (y : View S E). y.stage) (sym x.1))
                (λ (x : (by ≢ id) × (get_elem? s.views by ≡ some u)). is_away t.log t.seat by u.stage (λ here. x.0 (here ∙ sym known.0)) (t.fits by u x.1).stage)
                (at_set s.views id by w u is),
          );
        },
        (record { between = f.seen.0; seen = ap (λ l. l ++ all_told id es) f.seen.1; mine = refl; sound = record { own = own; legal = ∣ (state value, chain) ∣₁; away = refl } }, refl),
      )

  pub puts_so : (slots id : ℕ) (me : Me T (View S E)) (es : List E) → 0 < slots → Makes state makes es me
      → Allows (IsKept state makes first) slots id me lock_word (λ k. 0) (λ n now. Noted makes first id es me now)
  puts_so slots id me es some_slot made =
      subst (λ (x : List (ℕ × T)). Allows (IsKept state makes first) slots id (me.0, x) lock_word (λ k. 0) (λ n now. Noted makes first id es (me.0, x) now)) (sym made.4)
      (putting slots id me.0 made.0 made.1 made.2 es some_slot made.3 made.5)

  -- the table at the end, if the lock is free there
  pub closes : (ws : List ℕ) (xs : List T) (id word : ℕ) (v : View S E) (value : T) → Final (Seen (IsKept state makes first) id v) ws xs → get_elem? ws lock_word ≡ some word → word ≡ 0 → get_elem? xs 0 ≡ some value
      → LeadsTo makes first id v (state value)
  closes ws xs id word v value last at is_free there =
      let s = last.0 in
      let kept = last.1.0 in
      let fits = kept.fits id v last.1.1 in
      let home = (kept.free (ap (λ (l : List ℕ). slice_index l lock_word) last.2 ∙ read ws lock_word word at ∙ is_free)).0 in
      let same : home.0 ≡ value = some-injective home.0 value (sym (last.4 0 home.0 home.1) ∙ there) in
      record { log = kept.log; leads = subst (λ (m : T). Chain makes first (events_of kept.log) (state m)) same home.2; seen = fits.seen; own = fits.mine }
