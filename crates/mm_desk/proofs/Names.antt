-- Which names have numbers after a call of the manager, and what that does to the counts.
use Rattle.std.proofs.Common.{◌≡◌, ◌≢◌, ◌⊎◌, ◌↔◌, ℕ, ◌+◌, ◌-◌, ◌<◌, ◌≤◌, zero, suc, ◌∷◌, Bool, true, false, if◌then◌else◌, List, [], length, set, Option, Some, None, Result, Ok, Err, IfOk, refl, sym, ap, ◌∙◌, subst, inl, inr, arith, get_or-set_same, get_or-set_other, length-set}
use Rattle.std.specs.Prelude.{slice_index, slice_index_or, is_some, is_err, is_ok}
use Rattle.std.proofs.lemmas.Bool.{cases_eq}
use Rattle.std.proofs.lemmas.Option.{same_Some, slice_get-get_or}
use Rattle.std.proofs.lemmas.List.{same_lists}
use Rattle.mm_arena.specs.declared.key.Key.{Key}
use Rattle.mm_names.specs.Names.{NameTable, name_of, Interns}
use Rattle.mm_rules.specs.TableState.{owner_of}
use Rattle.mm_manager.specs.LockState.{LockState, Owns, Waits, IsUnowned, KeepOwned, IsLawful, untold}
use Rattle.mm_manager.specs.Calls.{AdoptsName, AdoptsNumber, Gets, TriesName, Tries, LocksName, Requests, Unlocks, UnlocksName, Ends, LosesName, Passes, Cancels, Begins, Commits, Aborts}
use Rattle.mm_manager.specs.Reads.{HasStatus}
use Rattle.mm_manager.specs.declared.reply.Status.{Status}
use Rattle.mm_rules.specs.TableState.{TableState, is_live}
use Rattle.mm_rules.specs.Event.{allowed, decided, begin_tests}
use Rattle.mm_rules.specs.declared.refusal.Refusal as rules
use Rattle.mm_manager.specs.declared.config.ManagerConfig.{ManagerConfig}
use Rattle.mm_manager.specs.Opening.{opening_state}
use Rattle.mm_lists.proofs.Lemmas.Set.{read_replicate}
use Rattle.std.proofs.Math.ListN.{replicate}
use Rattle.std.proofs.lemmas.List.Sums.{sum_by-cons}
use Rattle.mm_lists.specs.Members.{Among}
use Rattle.mm_manager.specs.declared.refusal.Refusal.{Refusal}
use Rattle.mm_manager.specs.declared.reply.Lock.{Lock}
use Rattle.mm_manager.specs.declared.reply.Lock.TheVariants as lock
use Rattle.mm_manager.specs.declared.reply.TryLock.{TryLock}
use Rattle.mm_manager.specs.declared.reply.TryLock.TheVariants as tried
use Rattle.mm_thin.specs.declared.spread.Spread.{Spread}
use Rattle.mm_thin.specs.Spread.{bucket_by}
use Rattle.mm_desk.specs.Books.{in_bucket, names_in, AreCounted}
use Rattle.mm_desk.specs.Calls.{GrowsBy, NamesFade, OwnersStay, OthersStay, WaitsStay, HasNoNames, IsOver}
use Rattle.mm_desk.proofs.Counts.{count_more, count_less, counted_name, few}

module _ (m : LockState) (lawful : IsLawful m) where
  -- a name that has a number has an owner
  owner_of_name : (n : ℕ) (name : List ℕ) (o : Option Key) → owner_of m.table n ≡ o → name_of m.names n ≡ Some name → (h : Key) × Owns m h name
  owner_of_name n name None e is = (let none : name_of m.names n ≡ None = (lawful.numbered n).1 e in absurd (cc))
  owner_of_name n name (Some h) e is = (h, (n, is, e))

  pub has_owner : (n : ℕ) (name : List ℕ) → name_of m.names n ≡ Some name → (h : Key) × Owns m h name
  has_owner n name is = owner_of_name n name (owner_of m.table n) refl is

  pub not_named : (name : List ℕ) → IsUnowned m name → (n : ℕ) → name_of m.names n ≡ Some name → ⊥
  not_named name free n is = (let h = has_owner n name is in free h.0 h.1)

  -- a number inside the names
  pub inside : (n : ℕ) (name : List ℕ) → name_of m.names n ≡ Some name → n < length m.names.names
  inside n name is = within m.names.names n name is where
    within : (xs : List (Option (List ℕ))) (n : ℕ) (name : List ℕ) → slice_index_or xs n None ≡ Some name → n < length xs
    within [] n name is = absurd (cc)
    within (x ∷ xs) zero name is = omega arith
    within (x ∷ xs) (suc n) name is = (let low = within xs n name is in omega arith)

  -- the counts are small
  pub small_count : (spread : Spread) (counts : List ℕ) (b : ℕ) → AreCounted spread m.names.names counts → b < spread.buckets → slice_index counts b ≤ 16777216
  small_count spread counts b counted low = (let few_names = few spread b m.names.names in let most = lawful.names.in_range.numbers.1 in let is = counted.1 b low in omega arith)

  module _ (spread : Spread) (counts : List ℕ) (counted : AreCounted spread m.names.names counts) (name : List ℕ) (b : ℕ) (bucket : b ≡ bucket_by spread name) (low : b < spread.buckets) where
    -- a name that nobody owned is owned
    pub count_granted : (new : LockState) (n : ℕ) → IsUnowned m name → Interns m.names name n new.names → AreCounted spread new.names.names (set counts b (slice_index counts b + 1))
    count_granted new n free interns = elim interns [
      | inl old ↦ absurd (not_named name free n old.0)
      | inr fresh ↦ subst (λ (t : NameTable). AreCounted spread t.names (set counts b (slice_index counts b + 1))) (sym fresh.2)
          (count_more spread m.names.names counts counted n fresh.1.0 name b bucket low fresh.1.1)
    ]

-- ---- which names have numbers afterwards

pub grows_same : (old new : LockState) (name : List ℕ) → new.names ≡ old.names → GrowsBy old name new
grows_same old new name same n x is = inr (ap (λ (t : NameTable). name_of t n) (sym same) ∙ is)

grows_interned : (t : NameTable) (name : List ℕ) (m : ℕ) (named : NameTable) → Interns t name m named → (n : ℕ) (x : List ℕ) → name_of named n ≡ Some x → (x ≡ name) ⊎ (name_of t n ≡ Some x)
grows_interned t name m named (inl old) n x is = inr (ap (λ (u : NameTable). name_of u n) (sym old.1) ∙ is)
grows_interned t name m named (inr new) n x is = elim (cases_eq n m) [
  | inl same ↦
      let here : name_of named m ≡ Some name = ap (λ (u : NameTable). name_of u m) new.2 ∙ get_or-set_same t.names m (Some name) None new.1.0 in
      inl (same_Some x name (sym is ∙ ap (name_of named) same ∙ here))
  | inr apart ↦ inr (sym (get_or-set_other t.names m n (Some name) None apart) ∙ ap (λ (u : NameTable). name_of u n) (sym new.2) ∙ is)
]

untold_names : (old new : LockState) → new ≡ untold old → new.names ≡ old.names
untold_names old new same = ap (λ (m : LockState). m.names) same

stays_told : (old new : LockState) → new ≡ untold old → OwnersStay old new
stays_told old new same h x owns = subst (λ (m : LockState). Owns m h x) (sym same) owns

gets_stay : (old : LockState) (k : Key) (name : List ℕ) (new : LockState) → Gets old k name new → OwnersStay old new
gets_stay old k name new gets h x owns = (gets.others h x (λ same. gets.free h (subst (Owns old h) same owns))).1 owns

pub locked_grows : (old : LockState) (k : Key) (name : List ℕ) (answer : Result Lock Refusal) (new : LockState) → LocksName old k name answer new
    → IfOk answer (λ a. Requests old.table old.names old.totals k name a new.table new.names) → GrowsBy old name new
locked_grows old k name (Ok lock.Granted) new locks step n x is = grows_interned old.names name step.0 new.names step.1 n x is
locked_grows old k name (Ok lock.Held) new locks step n x is = grows_same old new name (untold_names old new locks.1) n x is
locked_grows old k name (Ok (lock.Waits h)) new locks step n x is = grows_interned old.names name step.1.0 new.names step.1.1 n x is
locked_grows old k name (Ok (lock.Deadlock h)) new locks step n x is = grows_interned old.names name step.1.0 new.names step.1.1 n x is
locked_grows old k name (Err refusal) new locks step n x is = grows_same old new name (untold_names old new locks.0) n x is

pub locked_stay : (old : LockState) (k : Key) (name : List ℕ) (answer : Result Lock Refusal) (new : LockState) → LocksName old k name answer new → OwnersStay old new
locked_stay old k name (Ok lock.Granted) new locks h x owns = gets_stay old k name new locks h x owns
locked_stay old k name (Ok lock.Held) new locks h x owns = stays_told old new locks.1 h x owns
locked_stay old k name (Ok (lock.Waits g)) new locks h x owns = (locks.0.owners h x).1 owns
locked_stay old k name (Ok (lock.Deadlock g)) new locks h x owns = (owns.0, ap (λ (m : LockState). name_of m.names owns.0) locks.state ∙ owns.1, ap (λ os. slice_index_or os owns.0 None) locks.same.owners ∙ owns.2)
locked_stay old k name (Err refusal) new locks h x owns = stays_told old new locks.0 h x owns

-- ---- the counts where nobody gets a name

-- who owns a name has it under its number, so a request for it enters none
interned_same : (t : NameTable) (name : List ℕ) (n m : ℕ) (named : NameTable) → name_of t m ≡ Some name → Interns t name n named → named ≡ t
interned_same t name n m named is (inl old) = old.1
interned_same t name n m named is (inr new) = absurd (new.0 (m, is))

pub locked_same : (old : LockState) (k : Key) (name : List ℕ) (answer : Result Lock Refusal) (new : LockState) → LocksName old k name answer new
    → IfOk answer (λ a. Requests old.table old.names old.totals k name a new.table new.names) → (answer ≡ Ok lock.Granted → ⊥) → new.names ≡ old.names
locked_same old k name (Ok lock.Granted) new locks step not_granted = absurd (not_granted refl)
locked_same old k name (Ok lock.Held) new locks step not_granted = untold_names old new locks.1
locked_same old k name (Ok (lock.Waits h)) new locks step not_granted = interned_same old.names name step.1.0 locks.0.holder.0 new.names locks.0.holder.1 step.1.1
locked_same old k name (Ok (lock.Deadlock h)) new locks step not_granted = ap (λ (m : LockState). m.names) locks.state
locked_same old k name (Err refusal) new locks step not_granted = untold_names old new locks.0

-- a grant is of a name that nobody owned, which has a number from now on
pub lock_granted : (old : LockState) (k : Key) (name : List ℕ) (answer : Result Lock Refusal) (new : LockState) → LocksName old k name answer new
    → IfOk answer (λ a. Requests old.table old.names old.totals k name a new.table new.names) → answer ≡ Ok lock.Granted → IsUnowned old name × ((n : ℕ) × Interns old.names name n new.names)
lock_granted old k name (Ok lock.Granted) new locks step is = (locks.free, (step.0, step.1))
lock_granted old k name (Ok lock.Held) new locks step is = absurd (cc)
lock_granted old k name (Ok (lock.Waits h)) new locks step is = absurd (cc)
lock_granted old k name (Ok (lock.Deadlock h)) new locks step is = absurd (cc)
lock_granted old k name (Err refusal) new locks step is = absurd (cc)

-- ---- a try and an adoption

abbrev pub IsTryGranted : Result TryLock Refusal → Type 0
IsTryGranted answer = answer ≡ Ok tried.Granted

-- a grant is of a name that nobody owned, which has a number from now on; by any other answer the names stay
pub record IsBooked (old : LockState) (name : List ℕ) (answer : Result TryLock Refusal) (new : LockState) : Type 0 where
  pub granted : IsTryGranted answer → IsUnowned old name × ((n : ℕ) × Interns old.names name n new.names)
  pub same : (IsTryGranted answer → ⊥) → new.names ≡ old.names
  pub grows : GrowsBy old name new
  pub stay : OwnersStay old new
  pub waits : WaitsStay old new

granted_booked : (old : LockState) (k : Key) (name : List ℕ) (new : LockState) → Gets old k name new → (n : ℕ) → Interns old.names name n new.names → IsBooked old name (Ok tried.Granted) new
granted_booked old k name new gets n interns = record {
  granted = λ is. (gets.free, (n, interns));
  same = λ not_granted. absurd (not_granted refl);
  grows = λ m x is. grows_interned old.names name n new.names interns m x is;
  stay = λ h x owns. gets_stay old k name new gets h x owns;
  waits = gets.waits;
}

-- only who was granted something is told of
waits_told : (old new : LockState) → new ≡ untold old → WaitsStay old new
waits_told old new same h x = subst (λ (m : LockState). Waits m h x ↔ Waits old h x) (sym same) (λ w. w, λ w. w)

untold_booked : (old : LockState) (name : List ℕ) (answer : Result TryLock Refusal) (new : LockState) → (IsTryGranted answer → ⊥) → new ≡ untold old → IsBooked old name answer new
untold_booked old name answer new not_granted same = record {
  granted = λ is. absurd (not_granted is);
  same = λ _. untold_names old new same;
  grows = λ n x is. grows_same old new name (untold_names old new same) n x is;
  stay = λ h x owns. stays_told old new same h x owns;
  waits = waits_told old new same;
}

pub tried_booked : (old : LockState) (k : Key) (name : List ℕ) (answer : Result TryLock Refusal) (new : LockState) → TriesName old k name answer new
    → IfOk answer (λ a. Tries old.table old.names k name a new.table new.names) → IsBooked old name answer new
tried_booked old k name (Ok tried.Granted) new tries step = granted_booked old k name new tries step.0 step.1
tried_booked old k name (Ok tried.Held) new tries step = untold_booked old name (Ok tried.Held) new (λ is. cc) tries.1
tried_booked old k name (Ok (tried.Busy h)) new tries step = untold_booked old name (Ok (tried.Busy h)) new (λ is. cc) tries.2
tried_booked old k name (Err refusal) new tries step = untold_booked old name (Err refusal) new (λ is. cc) tries.0

pub adopted_booked : (old : LockState) (k : Key) (name : List ℕ) (answer : Result TryLock Refusal) (new : LockState) → AdoptsName old k name answer new
    → IfOk answer (λ a. AdoptsNumber old.table old.names k name a new.table new.names) → IsBooked old name answer new
adopted_booked old k name (Ok tried.Granted) new adopts step = granted_booked old k name new adopts step.0 step.1
adopted_booked old k name (Ok tried.Held) new adopts step = untold_booked old name (Ok tried.Held) new (λ is. cc) adopts.1
adopted_booked old k name (Ok (tried.Busy h)) new adopts step = untold_booked old name (Ok (tried.Busy h)) new (λ is. cc) adopts.2
adopted_booked old k name (Err refusal) new adopts step = untold_booked old name (Err refusal) new (λ is. cc) adopts.0

-- ---- names that are handed over, or free

pub names_ext : (xs ys : List (Option (List ℕ))) → length xs ≡ length ys → ((k : ℕ) → slice_index_or xs k None ≡ slice_index_or ys k None) → xs ≡ ys
names_ext xs ys size same = same_lists xs ys size (λ k d low. same_Some (slice_index_or xs k d) (slice_index_or ys k d)
    (sym (slice_get-get_or xs k d low) ∙ slice_get-get_or xs k None low ∙ ap Some (same k) ∙ sym (slice_get-get_or ys k None (omega arith)) ∙ slice_get-get_or ys k d (omega arith)))

kept_or_none : (b : Bool) (o x : Option (List ℕ)) → x ≡ (if b then o else None) → (x ≡ o) ⊎ (x ≡ None)
kept_or_none true o x is = inl is
kept_or_none false o x is = inr is

none_or_same : (o x : Option (List ℕ)) (y : List ℕ) → (x ≡ o) ⊎ (x ≡ None) → x ≡ Some y → o ≡ Some y
none_or_same o x y (inl same) is = sym same ∙ is
none_or_same o x y (inr none) is = absurd (cc)

pub kept_names : (old new : LockState) → KeepOwned old.names new.table new.names → (n : ℕ) → (name_of new.names n ≡ name_of old.names n) ⊎ (name_of new.names n ≡ None)
kept_names old new kept n = kept_or_none (is_some (owner_of new.table n)) (name_of old.names n) (name_of new.names n) (kept.named n)

pub fades : (old new : LockState) → KeepOwned old.names new.table new.names → NamesFade old new
fades old new kept n x is = none_or_same (name_of old.names n) (name_of new.names n) x (kept_names old new kept n) is

module _ (old new : LockState) (lawful : IsLawful old) (lawful' : IsLawful new) (k : Key) (Loses : Key → List ℕ → Type 0) (kept : KeepOwned old.names new.table new.names) (passes : Passes old k Loses new) where
  -- a name whose owner does not lose it keeps its number
  pub stays_named : (n : ℕ) (x : List ℕ) → name_of old.names n ≡ Some x → ((h : Key) → Owns old h x → ¬ Loses h x) → name_of new.names n ≡ Some x
  stays_named n x is keeps =
      let h = has_owner old lawful n x is in
      let now = passes.keeps h.0 x h.1 (keeps h.0 h.1) in
      let same : now.0 ≡ n = lawful.names.distinct now.0 n x (fades old new kept now.0 x now.1) is in
      ap (name_of new.names) (sym same) ∙ now.1

module _ (old new : LockState) (lawful : IsLawful old) (lawful' : IsLawful new) (k : Key) (name : List ℕ) (done : Unlocks old k name new) where
  pub unlock_stay : (h : Key) (x : List ℕ) → Owns old h x → ((h ≡ k) × (x ≡ name) → ⊥) → Owns new h x
  unlock_stay h x owns not_it = done.passes.keeps h x owns not_it

  other_number : (j : ℕ) → j ≢ done.number → (o : Option (List ℕ)) → name_of old.names j ≡ o → name_of new.names j ≡ o
  other_number j apart None is = elim (kept_names old new done.over.names j) [ inl same ↦ same ∙ is | inr none ↦ none ]
  other_number j apart (Some x) is =
      stays_named old new lawful lawful' k (LosesName k name) done.over.names done.passes j x is
      (λ h owns it. apart (lawful.names.distinct j done.number name (is ∙ ap Some it.1) done.named))

  size : length new.names.names ≡ length old.names.names
  size = done.over.names.numbers

  -- the name is free now
  pub freed_names : ((h : Key) → Owns new h name → ⊥) → new.names.names ≡ set old.names.names done.number None
  freed_names free = names_ext new.names.names (set old.names.names done.number None) (size ∙ sym (length-set old.names.names done.number None)) (λ j. elim (cases_eq j done.number) [
    | inl same ↦ ap (name_of new.names) same ∙ gone (name_of new.names done.number) refl ∙ sym (ap (λ i. slice_index_or (set old.names.names done.number None) i None) same ∙ get_or-set_same old.names.names done.number None None (inside old lawful done.number name done.named))
    | inr apart ↦ other_number j apart (name_of old.names j) refl ∙ sym (get_or-set_other old.names.names done.number j None None apart)
  ]) where
    gone : (o : Option (List ℕ)) → name_of new.names done.number ≡ o → o ≡ None
    gone None is = refl
    gone (Some x) is =
        let same : x ≡ name = same_Some x name (sym (fades old new done.over.names done.number x is) ∙ done.named) in
        let h = has_owner new lawful' done.number x is in
        absurd (free h.0 (subst (Owns new h.0) same h.1))

  -- somebody has it now
  pub handed_names : (h : Key) → Owns new h name → new.names.names ≡ old.names.names
  handed_names h owns = names_ext new.names.names old.names.names size (λ j. elim (cases_eq j done.number) [
    | inl same ↦
        let at : owns.0 ≡ done.number = lawful.names.distinct owns.0 done.number name (fades old new done.over.names owns.0 name owns.1) done.named in
        ap (name_of new.names) (same ∙ sym at) ∙ owns.1 ∙ sym done.named ∙ ap (name_of old.names) (sym same)
    | inr apart ↦ other_number j apart (name_of old.names j) refl
  ])

-- an unlock, by its answer
module _ (old new : LockState) (lawful : IsLawful old) (lawful' : IsLawful new) (k : Key) (name : List ℕ) where
  pub unlocked_stay : (answer : Result (Unit {0}) Refusal) → UnlocksName old k name answer new → OthersStay old k name new
  unlocked_stay (Ok done) unlocks h x owns not_it = unlock_stay old new lawful lawful' k name unlocks h x owns not_it
  unlocked_stay (Err refusal) unlocks h x owns not_it = stays_told old new unlocks.0 h x owns

  pub unlocked_fade : (answer : Result (Unit {0}) Refusal) → UnlocksName old k name answer new → NamesFade old new
  unlocked_fade (Ok done) unlocks n x is = fades old new unlocks.over.names n x is
  unlocked_fade (Err refusal) unlocks n x is = ap (λ (t : NameTable). name_of t n) (sym (untold_names old new unlocks.0)) ∙ is

  pub done_of : (answer : Result (Unit {0}) Refusal) → UnlocksName old k name answer new → is_err answer ≡ false → Unlocks old k name new
  done_of (Ok done) unlocks ok = unlocks
  done_of (Err refusal) unlocks ok = absurd (cc)

  module _ (spread : Spread) (counts : List ℕ) (counted : AreCounted spread old.names.names counts) (b : ℕ) (bucket : b ≡ bucket_by spread name) (low : b < spread.buckets) where
    pub was_counted : Unlocks old k name new → 1 ≤ slice_index counts b
    was_counted done = (let some = counted_name spread old.names.names done.number name b done.named (sym bucket) in let is = counted.1 b low in omega arith)

    pub count_freed : (done : Unlocks old k name new) → ((h : Key) → Owns new h name → ⊥) → AreCounted spread new.names.names (set counts b (slice_index counts b - 1))
    count_freed done free = subst (λ names. AreCounted spread names (set counts b (slice_index counts b - 1))) (sym (freed_names old new lawful lawful' k name done free))
        (count_less spread old.names.names counts counted done.number (inside old lawful done.number name done.named) name b bucket low done.named)

-- what a read of the owner tells
abbrev pub TellsOwner : LockState → List ℕ → Option Key → Type 0
TellsOwner m name o = (k : Key) → (o ≡ Some k) ↔ Owns m k name

pub nobody : (m : LockState) (name : List ℕ) (o : Option Key) → TellsOwner m name o → is_some o ≡ false → (h : Key) → Owns m h name → ⊥
nobody m name o tells none h owns = (let is = (tells h).1 owns in let never : true ≡ false = ap is_some (sym is) ∙ none in absurd (cc))

pub somebody : (m : LockState) (name : List ℕ) (o : Option Key) → TellsOwner m name o → is_some o ≡ true → (h : Key) × Owns m h name
somebody m name None tells some = absurd (cc)
somebody m name (Some h) tells some = (h, (tells h).0 refl)

-- ---- a wait is taken back

module _ (old new : LockState) (k : Key) where
  pub cancel_names : (answer : Result (Unit {0}) Refusal) → Cancels old k answer new → new.names ≡ old.names
  cancel_names (Ok done) back = ap (λ (m : LockState). m.names) back.state
  cancel_names (Err refusal) same = untold_names old new same.0

  pub cancel_stay : (answer : Result (Unit {0}) Refusal) → Cancels old k answer new → OwnersStay old new
  cancel_stay (Ok done) back h x owns = (back.owners h x).1 owns
  cancel_stay (Err refusal) same h x owns = stays_told old new same.0 h x owns

  pub cancel_fade : (answer : Result (Unit {0}) Refusal) → Cancels old k answer new → NamesFade old new
  cancel_fade answer done n x is = ap (λ (t : NameTable). name_of t n) (sym (cancel_names answer done)) ∙ is

-- ---- a transaction starts

decided_owners : {A : Type 0} (r : Result (Unit {0}) rules.Refusal) (s s' : TableState) (a : A) → s'.owners ≡ s.owners → (decided r s a s').state.owners ≡ s.owners
decided_owners (Ok passed) s s' a same = same
decided_owners (Err refusal) s s' a same = refl

begun_owners : (old new : LockState) (r : Result Key Refusal) → Begins old r new → new.table.owners ≡ old.table.owners
begun_owners old new (Ok key) begins = ap (λ (s : TableState). s.owners) begins.1.1 ∙ decided_owners (allowed (begin_tests old.table)) old.table _ _ refl
begun_owners old new (Err refusal) begins = ap (λ (m : LockState). m.table.owners) begins.0

begun_names : (old new : LockState) (r : Result Key Refusal) → Begins old r new → new.names ≡ old.names
begun_names old new (Ok key) begins = ap (λ (m : LockState). m.names) begins.2
begun_names old new (Err refusal) begins = ap (λ (m : LockState). m.names) begins.0

module _ (old new : LockState) (r : Result Key Refusal) (begins : Begins old r new) where
  pub begin_names : new.names ≡ old.names
  begin_names = begun_names old new r begins

  pub begin_fade : NamesFade old new
  begin_fade n x is = ap (λ (t : NameTable). name_of t n) (sym begin_names) ∙ is

  pub begin_stay : OwnersStay old new
  begin_stay h x owns = (owns.0, ap (λ (t : NameTable). name_of t owns.0) begin_names ∙ owns.1, ap (λ os. slice_index_or os owns.0 None) (begun_owners old new r begins) ∙ owns.2)

-- ---- at first

pub no_names : (spread : Spread) (b : ℕ) (names : List (Option (List ℕ))) → ((n : ℕ) → slice_index_or names n None ≡ None) → names_in spread names b ≡ 0
no_names spread b [] none = refl
no_names spread b (x ∷ xs) none =
    let first : in_bucket spread b x ≡ 0 = ap (in_bucket spread b) (none 0) in
    let rest = no_names spread b xs (λ n. none (suc n)) in
    let sum : names_in spread (x ∷ xs) b ≡ in_bucket spread b x + names_in spread xs b = sum_by-cons (in_bucket spread b) x xs in
    omega arith

pub opened_books : (c : ManagerConfig) (spread : Spread) (m : LockState) (counts : List ℕ) → m ≡ opening_state c → counts ≡ replicate spread.buckets 0 → length counts ≡ spread.buckets → AreCounted spread m.names.names counts × HasNoNames m
opened_books c spread m counts opened zeros size = (
  (size, λ b below. ap (λ xs. slice_index xs b) zeros ∙ read_replicate 0 spread.buckets b ∙ sym (ap (λ (x : LockState). names_in spread x.names.names b) opened ∙ no_names spread b (replicate c.names None) (λ n. read_replicate None c.names n))),
  λ n name is. (let none : name_of m.names n ≡ None = ap (λ (x : LockState). name_of x.names n) opened ∙ read_replicate None c.names n in absurd (cc)),
)

-- ---- a transaction ends

-- it may have taken its wait back before
over_by : (old mid : LockState) (k : Key) (new : LockState) → mid.names ≡ old.names → OwnersStay old mid → Ends mid k new → IsOver old k new
over_by old mid k new names owners ends = record {
  size = ends.over.names.numbers ∙ ap (λ (t : NameTable). length t.names) names;
  fade = λ n x is. ap (λ (t : NameTable). name_of t n) (sym names) ∙ fades mid new ends.over.names n x is;
  stay = λ h x owns apart. ends.passes.keeps h x (owners h x owns) apart;
}

-- a refused end ends nothing
untold_over : (old new : LockState) (k : Key) → new ≡ untold old → IsOver old k new
untold_over old new k same = record {
  size = ap (λ (m : LockState). length m.names.names) same;
  fade = λ n x is. ap (λ (m : LockState). name_of m.names n) (sym same) ∙ is;
  stay = λ h x owns apart. stays_told old new same h x owns;
}

pub commits_over : (old new : LockState) (k : Key) (answer : Result (Unit {0}) Refusal) → Commits old k answer new → IsOver old k new
commits_over old new k (Ok done) ends = over_by old old k new refl (λ h x owns. owns) ends
commits_over old new k (Err refusal) same = untold_over old new k same.0

pub aborts_over : (old new : LockState) (k : Key) (answer : Result (Unit {0}) Refusal) → Aborts old k answer new → IsOver old k new
aborts_over old new k (Ok done) (inl ends) = over_by old old k new refl (λ h x owns. owns) ends
aborts_over old new k (Ok done) (inr back) = over_by old back.0 k new (ap (λ (m : LockState). m.names) back.1.state) (λ h x owns. (back.1.owners h x).1 owns) back.2
aborts_over old new k (Err refusal) same = untold_over old new k same.0

module _ (old : LockState) (lawful : IsLawful old) (k : Key) (numbers : List ℕ) (owned : (n : ℕ) → Among n numbers ↔ (owner_of old.table n ≡ Some k)) where
  pub held_inside : (n : ℕ) → Among n numbers → n < length old.names.names
  held_inside n among = go (name_of old.names n) refl where
    go : (o : Option (List ℕ)) → name_of old.names n ≡ o → n < length old.names.names
    go None is = (let none : owner_of old.table n ≡ None = (lawful.numbered n).0 is in let some = (owned n).0 among in absurd (cc))
    go (Some x) is = inside old lawful n x is

  module _ (new : LockState) (over : IsOver old k new) where
    pub others_same : (n : ℕ) → (Among n numbers → ⊥) → name_of new.names n ≡ name_of old.names n
    others_same n away = go (name_of old.names n) refl where
      new_none : (o : Option (List ℕ)) → name_of new.names n ≡ o → name_of old.names n ≡ None → o ≡ None
      new_none None is none = refl
      new_none (Some y) is none = (let some = over.fade n y is in absurd (cc))

      go : (o : Option (List ℕ)) → name_of old.names n ≡ o → name_of new.names n ≡ name_of old.names n
      go None is = new_none (name_of new.names n) refl is ∙ sym is
      go (Some x) is =
          let h = has_owner old lawful n x is in
          let at : h.1.0 ≡ n = lawful.names.distinct h.1.0 n x h.1.1 is in
          let other : h.0 ≢ k = λ same. away ((owned n).1 (ap (owner_of old.table) (sym at) ∙ h.1.2 ∙ ap Some same)) in
          let now = over.stay h.0 x h.1 other in
          let there : now.0 ≡ n = lawful.names.distinct now.0 n x (over.fade now.0 x now.1) is in
          ap (name_of new.names) (sym there) ∙ now.1 ∙ sym is

-- ---- who is live

pub live_told : (m : LockState) (k : Key) (told : Result Status Refusal) → HasStatus m k told → is_ok told ≡ true → is_live m.table k ≡ true
live_told m k (Ok status) has_status ok = has_status.0
live_told m k (Err refusal) has_status ok = absurd (cc)

pub dead_told : (m : LockState) (k : Key) (told : Result Status Refusal) → HasStatus m k told → is_ok told ≡ false → is_live m.table k ≡ false
dead_told m k (Ok status) has_status ok = absurd (cc)
dead_told m k (Err refusal) has_status ok = has_status.0
