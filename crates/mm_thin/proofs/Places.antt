-- The places of a worker, after one of them changes.
use Rattle.std.proofs.Common.{◌*◌, ◌≡◌, ◌≢◌, ℕ, ◌<◌, Bool, true, false, ◌+◌, ◌≤◌, List, [], length, get_or, set, map, Some, nat_eq, ◌⊎◌, refl, sym, ap, ◌∙◌, subst, inl, inr, arith}
use Rattle.std.specs.Prelude.{slice_get}
use Rattle.std.proofs.lemmas.Bool.{cases_eq, cases_lt}
use Rattle.std.proofs.Common.{eqb-true}
use Rattle.std.proofs.lemmas.List.{length-map, length-set, map-set, set-get_or}
use Rattle.std.proofs.lemmas.Option.{slice_get-map, slice_get_within, slice_get-get_or, get_or_from_slice_get, same_Some}
use Rattle.mm_lists.proofs.Lemmas.Set.{slice_get-set_same, slice_get-set_other}
use Rattle.mm_lists.specs.Members.{Among}
use Rattle.mm_thin.specs.declared.worker.TheConstants.{PLACES, RECORDS}
use Rattle.mm_thin.specs.declared.views.RecordView.{RecordView}
use Rattle.mm_thin.specs.declared.reply.GiveUp.{GiveUp}
use Rattle.mm_thin.specs.declared.reply.GiveUp.TheVariants.{Done, NotTaken}
use Rattle.mm_thin.specs.declared.reply.GiveUp.TheVariants as given
use Rattle.mm_thin.specs.Views.{new_record, with_taken, idle}
use Rattle.atomic_table.specs.Seated.{TableId}
use Rattle.mm_thin.specs.declared.views.DeskView.{DeskView}
use Rattle.mm_thin.specs.Parts.{Opening, RecordState, WorkerState, IsPlaced, IsOfWorker, ArePlaced, AreUsed, AreNew, bucket_of}
use Rattle.mm_thin.specs.Calls.{IsFor, AreIdleFrom, TakesBucket, LeavesBucket, with_record, TakesAt, LeavesName}

-- what a contract sees of places
abbrev pub seen : List RecordState → List RecordView
seen ps = map (λ (p : RecordState). p.1) ps

abbrev pub state : Opening → ℕ → List RecordState → WorkerState
state of at ps = record { of = of; at = at; records = seen ps }

pub seen_at : (ps : List RecordState) (k : ℕ) (p : RecordState) → slice_get ps k ≡ Some p → slice_get (seen ps) k ≡ Some p.1
seen_at ps k p is = slice_get-map (λ (p : RecordState). p.1) ps k ∙ rw is refl

pub seen_only : (ps : List RecordState) (k : ℕ) (p : RecordState) (r : RecordView) → slice_get ps k ≡ Some p → slice_get (seen ps) k ≡ Some r → p.1 ≡ r
seen_only ps k p r is at = same_Some p.1 r (sym (seen_at ps k p is) ∙ at)

pub at_place : (ps : List RecordState) (k : ℕ) (p : RecordState) → k < length ps → p ≡ get_or ps k p → slice_get ps k ≡ Some p
at_place ps k p below is = slice_get-get_or ps k p below ∙ ap Some (sym is)

-- a fact of all places below k, and of that at k, is one of all below k + 1
pub one_more : (P : RecordView → Type 0) (ps : List RecordState) (k : ℕ) (p : RecordState) → k < length ps → p ≡ get_or ps k p → ((j : ℕ) (r : RecordView) → j < k → slice_get (seen ps) j ≡ Some r → P r → ⊥) → (P p.1 → ⊥)
    → (j : ℕ) (r : RecordView) → j < k + 1 → slice_get (seen ps) j ≡ Some r → P r → ⊥
one_more P ps k p below is before here j r low at_j holds = elim (cases_eq j k) [
  | inl same ↦ here (subst P (sym (seen_only ps k p r (at_place ps k p below is) (ap (slice_get (seen ps)) (sym same) ∙ at_j))) holds)
  | inr apart ↦ before j r (omega arith) at_j holds
]

-- and where all places are below k, of all
pub none_of_all : (P : RecordView → Type 0) (ps : List RecordState) (k : ℕ) → length ps ≤ k → ((j : ℕ) (r : RecordView) → j < k → slice_get (seen ps) j ≡ Some r → P r → ⊥) → (j : ℕ) (r : RecordView) → slice_get (seen ps) j ≡ Some r → P r → ⊥
none_of_all P ps k all before j r at_j =
    let low : j < length (seen ps) = slice_get_within (seen ps) j r at_j in
    let size : length (seen ps) ≡ length ps = length-map ps (λ (p : RecordState). p.1) in
    before j r (omega arith) at_j

-- a place that stays is written as it was
pub set_still : (ps : List RecordState) (k : ℕ) (old new : RecordState) → slice_get ps k ≡ Some old → new ≡ old → set ps k new ≡ ps
set_still ps k old new is same = ap (set ps k) (same ∙ sym (get_or_from_slice_get ps k old old is)) ∙ set-get_or ps k old

-- after one place changes, those from another place on have taken nothing
used_set : (of : Opening) (at : ℕ) (ps : List RecordState) (k : ℕ) (new : RecordState) (used used' : ℕ) → AreUsed of at ps used → ArePlaced of at (set ps k new) → k < PLACES → used' ≤ PLACES → (used' ≤ k → new.1.taken ≡ [])
    → ((j : ℕ) → used' ≤ j → j ≢ k → used ≤ j) → AreUsed of at (set ps k new) used'
used_set of at ps k new used used' was placed low within here others = record {
  placed = placed;
  full = (let size = length-set ps k new in let full = was.full in omega arith);
  within = within;
  rest = λ j p above at_j. elim (cases_eq j k) [
    | inl same ↦
        let full = was.full in
        let now : new ≡ p = same_Some new p (sym (slice_get-set_same ps k new (omega arith)) ∙ ap (slice_get (set ps k new)) (sym same) ∙ at_j) in
        subst (λ (x : RecordState). x.1.taken ≡ []) now (here (omega arith))
    | inr apart ↦ was.rest j p (others j above apart) (sym (slice_get-set_other ps j k new apart) ∙ at_j)
  ];
}

-- what holds of the places, as a contract sees them
pub used_seen : (of : Opening) (at : ℕ) (ps : List RecordState) (used : ℕ) → AreUsed of at ps used → AreIdleFrom used (seen ps)
used_seen of at ps used was k r above is =
    let low : k < length (seen ps) = slice_get_within (seen ps) k r is in
    let size : length (seen ps) ≡ length ps = length-map ps (λ (p : RecordState). p.1) in
    let p = get_or ps k (of.table, r) in
    let there = slice_get-get_or ps k (of.table, r) (omega arith) in
    ap (λ (x : RecordView). x.taken) (sym (seen_only ps k p r there is)) ∙ was.rest k p above there

-- the first of those is idle
pub idle_at : (of : Opening) (at : ℕ) (ps : List RecordState) (used : ℕ) → AreUsed of at ps used → used < PLACES → (r : RecordView) × (slice_get (seen ps) used ≡ Some r) × (r.taken ≡ [])
idle_at of at ps used was low =
    let full = was.full in
    let p = get_or ps used (of.table, new_record 0) in
    let there = slice_get-get_or ps used (of.table, new_record 0) (omega arith) in
    (p.1, seen_at ps used p there, was.rest used p (omega arith) there)

-- where no place below this one has a name, and the others have taken nothing, none has it
pub none_of_used : (of : Opening) (at : ℕ) (ps : List RecordState) (used k : ℕ) (name : List ℕ) → AreUsed of at ps used → used ≤ k → ((j : ℕ) (r : RecordView) → j < k → slice_get (seen ps) j ≡ Some r → IsFor r name → ⊥)
    → (j : ℕ) (r : RecordView) → slice_get (seen ps) j ≡ Some r → IsFor r name → ⊥
none_of_used of at ps used k name was all before j r at_j has = elim (cases_lt j k) [
  | inl low ↦ before j r low at_j has
  | inr high ↦ has.0 (used_seen of at ps used was j r (omega arith) at_j)
]

module _ (of : Opening) (at : ℕ) (ps : List RecordState) (k : ℕ) (old new : RecordState) (is : slice_get ps k ≡ Some old) (table : new.0 ≡ old.0) where
  placed_set : ArePlaced of at ps → new.1.number ≡ old.1.number → (IsPlaced of old.1 → IsPlaced of new.1) → ArePlaced of at (set ps k new)
  placed_set placed number place j p at_j = elim (cases_eq j k) [
    | inl same ↦
        let now : new ≡ p = same_Some new p (sym (slice_get-set_same ps k new (slice_get_within ps k old is)) ∙ ap (slice_get (set ps k new)) (sym same) ∙ at_j) in
        let before = placed k old is in
        subst (λ (x : RecordState). (x.0 ≡ of.table) × IsOfWorker at x.1.number × IsPlaced of x.1) now
        (table ∙ before.0, subst (λ n. IsOfWorker at n) (sym number) before.1, place before.2)
    | inr apart ↦ placed j p (sym (slice_get-set_other ps j k new apart) ∙ at_j)
  ]

  now_state : (r : RecordView) → new.1 ≡ r → state of at (set ps k new) ≡ with_record (state of at ps) k r
  now_state r same = ap (λ rs. record { of = of; at = at; records = rs }) (map-set (λ (p : RecordState). p.1) ps k new ∙ ap (set (seen ps) k) same)

  still : new.1 ≡ old.1 → state of at (set ps k new) ≡ state of at ps
  still same = ap (state of at) (set_still ps k old new is (λ i. (table i, same i)))

  pub leaves_name : (g : GiveUp) → LeavesBucket old.1 g new.1 → LeavesName (state of at ps) k g (state of at (set ps k new))
  leaves_name Done left = (old.1, seen_at ps k old is, left.0, now_state (idle old.1) left.1)
  leaves_name given.Changed left = (still left.1, (old.1, seen_at ps k old is, left.0))
  leaves_name NotTaken left = (still left.1, λ r at_k. ap (λ (x : RecordView). x.taken) (sym (seen_only ps k old r is at_k)) ∙ left.0)

  left_number : (g : GiveUp) → LeavesBucket old.1 g new.1 → new.1.number ≡ old.1.number
  left_number Done left = ap (λ (x : RecordView). x.number) left.1
  left_number given.Changed left = ap (λ (x : RecordView). x.number) left.1
  left_number NotTaken left = ap (λ (x : RecordView). x.number) left.1

  left_place : (g : GiveUp) → LeavesBucket old.1 g new.1 → IsPlaced of old.1 → IsPlaced of new.1
  left_place Done left place b among = absurd (subst (λ (x : RecordView). Among b x.taken) left.1 among)
  left_place given.Changed left place b among = subst (IsPlaced of) (sym left.1) place b among
  left_place NotTaken left place b among = subst (IsPlaced of) (sym left.1) place b among

  idle_still : (g : GiveUp) → LeavesBucket old.1 g new.1 → old.1.taken ≡ [] → new.1.taken ≡ []
  idle_still Done left none = ap (λ (x : RecordView). x.taken) left.1
  idle_still given.Changed left none = ap (λ (x : RecordView). x.taken) left.1 ∙ none
  idle_still NotTaken left none = ap (λ (x : RecordView). x.taken) left.1 ∙ none

  idle_now : (g : GiveUp) → LeavesBucket old.1 g new.1 → g ≢ given.Changed → new.1.taken ≡ []
  idle_now Done left done = ap (λ (x : RecordView). x.taken) left.1
  idle_now given.Changed left done = absurd (done refl)
  idle_now NotTaken left done = ap (λ (x : RecordView). x.taken) left.1 ∙ left.0

  pub left_used : (g : GiveUp) → LeavesBucket old.1 g new.1 → (used used' : ℕ) → AreUsed of at ps used → (used' ≡ used) ⊎ ((g ≢ given.Changed) × (used ≡ k + 1) × (used' ≡ k)) → AreUsed of at (set ps k new) used'
  left_used g left used used' was how =
      let low : k < length ps = slice_get_within ps k old is in
      let full = was.full in
      let within = was.within in
      let placed = placed_set was.placed (left_number g left) (left_place g left) in
      elim how [
        | inl same ↦ used_set of at ps k new used used' was placed (omega arith) (omega arith) (λ above. idle_still g left (was.rest k old (omega arith) is)) (λ j above apart. omega arith)
        | inr one ↦ (let first = one.1 in let last = one.2 in used_set of at ps k new used used' was placed (omega arith) (omega arith) (λ above. idle_now g left one.0) (λ j above apart. omega arith))
      ]

  module _ (name : List ℕ) (bucket : ℕ) (hashed : bucket ≡ bucket_of of name) (none_taken : old.1.taken ≡ []) where
    pub takes_at : (done : Bool) → TakesBucket old.1 bucket name done new.1 → TakesAt (state of at ps) k name done (state of at (set ps k new))
    takes_at true took = (old.1, seen_at ps k old is, none_taken, now_state (with_taken old.1 (bucket_of of name) name) (took ∙ ap (λ b. with_taken old.1 b name) hashed))
    takes_at false kept = still kept

    taken_number : (done : Bool) → TakesBucket old.1 bucket name done new.1 → new.1.number ≡ old.1.number
    taken_number true took = ap (λ (x : RecordView). x.number) took
    taken_number false kept = ap (λ (x : RecordView). x.number) kept

    taken_place : (done : Bool) → TakesBucket old.1 bucket name done new.1 → IsPlaced of old.1 → IsPlaced of new.1
    taken_place true took place b among = elim (subst (λ (x : RecordView). Among b x.taken) took among) [
      | inl same ↦ same ∙ hashed ∙ ap (λ (x : RecordView). bucket_of of x.name) (sym took)
      | inr never ↦ absurd never
    ]
    taken_place false kept place b among = subst (IsPlaced of) (sym kept) place b among

    idle_unless : (done : Bool) → TakesBucket old.1 bucket name done new.1 → (done ≡ true → ⊥) → new.1.taken ≡ []
    idle_unless true took never = absurd (never refl)
    idle_unless false kept never = ap (λ (x : RecordView). x.taken) kept ∙ none_taken

    pub took_used : (word : ℕ) → TakesBucket old.1 bucket name (nat_eq word 0) new.1 → (used used' : ℕ) → AreUsed of at ps used → (used' ≡ used) ⊎ (used' ≡ k + 1) → used ≤ used' → (word ≡ 0 → k < used') → AreUsed of at (set ps k new) used'
    took_used word took used used' was one more taken =
        let low : k < length ps = slice_get_within ps k old is in
        let full = was.full in
        let within = was.within in
        let small : used' ≤ PLACES = elim one [ inl same ↦ omega arith | inr next ↦ omega arith ] in
        let placed = placed_set was.placed (taken_number (nat_eq word 0) took) (taken_place (nat_eq word 0) took) in
        used_set of at ps k new used used' was placed (omega arith) small
        (λ above. idle_unless (nat_eq word 0) took (λ (so : nat_eq word 0 ≡ true). (let zero_is : word ≡ 0 = eqb-true word 0 so in let below = taken zero_is in omega arith)))
        (λ j above apart. omega arith)

-- ---- places that are new

module _ (before : TableId × DeskView) (n : ℕ) (ps : List RecordState) (new : AreNew before n ps) where
  pub new_length : length (seen ps) ≡ n
  new_length = length-map ps (λ (p : RecordState). p.1) ∙ new.0

  pub new_idle : (k : ℕ) (r : RecordView) → slice_get (seen ps) k ≡ Some r → r.taken ≡ []
  new_idle k r at =
      let low : k < length (seen ps) = slice_get_within (seen ps) k r at in
      let size = new_length in
      let short = new.0 in
      let p = get_or ps k (before.0, r) in
      let is = slice_get-get_or ps k (before.0, r) (omega arith) in
      ap (λ (x : RecordView). x.taken) (sym (seen_only ps k p r is at)) ∙ ap (λ (x : RecordState). x.1.taken) (new.1 k p is)

-- ---- what was found at a place

module _ (ps : List RecordState) (rs : List RecordView) (k : ℕ) (known : seen ps ≡ rs) where
  pub found : (p : RecordState) (r : RecordView) → k < length ps → p ≡ get_or ps k p → slice_get rs k ≡ Some r → p.1 ≡ r
  found p r below is at = seen_only ps k p r (at_place ps k p below is) (ap (λ xs. slice_get xs k) known ∙ at)

  pub past : (r : RecordView) → length ps ≤ k → slice_get rs k ≡ Some r → ⊥
  past r above at =
      let low : k < length (seen ps) = slice_get_within (seen ps) k r (ap (λ xs. slice_get xs k) known ∙ at) in
      let size : length (seen ps) ≡ length ps = length-map ps (λ (p : RecordState). p.1) in
      omega arith

-- a worker whose places stay
pub still_used : (of : Opening) (at : ℕ) (ps : List RecordState) (k used : ℕ) (old new : RecordState) → k < length ps → old ≡ get_or ps k old → new ≡ old → AreUsed of at ps used → AreUsed of at (set ps k new) used
still_used of at ps k used old new below is same was = subst (λ xs. AreUsed of at xs used) (sym (set_still ps k old new (at_place ps k old below is) same)) was

-- records of two workers have other numbers
pub other_numbers : (at at' m n : ℕ) → IsOfWorker at m → IsOfWorker at' n → at ≢ at' → m ≢ n
other_numbers at at' m n one other differ same = differ (let l = one.0 in let h = one.1 in let l' = other.0 in let h' = other.1 in omega arith)

-- new records after the first two of a worker are placed
new_placed : (of : Opening) (at : ℕ) (before : TableId × DeskView) (ps : List RecordState) → AreNew before PLACES ps → before.0 ≡ of.table → before.1.records ≡ at * RECORDS + 2 → ArePlaced of at ps
new_placed of at before ps new table first k p is =
    let low : k < length ps = slice_get_within ps k p is in
    let size = new.0 in
    let same = new.1 k p is in
    let number : p.1.number ≡ before.1.records + k = ap (λ (x : RecordState). x.1.number) same in
    (ap (λ (x : RecordState). x.0) same ∙ table, (omega arith, omega arith), λ b among. absurd (subst (λ (x : RecordState). Among b x.1.taken) same among))

pub new_used : (of : Opening) (at : ℕ) (before : TableId × DeskView) (ps : List RecordState) → AreNew before PLACES ps → before.0 ≡ of.table → before.1.records ≡ at * RECORDS + 2 → AreUsed of at ps 0
new_used of at before ps new table first = record {
  placed = new_placed of at before ps new table first;
  full = new.0;
  within = omega arith;
  rest = λ k p above is. ap (λ (x : RecordState). x.1.taken) (new.1 k p is);
}

-- what holds of each record of a worker, as a contract sees it
pub placed_seen : (of : Opening) (at : ℕ) (ps : List RecordState) (k : ℕ) (r : RecordView) → ArePlaced of at ps → slice_get (seen ps) k ≡ Some r → IsOfWorker at r.number × IsPlaced of r
placed_seen of at ps k r placed is =
    let low : k < length (seen ps) = slice_get_within (seen ps) k r is in
    let size : length (seen ps) ≡ length ps = length-map ps (λ (p : RecordState). p.1) in
    let p = get_or ps k (of.table, r) in
    let there = slice_get-get_or ps k (of.table, r) (omega arith) in
    let same : p.1 ≡ r = seen_only ps k p r there is in
    let holds = placed k p there in
    subst (λ (x : RecordView). IsOfWorker at x.number × IsPlaced of x) same (holds.1, holds.2)
