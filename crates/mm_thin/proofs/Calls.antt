-- The steps as the calls ask for them.
use Rattle.std.proofs.Common.{◌≡◌, ◌≢◌, ℕ, ◌+◌, ◌-◌, ◌<◌, List, [], ◌∷◌, length, refl, sym, ap, ◌∙◌, subst, inl, arith, eq-eqb, ne_eqb, eqb}
use Rattle.std.specs.Prelude.{slice_index}
use mathlib.Core.Logic.{dite}
use native.Mathlib.Decide.{ℕ_discrete}
use prog.Atomic.{either}
use mathlib.Core.Option.{none, some}
use lib.ListN.{get_elem?}
use Rattle.atomic_table.specs.Table.{step, keeps, takes, gives, Act, Valid, Allows, Splits, stepped, carried_after, rest}
use Rattle.mm_lists.specs.Members.{Among}
use Rattle.mm_thin.specs.declared.views.Lent.{Lent}
use Rattle.mm_thin.specs.declared.views.DeskView.{DeskView}
use Rattle.mm_thin.specs.declared.views.RecordView.{RecordView}
use Rattle.mm_thin.specs.declared.views.Part.{Part}
use Rattle.mm_thin.specs.declared.views.Part.TheVariants.{Desk, Record}
use Rattle.mm_thin.specs.Views.{new_record, more_records, loan, with_taken, idle, with_fat, with_reading, with_lent, done_reading, without_fat, without_lent, thinned}
use Rattle.mm_thin.specs.Rule.{thin, WordsState, IsKept}
use Rattle.mm_thin.specs.Steps.{SeatState, StepOf, desk_in, record_in, text_in, meeting, first_of, others_of, Taken, GivenUp, Tells, Seen, Looked, Fattened, Borrowed, HasRead, Freed, Thinned, IsMade, Met, RecordsMet}
use Rattle.mm_thin.specs.Parts.{view_in, InHand}
use Rattle.mm_thin.proofs.Keeps.{stays, record_takes, gives_thin, lets_go, text_at_home, desk_lawful, desk_gets_free, desk_looks, desk_thins, desk_missed, desk_frees, desk_borrows, its_text, desk_reads, record_made, its_blank, have_met, records_met, parts_again}

-- ---- a compare-and-swap

-- what a seat must show where the word is found to be k, and becomes k'
abbrev pub Changes : (StepOf → SeatState → ℕ → SeatState → Type 0) → StepOf → ℕ → ℕ → SeatState → ℕ → ℕ → WordsState → Type 0
Changes tells st count seat me b now s =
    (w : List Part) × (a : Act (List ℕ)) × Valid s.homes me.1 a × IsKept count (stepped s b now seat me.1 w a) × tells st me (slice_index s.words b) (w, carried_after me.1 a)

module _ (tells : StepOf → SeatState → ℕ → SeatState → Type 0) (count slots seat b old new : ℕ) (me : SeatState)
    (hit : (s : WordsState) → IsKept count s → length s.homes ≡ slots → get_elem? s.views seat ≡ some me.0 → slice_index s.words b ≡ old → Changes tells (step slots b old new none) count seat me b new s)
    (miss : (s : WordsState) → IsKept count s → length s.homes ≡ slots → get_elem? s.views seat ≡ some me.0 → slice_index s.words b ≢ old → Changes tells (step slots b old new none) count seat me b (slice_index s.words b) s) where
  pub swaps : Allows (IsKept count) slots seat me b (λ k. either (eqb k old) new k) (tells (step slots b old new none) me)
  swaps s t sized at small =
      let n : ℕ = slice_index s.words b in
      dite (ℕ_discrete n old)
      (λ e. subst (λ k. Changes tells (step slots b old new none) count seat me b k s) (sym (ap (λ x. either x new n) (eq-eqb n old e))) (hit s t sized at e))
      (λ ne. subst (λ k. Changes tells (step slots b old new none) count seat me b k s) (sym (ap (λ x. either x new n) (ne_eqb n old ne))) (miss s t sized at ne))

-- ---- a record

module _ (count slots seat b : ℕ) (r : RecordView) where
  abbrev in_hand : List ℕ → SeatState
  in_hand name = (Record r ∷ [], (r.number, name) ∷ [])

  takes_bucket : (name : List ℕ) → b < count → r.number < slots → r.taken ≡ []
      → Allows (IsKept count) slots seat (in_hand name) b (λ k. either (eqb k 0) (thin r.number) k) (Taken (step slots b 0 (thin r.number) none) (in_hand name))
  takes_bucket name below slot idle = swaps Taken count slots seat b 0 (thin r.number) (in_hand name)
      (λ s t sized at e. (Record (with_taken r b name) ∷ [], gives, tt, record_takes count s t seat r at b name (let n = t.sized in omega arith) (omega arith) idle e, (λ z. refl, λ nz. absurd (nz e))))
      (λ s t sized at ne. (Record r ∷ [], keeps, tt, stays count s t seat b (Record r ∷ []) at, (λ z. absurd (ne z), λ nz. refl)))

  module _ (has : Among b r.taken) where
    abbrev placed : SeatState
    placed = (Record r ∷ [], [])

    abbrev GivesFrom : ℕ → ℕ → Type 0
    GivesFrom old new = Allows (IsKept count) slots seat placed b (λ k. either (eqb k old) new k) (GivenUp (step slots b old new none) placed)

    kept_so : (old new : ℕ) (s : WordsState) (t : IsKept count s) (at : get_elem? s.views seat ≡ some (Record r ∷ [])) → slice_index s.words b ≢ old → Changes GivenUp (step slots b old new none) count seat placed b (slice_index s.words b) s
    kept_so old new s t at ne = (Record r ∷ [], keeps, tt, stays count s t seat b (Record r ∷ []) at, (λ e. absurd (ne e), λ nz. refl))

    gives_bucket : GivesFrom (thin r.number) 0
    gives_bucket = swaps GivenUp count slots seat b (thin r.number) 0 placed
        (λ s t sized at e.
        let unread : slice_index s.words b ≢ 2 = λ two. (let never : r.number + 4 ≡ 2 = sym e ∙ two in omega arith) in
        (Record (idle r) ∷ [], takes r.number r.name, text_at_home count s t seat r at b has unread, gives_thin count s t seat r at b has unread e, (λ z. refl, λ nz. absurd (nz e))))
        (λ s t sized at ne. kept_so (thin r.number) 0 s t at ne)

    goes : GivesFrom 3 1
    goes = swaps GivenUp count slots seat b 3 1 placed
        (λ s t sized at e.
        let unread : slice_index s.words b ≢ 2 = λ two. (let never : 3 ≡ 2 = sym e ∙ two in omega arith) in
        (Record (idle r) ∷ [], takes r.number r.name, text_at_home count s t seat r at b has unread, lets_go count s t seat r at b has unread e, (λ z. refl, λ nz. absurd (nz e))))
        (λ s t sized at ne. kept_so 3 1 s t at ne)

-- ---- the office

module _ (count slots seat b : ℕ) (d : DeskView) (below : b < count) where
  abbrev at_desk : SeatState
  at_desk = (Desk d ∷ [], [])

  inside : (s : WordsState) → IsKept count s → b < length s.words
  inside s t = (let n = t.sized in omega arith)

  tells : (s : WordsState) (t : IsKept count s) → get_elem? s.views seat ≡ some (Desk d ∷ []) → Tells d b (slice_index s.words b)
  tells s t at =
      let lawful = desk_lawful count s t seat d at in
      let f = lawful.each b (inside s t) in
      (f.fat, f.is_fat, (λ i is. (lawful.low b i (f.thin_of i is)).1), f.held)

  sees : Allows (IsKept count) slots seat at_desk b (λ k. k) (Seen (step slots b 0 0 none) at_desk)
  sees s t sized at small = (Desk d ∷ [], keeps, tt, stays count s t seat b (Desk d ∷ []) at, (refl, tells s t at))

  looks : Allows (IsKept count) slots seat at_desk b (λ k. k) (Looked (step slots b 0 0 none) at_desk)
  looks s t sized at small = dite (ℕ_discrete (slice_index s.words b) 1)
      (λ e. (Desk (without_lent d b) ∷ [], keeps, tt, desk_looks count s t seat d at b (inside s t) e, (λ z. refl, λ nz. absurd (nz e), tells s t at)))
      (λ ne. (Desk d ∷ [], keeps, tt, stays count s t seat b (Desk d ∷ []) at, (λ z. absurd (ne z), λ nz. refl, tells s t at)))

  fattens : Allows (IsKept count) slots seat at_desk b (λ k. either (eqb k 0) 1 k) (Fattened (step slots b 0 1 none) at_desk)
  fattens = swaps Fattened count slots seat b 0 1 at_desk
      (λ s t sized at e. (Desk (with_fat d b) ∷ [], keeps, tt, desk_gets_free count s t seat d at b (inside s t) e, (λ z. refl, λ nz. absurd (nz e))))
      (λ s t sized at ne. (Desk d ∷ [], keeps, tt, stays count s t seat b (Desk d ∷ []) at, (λ z. absurd (ne z), λ nz. refl)))

  borrows : (i : ℕ) → d.reading ≡ [] → Allows (IsKept count) slots seat at_desk b (λ k. either (eqb k (thin i)) 2 k) (Borrowed (step slots b (thin i) 2 none) at_desk)
  borrows i idle = swaps Borrowed count slots seat b (thin i) 2 at_desk
      (λ s t sized at e.
      let name : List ℕ = (t.told_of i).1 in (
        Desk (with_reading d b i name) ∷ [],
        takes i name,
        its_text count s t seat d at b (inside s t) i e idle,
        desk_borrows count s t seat d at b (inside s t) i e idle,
        (
          λ e' j is. (name, (let same : i ≡ j = (let four : i + 4 ≡ j + 4 = is in omega arith) in ap (λ k. (Desk (with_reading d b k name) ∷ [], (k, name) ∷ [])) same)),
          λ ne. absurd (ne e),
        ),
      ))
      (λ s t sized at ne. (Desk d ∷ [], keeps, tt, stays count s t seat b (Desk d ∷ []) at, (λ z. absurd (ne z), λ nz. refl)))

  reads : (i : ℕ) (name : List ℕ) → d.reading ≡ loan b i name ∷ [] → Allows (IsKept count) slots seat (Desk d ∷ [], (i, name) ∷ []) b (λ k. 3) (λ k. HasRead (step slots b 3 0 none) (Desk d ∷ [], (i, name) ∷ []) 3)
  reads i name reading s t sized at small = (Desk (done_reading d) ∷ [], gives, tt, desk_reads count s t seat d at b (inside s t) i name reading, refl)

  thins : (i : ℕ) (name : List ℕ) → Among (loan b i name) d.lent → d.reading ≡ [] → Allows (IsKept count) slots seat at_desk b (λ k. either (eqb k 3) (thin i) k) (Thinned (step slots b 3 (thin i) none) at_desk)
  thins i name lent idle = swaps Thinned count slots seat b 3 (thin i) at_desk
      (λ s t sized at e. (Desk (thinned d b) ∷ [], keeps, tt, desk_thins count s t seat d at b (inside s t) i name lent e, (λ z. refl, λ nz. absurd (nz e))))
      (λ s t sized at ne. (Desk (without_lent d b) ∷ [], keeps, tt, desk_looks count s t seat d at b (inside s t) (desk_missed count s t seat d at b (inside s t) i name lent idle ne), (λ z. absurd (ne z), λ nz. refl)))

  frees : Among b d.fat → ((l : Lent) → Among l d.lent → l.bucket ≡ b → ⊥) → d.reading ≡ [] → Allows (IsKept count) slots seat at_desk b (λ k. 0) (λ k. Freed (step slots b 0 0 none) at_desk 0)
  frees has not_lent idle s t sized at small = (Desk (without_fat d b) ∷ [], keeps, tt, desk_frees count s t seat d at b (inside s t) has not_lent idle, refl)

  makes : d.records < slots → Allows (IsKept count) slots seat at_desk b (λ k. k) (IsMade (step slots b 0 0 none) at_desk)
  makes slot s t sized at small =
      let text = its_blank count s t seat d at (omega arith) in
      (Record (new_record d.records) ∷ Desk (more_records d) ∷ [], takes d.records text.0, text.1, record_made count s t seat d at (omega arith) b, (text.0, refl))

-- ---- by the seats

-- the seat of a record that has its text in hand, and of one that has not
pub record_idle : (me : SeatState) → me.0 ≡ Record (record_in me.0) ∷ [] → InHand (record_in me.0).taken (record_in me.0).number me.1 → (record_in me.0).taken ≡ []
    → me ≡ (Record (record_in me.0) ∷ [], ((record_in me.0).number, text_in me.1) ∷ [])
record_idle me is hand idle = (let held : me.1 ≡ ((record_in me.0).number, text_in me.1) ∷ [] = subst (λ xs. InHand xs (record_in me.0).number me.1) idle hand in λ i. (is i, held i))

pub record_placed : (me : SeatState) (b : ℕ) → me.0 ≡ Record (record_in me.0) ∷ [] → InHand (record_in me.0).taken (record_in me.0).number me.1 → (record_in me.0).taken ≡ b ∷ [] → me ≡ (Record (record_in me.0) ∷ [], [])
record_placed me b is hand has = (let held : (me.1 ≡ []) × ([] ≡ []) = subst (λ xs. InHand xs (record_in me.0).number me.1) has hand in λ i. (is i, held.0 i))

module _ (count slots seat b : ℕ) (me : SeatState) where
  pub may_take : (r : RecordView) (name : List ℕ) → me ≡ (Record r ∷ [], (r.number, name) ∷ []) → r.number < slots → r.taken ≡ [] → (new : ℕ) → new ≡ thin r.number → b < count
      → Allows (IsKept count) slots seat me b (λ k. either (eqb k 0) new k) (Taken (step slots b 0 new none) me)
  may_take r name is slot idle new thin_is below =
      subst (λ (x : ℕ × SeatState). Allows (IsKept count) slots seat x.1 b (λ k. either (eqb k 0) x.0 k) (Taken (step slots b 0 x.0 none) x.1)) (λ i. (sym thin_is i, sym is i)) (takes_bucket count slots seat b r name below slot idle)

  module _ (r : RecordView) (is : me ≡ (Record r ∷ [], [])) (has : r.taken ≡ b ∷ []) where
    among_it : Among b r.taken
    among_it = subst (λ xs. Among b xs) (sym has) (inl refl)

    pub may_give : (old : ℕ) → old ≡ thin r.number → Allows (IsKept count) slots seat me b (λ k. either (eqb k old) 0 k) (GivenUp (step slots b old 0 none) me)
    may_give old thin_is =
        subst (λ (x : ℕ × SeatState). Allows (IsKept count) slots seat x.1 b (λ k. either (eqb k x.0) 0 k) (GivenUp (step slots b x.0 0 none) x.1)) (λ i. (sym thin_is i, sym is i)) (gives_bucket count slots seat b r among_it)

    pub may_let_go : Allows (IsKept count) slots seat me b (λ k. either (eqb k 3) 1 k) (GivenUp (step slots b 3 1 none) me)
    may_let_go = subst (λ (x : SeatState). Allows (IsKept count) slots seat x b (λ k. either (eqb k 3) 1 k) (GivenUp (step slots b 3 1 none) x)) (sym is) (goes count slots seat b r among_it)

  module _ (d : DeskView) (is : me ≡ (Desk d ∷ [], [])) (below : b < count) where
    pub may_see : Allows (IsKept count) slots seat me b (λ k. k) (Seen (step slots b 0 0 none) me)
    may_see = subst (λ (x : SeatState). Allows (IsKept count) slots seat x b (λ k. k) (Seen (step slots b 0 0 none) x)) (sym is) (sees count slots seat b d below)

    pub may_look : Allows (IsKept count) slots seat me b (λ k. k) (Looked (step slots b 0 0 none) me)
    may_look = subst (λ (x : SeatState). Allows (IsKept count) slots seat x b (λ k. k) (Looked (step slots b 0 0 none) x)) (sym is) (looks count slots seat b d below)

    pub may_fatten : Allows (IsKept count) slots seat me b (λ k. either (eqb k 0) 1 k) (Fattened (step slots b 0 1 none) me)
    may_fatten = subst (λ (x : SeatState). Allows (IsKept count) slots seat x b (λ k. either (eqb k 0) 1 k) (Fattened (step slots b 0 1 none) x)) (sym is) (fattens count slots seat b d below)

    pub may_borrow : (i old : ℕ) → old ≡ thin i → d.reading ≡ [] → Allows (IsKept count) slots seat me b (λ k. either (eqb k old) 2 k) (Borrowed (step slots b old 2 none) me)
    may_borrow i old thin_is idle =
        subst (λ (x : ℕ × SeatState). Allows (IsKept count) slots seat x.1 b (λ k. either (eqb k x.0) 2 k) (Borrowed (step slots b x.0 2 none) x.1)) (λ k. (sym thin_is k, sym is k)) (borrows count slots seat b d below i idle)

    pub may_thin : (i : ℕ) (name : List ℕ) (new : ℕ) → new ≡ thin i → Among (loan b i name) d.lent → d.reading ≡ [] → Allows (IsKept count) slots seat me b (λ k. either (eqb k 3) new k) (Thinned (step slots b 3 new none) me)
    may_thin i name new thin_is lent idle =
        subst (λ (x : ℕ × SeatState). Allows (IsKept count) slots seat x.1 b (λ k. either (eqb k 3) x.0 k) (Thinned (step slots b 3 x.0 none) x.1)) (λ k. (sym thin_is k, sym is k)) (thins count slots seat b d below i name lent idle)

    pub may_free : Among b d.fat → ((l : Lent) → Among l d.lent → l.bucket ≡ b → ⊥) → d.reading ≡ [] → Allows (IsKept count) slots seat me b (λ k. 0) (λ k. Freed (step slots b 0 0 none) me 0)
    may_free has not_lent idle = subst (λ (x : SeatState). Allows (IsKept count) slots seat x b (λ k. 0) (λ k. Freed (step slots b 0 0 none) x 0)) (sym is) (frees count slots seat b d below has not_lent idle)

    pub may_make : d.records < slots → Allows (IsKept count) slots seat me b (λ k. k) (IsMade (step slots b 0 0 none) me)
    may_make slot = subst (λ (x : SeatState). Allows (IsKept count) slots seat x b (λ k. k) (IsMade (step slots b 0 0 none) x)) (sym is) (makes count slots seat b d below slot)

  pub may_read : (d : DeskView) (i : ℕ) (name : List ℕ) → b < count → me ≡ (Desk d ∷ [], (i, name) ∷ []) → d.reading ≡ loan b i name ∷ [] → Allows (IsKept count) slots seat me b (λ k. 3) (λ k. HasRead (step slots b 3 0 none) me 3)
  may_read d i name below is reading = subst (λ (x : SeatState). Allows (IsKept count) slots seat x b (λ k. 3) (λ k. HasRead (step slots b 3 0 none) x 3)) (sym is) (reads count slots seat b d below i name reading)

-- the seat of the office
pub desk_seat : (views : List (List Part)) (me : SeatState) → views ≡ me.0 ∷ [] → me.1 ≡ [] → views ≡ (Desk (desk_in (view_in views)) ∷ []) ∷ [] → me ≡ (Desk (desk_in (view_in views)) ∷ [], [])
desk_seat views me is held was = (let e : me.0 ≡ Desk (desk_in (view_in views)) ∷ [] = ap view_in (sym is) ∙ ap view_in was in λ i. (e i, held i))

-- its badge
pub desk_badge : (views : List (List Part)) (me : SeatState) (d : DeskView) → views ≡ me.0 ∷ [] → me ≡ (Desk d ∷ [], []) → d.reading ≡ []
    → (views ≡ (Desk (desk_in (view_in views)) ∷ []) ∷ []) × ((desk_in (view_in views)).reading ≡ []) × (desk_in (view_in views) ≡ d)
desk_badge views me d views_are is idle =
    let now : views ≡ (Desk d ∷ []) ∷ [] = views_are ∙ ap (λ (m : SeatState). m.0 ∷ []) is in (
      now ∙ ap (λ (v : List (List Part)). (Desk (desk_in (view_in v)) ∷ []) ∷ []) (sym now),
      ap (λ (v : List (List Part)). (desk_in (view_in v)).reading) now ∙ idle,
      ap (λ (v : List (List Part)). desk_in (view_in v)) now,
    )

-- ---- what a seat holds

pub held_rest : (held : List (ℕ × List ℕ)) (n m : ℕ) (x : List ℕ) → held ≡ (n, x) ∷ [] → m ≡ n → (old : List ℕ) × (held ≡ (m, old) ∷ rest held)
held_rest held n m x is same = (x, is ∙ (λ i. (sym same i, x) ∷ rest (sym is i)))

-- after it is exchanged
pub exchanged : (me after : SeatState) (v : List Part) (n m : ℕ) (x y : List ℕ) → me ≡ (v, (n, x) ∷ []) → m ≡ n → after ≡ (me.0, (m, y) ∷ rest me.1) → after ≡ (v, (n, y) ∷ [])
exchanged me after v n m x y is same now = now ∙ (λ i. ((is i).0, (same i, y) ∷ rest (is i).1))

-- the text that was in hand
pub text_was : (held : List (ℕ × List ℕ)) (n m : ℕ) (x y : List ℕ) → held ≡ (n, x) ∷ [] → held ≡ (m, y) ∷ rest held → y ≡ x
text_was held n m x y is was = ap text_in (sym was ∙ is)

-- ---- a record is made

pub made_so : (slots b found : ℕ) (d : DeskView) (me after : SeatState) → me ≡ (Desk d ∷ [], []) → IsMade (step slots b 0 0 none) me found after
    → (name : List ℕ) × (after ≡ (Record (new_record d.records) ∷ Desk (more_records d) ∷ [], (d.records, name) ∷ []))
made_so slots b found d me after is made =
    (made.0, made.1 ∙ (λ i. (let e = desk_in (is i).0 in (Record (new_record e.records) ∷ Desk (more_records e) ∷ [], (e.records, made.0) ∷ []))))

-- ---- two parts

pub both_apart : (count seat : ℕ) (me : SeatState) (r : RecordView) (d : DeskView) (held : List (ℕ × List ℕ)) → me ≡ (Record r ∷ Desk d ∷ [], held) → Splits (IsKept count) seat me.0 (first_of me.0) (others_of me.0)
both_apart count seat me r d held is = subst (λ (w : SeatState). Splits (IsKept count) seat w.0 (first_of w.0) (others_of w.0)) (sym is) (parts_again count seat (Record r) (Desk d) (λ same. omega arith))

-- ---- the text of a thin bucket

module _ (slots b number : ℕ) (d : DeskView) (me after : SeatState) (found old : ℕ) (is : me ≡ (Desk d ∷ [], [])) (told : Borrowed (step slots b old 2 none) me found after) (same : found ≡ old) (thin_is : old ≡ thin number) where
  pub borrowed : (name : List ℕ) × (after ≡ (Desk (with_reading d b number name) ∷ [], (number, name) ∷ []))
  borrowed =
      let got = told.0 same number thin_is in
      (got.0, got.1 ∙ (λ i. (Desk (with_reading (desk_in (is i).0) b number got.0) ∷ [], (number, got.0) ∷ [])))

  module _ (one two last : SeatState) (text none_now : List ℕ) (taken : after.1 ≡ (number, text) ∷ rest after.1) (first : one ≡ (after.0, (number, none_now) ∷ rest after.1)) (second : two ≡ (one.0, (number, text) ∷ rest one.1)) where
    its_text_is : text ≡ borrowed.0
    its_text_is = text_was after.1 number number borrowed.0 text (ap (λ (m : SeatState). m.1) borrowed.1) taken

    -- the text is back in the seat
    pub put_back_seat : two ≡ (Desk (with_reading d b number borrowed.0) ∷ [], (number, borrowed.0) ∷ [])
    put_back_seat =
        let v = Desk (with_reading d b number borrowed.0) ∷ [] in
        exchanged one two v number number none_now text (exchanged after one v number number borrowed.0 none_now borrowed.1 refl first) refl second ∙ (λ i. (v, (number, its_text_is i) ∷ []))

    pub may_put_back : (count seat : ℕ) → b < count → Allows (IsKept count) slots seat two b (λ k. 3) (λ k. HasRead (step slots b 3 0 none) two 3)
    may_put_back count seat below = may_read count slots seat b two (with_reading d b number borrowed.0) number borrowed.0 below put_back_seat refl

    -- what the office knows then
    module _ (views : List (List Part)) (views_are : views ≡ last.0 ∷ []) (read : HasRead (step slots b 3 0 none) two 3 last) (idle : d.reading ≡ []) where
      last_is : last ≡ (Desk (with_lent d b number borrowed.0) ∷ [], [])
      last_is = read ∙ (λ i. (Desk (done_reading (desk_in (put_back_seat i).0)) ∷ [], [])) ∙ (λ i. (Desk (record d { fat = b ∷ d.fat; lent = loan b number borrowed.0 ∷ d.lent; reading = sym idle i }) ∷ [], []))

      pub lent_badge : (views ≡ (Desk (desk_in (view_in views)) ∷ []) ∷ []) × ((desk_in (view_in views)).reading ≡ []) × (desk_in (view_in views) ≡ with_lent d b number borrowed.0)
      lent_badge = desk_badge views last (with_lent d b number borrowed.0) views_are last_is idle

      pub lent_view : (copy : List ℕ) → copy ≡ text → desk_in (view_in views) ≡ with_lent d b number copy
      lent_view copy same = lent_badge.2 ∙ ap (with_lent d b number) (sym (same ∙ its_text_is))

-- the record of a thin word has a number of 32 bits
pub word_small : (d : DeskView) (b word records : ℕ) → Tells d b word → records ≡ d.records → records < 4294967296 → word < 4294967300
word_small d b word records tells same small = dite (ℕ_discrete (word - 4 + 4) word)
    (λ e. (let low : word - 4 < d.records = tells.2 (word - 4) (sym e) in omega arith))
    (λ ne. (let apart : word - 4 + 4 ≢ word = ne in omega arith))

-- ---- a record and the office

pub may_meet : (count slots seat b : ℕ) (me : SeatState) (r : RecordView) (d : DeskView) (held : List (ℕ × List ℕ)) → me ≡ (Record r ∷ Desk d ∷ [], held) → Allows (IsKept count) slots seat me b (λ k. k) (Met (step slots b 0 0 none) me)
may_meet count slots seat b me r d held is =
    (let all : Allows (IsKept count) slots seat (Record r ∷ Desk d ∷ [], held) b (λ k. k) (Met (step slots b 0 0 none) (Record r ∷ Desk d ∷ [], held)) =
    λ s t sized at small. (Record r ∷ Desk d ∷ [], keeps, tt, stays count s t seat b (Record r ∷ Desk d ∷ []) at, (refl, have_met count s t seat r d at)) in
    subst (λ (x : SeatState). Allows (IsKept count) slots seat x b (λ k. k) (Met (step slots b 0 0 none) x)) (sym is) all)

-- the seat of both
pub both_seat : (me n j : SeatState) (views : List (List Part)) → me.0 ≡ Record (record_in me.0) ∷ [] → views ≡ n.0 ∷ [] → views ≡ (Desk (desk_in (view_in views)) ∷ []) ∷ [] → j ≡ (meeting me.0 n.0, me.1)
    → j ≡ (Record (record_in me.0) ∷ Desk (desk_in (view_in views)) ∷ [], me.1)
both_seat me n j views is other was joined = joined ∙ (λ i. (meeting (is i) ((ap view_in (sym other) ∙ ap view_in was) i), me.1))

-- ---- two records

pub may_records_meet : (count slots seat b : ℕ) (me : SeatState) (r q : RecordView) (held : List (ℕ × List ℕ)) → me ≡ (Record r ∷ Record q ∷ [], held) → r.number ≢ q.number → Allows (IsKept count) slots seat me b (λ k. k) (RecordsMet (step slots b 0 0 none) me)
may_records_meet count slots seat b me r q held is differ =
    (let all : Allows (IsKept count) slots seat (Record r ∷ Record q ∷ [], held) b (λ k. k) (RecordsMet (step slots b 0 0 none) (Record r ∷ Record q ∷ [], held)) =
    λ s t sized at small. (Record r ∷ Record q ∷ [], keeps, tt, stays count s t seat b (Record r ∷ Record q ∷ []) at, (refl, records_met count s t seat r q at differ)) in
    subst (λ (x : SeatState). Allows (IsKept count) slots seat x b (λ k. k) (RecordsMet (step slots b 0 0 none) x)) (sym is) all)

pub records_apart : (count seat : ℕ) (me : SeatState) (r q : RecordView) (held : List (ℕ × List ℕ)) → me ≡ (Record r ∷ Record q ∷ [], held) → r.number ≢ q.number → Splits (IsKept count) seat me.0 (first_of me.0) (others_of me.0)
records_apart count seat me r q held is differ = subst (λ (w : SeatState). Splits (IsKept count) seat w.0 (first_of w.0) (others_of w.0)) (sym is) (parts_again count seat (Record r) (Record q) (λ same. differ (omega arith)))

pub both_records : (one me other n j : SeatState) → me ≡ one → one.0 ≡ Record (record_in one.0) ∷ [] → n ≡ other → other.0 ≡ Record (record_in other.0) ∷ [] → j ≡ (meeting me.0 n.0, me.1) → j ≡ (Record (record_in one.0) ∷ Record (record_in other.0) ∷ [], one.1)
both_records one me other n j same is same' is' joined = joined ∙ (λ i. (meeting (same i).0 (same' i).0, (same i).1)) ∙ (λ i. (meeting (is i) (is' i), one.1))
