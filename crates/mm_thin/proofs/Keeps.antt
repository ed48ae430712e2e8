-- Each kind of step keeps the rule, and tells what it says.
use Rattle.std.proofs.Common.{◌≡◌, ◌≢◌, ◌⊎◌, ℕ, zero, suc, ◌+◌, ◌<◌, ◌≤◌, nat_eq, if◌then◌else◌, List, [], ◌∷◌, map, length, set, refl, sym, ap, ◌∙◌, inl, inr, arith, subst, length-set, get_or-set_same, get_or-set_other}
use Rattle.std.specs.Prelude.{slice_index}
use Rattle.std.proofs.lemmas.Bool.{cases_eq}
use Rattle.std.proofs.lemmas.List.{set-get_or}
use mathlib.Core.Option.{Option, none, some, some-injective, some-ne-none}
use lib.ListN.{get_elem?}
use Rattle.atomic_table.specs.Table.{Splits, Joins}
use Rattle.atomic_table.proofs.Lists.{set_again, set_here, set_else}
use Rattle.mm_lists.specs.Members.{Among}
use Rattle.mm_thin.specs.declared.views.Lent.{Lent}
use Rattle.mm_thin.specs.declared.views.DeskView.{DeskView}
use Rattle.mm_thin.specs.declared.views.RecordView.{RecordView}
use Rattle.mm_thin.specs.declared.views.Part.{Part}
use Rattle.mm_thin.specs.declared.views.Part.TheVariants.{Desk, Record}
use Rattle.mm_thin.specs.Views.{no_desk, new_record, more_records, loan, with_taken, idle, with_fat, with_reading, done_reading, without_fat, without_lent, thinned}
use Rattle.mm_thin.specs.Rule.{thin, IsRead, place_of, Told, Fits, IsLawful, KnowsRecord, Knows, AllKnow, WordsState, IsKept}
use Rattle.mm_thin.specs.Steps.{meeting}
use Rattle.mm_thin.specs.Parts.{AreFree}
use Rattle.mm_thin.proofs.Laws.{with_told, at_told, at_other, told_apart, AsBefore, same_as_before, more_apart, less_apart, same_apart, same_lent, more_lent, less_lent, lawful_changed, reads_apart, read_still, only, fits_taken, none_left, fits_given, fits_let_go, fits_fat, fits_reading, fits_read, fits_freed, fits_thinned, fits_looked, thin_fat}
use Rattle.mm_thin.proofs.Seats.{joined, split_off, added, changed_alone, moved, blank_off}

-- the state after a step
abbrev pub next : WordsState → ℕ → ℕ → List (Option (List ℕ)) → ℕ → List Part → WordsState
next s b now homes seat view = record { words = set s.words b now; homes = homes; views = set s.views seat view }

-- nothing changes
pub stays : (count : ℕ) (s : WordsState) → IsKept count s → (seat b : ℕ) (view : List Part) → get_elem? s.views seat ≡ some view → IsKept count (next s b (slice_index s.words b) s.homes seat view)
stays count s t seat b view at =
    subst (λ (x : List ℕ × List (List Part)). IsKept count (record { words = x.0; homes = s.homes; views = x.1 })) (λ i. (sym (set-get_or s.words b 0) i, sym (set_again s.views seat view at) i)) t

none_among : {X : Type 0} (xs : List X) (x : X) → xs ≡ [] → Among x xs → ⊥
none_among xs x empty among = subst (λ ys. Among x ys) empty among

three_two : (n : ℕ) → n ≡ 3 → n ≡ 2 → ⊥
three_two n three two = omega arith

abbrev suc_of : ℕ → ℕ
suc_of n = n + 1

module _ (count : ℕ) (s : WordsState) (t : IsKept count s) (seat : ℕ) where
  -- ---- a record alone

  module _ (r : RecordView) (at : get_elem? s.views seat ≡ some (Record r ∷ [])) where
    abbrev record_sits : (seat ≡ t.seat_of (r.number + 1)) × KnowsRecord t.desk t.told_of r
    record_sits = t.parts seat (Record r ∷ []) (Record r) at (inl refl)

    taken_is : r.taken ≡ (t.told_of r.number).0
    taken_is = ap (λ (x : Told). x.0) record_sits.1.told

    name_is : r.name ≡ (t.told_of r.number).1
    name_is = ap (λ (x : Told). x.1) record_sits.1.told

    pub record_had : (b : ℕ) → Among b r.taken → Among b (t.told_of r.number).0
    record_had b among = subst (λ xs. Among b xs) taken_is among

    pub record_low : (b : ℕ) → Among b r.taken → b < length s.words
    record_low b among = (t.lawful.low b r.number (record_had b among)).0

    module _ (now : Told) where
      abbrev h : ℕ → Told
      h = with_told t.told_of r.number now

      record_others : (k : ℕ) (z : Part) → place_of z ≢ r.number + 1 → Knows t.desk t.told_of z → Knows t.desk h z
      record_others k (Desk e) away known = known
      record_others k (Record q) away known = record { low = known.low; told = known.told ∙ sym (at_other t.told_of r.number now q.number (λ e. away (ap suc_of e))) }

      pub record_changes : (b word : ℕ) (homes : List (Option (List ℕ))) → IsLawful (set s.words b word) homes t.desk h → IsKept count (next s b word homes seat (Record (record r { taken = now.0; name = now.1 }) ∷ []))
      record_changes b word homes lawful = record {
        sized = omega (arith, length-set s.words b word, t.sized);
        desk = t.desk;
        told_of = h;
        seat_of = t.seat_of;
        lawful = lawful;
        parts = changed_alone s.views t.desk t.told_of t.seat_of t.parts seat (Record (record r { taken = now.0; name = now.1 })) t.desk h record_sits.0
            (record { low = record_sits.1.low; told = sym (at_told t.told_of r.number now r.number refl) }) record_others;
      }

    -- it takes a bucket that is free
    module _ (b : ℕ) (name : List ℕ) (inside : b < length s.words) (slot : r.number < length s.homes) (none_taken : r.taken ≡ []) (free : slice_index s.words b ≡ 0) where
      abbrev taking : Told
      taking = (b ∷ [], name)

      abbrev taken_homes : List (Option (List ℕ))
      taken_homes = set s.homes r.number (some name)

      idle_before : (c : ℕ) → Among c (t.told_of r.number).0 → ⊥
      idle_before c among = none_among (t.told_of r.number).0 c (sym taken_is ∙ none_taken) among

      taking_apart : (c : ℕ) → c ≢ b → AsBefore t.told_of (h taking) c
      taking_apart = told_apart t.told_of r.number b taking
          (λ c away. (((λ x. elim x [ inl same ↦ absurd (away same) | inr never ↦ absurd never ]), (λ x. absurd (idle_before c x))), (λ x. absurd (idle_before c x))))

      only_now : (i : ℕ) → Among b (h taking i).0 → i ≡ r.number
      only_now = only (slice_index s.words b) t.desk t.told_of b (t.lawful.each b inside) r.number taking free (inl refl)

      taken_home : (c i : ℕ) → Among c (h taking i).0 → (get_elem? taken_homes i ≡ some (some (h taking i).1)) ⊎ IsRead t.desk i
      taken_home c i among = elim (cases_eq i r.number) [
        | inl same ↦ inl (ap (get_elem? taken_homes) same ∙ set_here s.homes r.number (some name) slot ∙ ap (λ (x : Told). some (some x.1)) (sym (at_told t.told_of r.number taking i same)))
        | inr apart ↦ elim (t.lawful.home c i (subst (λ (x : Told). Among c x.0) (at_other t.told_of r.number taking i apart) among)) [
          | inl home ↦ inl (set_else s.homes r.number i (some name) apart ∙ home ∙ ap (λ (x : Told). some (some x.1)) (sym (at_other t.told_of r.number taking i apart)))
          | inr reading ↦ inr reading
        ]
      ]

      taken_single : (c i : ℕ) → c ≢ b → Among b (h taking i).0 → Among c (h taking i).0 → ⊥
      taken_single c i apart first second =
          elim (subst (λ (x : Told). Among c x.0) (at_told t.told_of r.number taking i (only_now i first)) second) [ inl is ↦ apart is | inr never ↦ never ]

      taken_fresh : (i : ℕ) → i < length taken_homes → t.desk.records ≤ i → (x : List ℕ) × (get_elem? taken_homes i ≡ some (some x))
      taken_fresh i below late = elim (cases_eq i r.number) [
        | inl same ↦ (name, ap (get_elem? taken_homes) same ∙ set_here s.homes r.number (some name) slot)
        | inr apart ↦ (let was = t.lawful.fresh i (omega (arith, length-set s.homes r.number (some name))) late in (was.0, set_else s.homes r.number i (some name) apart ∙ was.1))
      ]

      pub record_takes : IsKept count (next s b (thin r.number) taken_homes seat (Record (with_taken r b name) ∷ []))
      record_takes = record_changes taking b (thin r.number) taken_homes
          (lawful_changed s.words s.homes taken_homes t.desk t.desk t.told_of (h taking) b (thin r.number) inside refl (length-set s.homes r.number (some name))
          taking_apart (same_apart b t.desk.fat) (same_lent b t.desk.lent)
          (λ i among. (let same = only_now i among in let low = record_sits.1.low in (omega arith, omega arith)))
          (fits_taken (slice_index s.words b) t.desk t.told_of b (t.lawful.each b inside) r.number taking free (inl refl))
          taken_single
          (λ l reading. reads_apart s.words b (thin r.number) t.told_of (h taking) taking_apart (λ two. (let never : 0 ≡ 2 = sym free ∙ two in omega arith)) l (t.lawful.reads l reading))
          (read_still s.words b (thin r.number) t.desk.reading inside (λ two. omega arith) t.lawful.read_at)
          taken_fresh taken_home t.lawful)

    -- it gives up a bucket that is thin, or lent
    module _ (b : ℕ) (has : Among b r.taken) (unread : slice_index s.words b ≢ 2) where
      not_read : IsRead t.desk r.number → ⊥
      not_read read =
          let l = read.0 in
          let was = t.lawful.reads l read.1 in
          let its : Among l.bucket (t.told_of r.number).0 = subst (λ k. Among l.bucket (t.told_of k).0) read.2 was.1 in
          unread (ap (slice_index s.words) (sym (t.lawful.single l.bucket b r.number its (record_had b has))) ∙ was.0)

      pub text_at_home : get_elem? s.homes r.number ≡ some (some r.name)
      text_at_home = elim (t.lawful.home b r.number (record_had b has)) [
        | inl home ↦ home ∙ ap (λ x. some (some x)) (sym name_is)
        | inr reading ↦ absurd (not_read reading)
      ]

      abbrev given : Told
      given = ([], r.name)

      abbrev given_homes : List (Option (List ℕ))
      given_homes = set s.homes r.number none

      gone : Among b given.0 → ⊥
      gone among = among

      none_now : (i : ℕ) → Among b (h given i).0 → ⊥
      none_now = none_left (slice_index s.words b) t.desk t.told_of b (t.lawful.each b (record_low b has)) r.number given (record_had b has) gone

      given_apart : (c : ℕ) → c ≢ b → AsBefore t.told_of (h given) c
      given_apart = told_apart t.told_of r.number b given
          (λ c away. (((λ x. absurd x), (λ x. absurd (away (t.lawful.single c b r.number x (record_had b has))))), (λ x. name_is)))

      given_home : (c i : ℕ) → Among c (h given i).0 → (get_elem? given_homes i ≡ some (some (h given i).1)) ⊎ IsRead t.desk i
      given_home c i among = elim (cases_eq i r.number) [
        | inl same ↦ absurd (subst (λ (x : Told). Among c x.0) (at_told t.told_of r.number given i same) among)
        | inr apart ↦ elim (t.lawful.home c i (subst (λ (x : Told). Among c x.0) (at_other t.told_of r.number given i apart) among)) [
          | inl home ↦ inl (set_else s.homes r.number i none apart ∙ home ∙ ap (λ (x : Told). some (some x.1)) (sym (at_other t.told_of r.number given i apart)))
          | inr reading ↦ inr reading
        ]
      ]

      given_fresh : (i : ℕ) → i < length given_homes → t.desk.records ≤ i → (x : List ℕ) × (get_elem? given_homes i ≡ some (some x))
      given_fresh i below late =
          let apart : i ≢ r.number = λ same. (let low = record_sits.1.low in omega arith) in
          let was = t.lawful.fresh i (omega (arith, length-set s.homes r.number none)) late in
          (was.0, set_else s.homes r.number i none apart ∙ was.1)

      pub record_gives : (left : ℕ) → left ≢ 2 → Fits left t.desk (h given) b → IsKept count (next s b left given_homes seat (Record (idle r) ∷ []))
      record_gives left away fits = record_changes given b left given_homes
          (lawful_changed s.words s.homes given_homes t.desk t.desk t.told_of (h given) b left (record_low b has) refl (length-set s.homes r.number none)
          given_apart (same_apart b t.desk.fat) (same_lent b t.desk.lent) (λ i among. absurd (none_now i among)) fits (λ c i apart first second. none_now i first)
          (λ l reading. reads_apart s.words b left t.told_of (h given) given_apart unread l (t.lawful.reads l reading))
          (read_still s.words b left t.desk.reading (record_low b has) away t.lawful.read_at)
          given_fresh given_home t.lawful)

      pub gives_thin : slice_index s.words b ≡ thin r.number → IsKept count (next s b 0 given_homes seat (Record (idle r) ∷ []))
      gives_thin is = record_gives 0 (λ two. omega arith) (fits_given (slice_index s.words b) t.desk t.told_of b (t.lawful.each b (record_low b has)) r.number given (record_had b has) gone is)

      pub lets_go : slice_index s.words b ≡ 3 → IsKept count (next s b 1 given_homes seat (Record (idle r) ∷ []))
      lets_go is = record_gives 1 (λ two. omega arith) (fits_let_go (slice_index s.words b) t.desk t.told_of b (t.lawful.each b (record_low b has)) r.number given (record_had b has) gone is)

  -- ---- the office alone

  module _ (d : DeskView) (at : get_elem? s.views seat ≡ some (Desk d ∷ [])) where
    abbrev desk_sits : (seat ≡ t.seat_of 0) × (d ≡ t.desk)
    desk_sits = t.parts seat (Desk d ∷ []) (Desk d) at (inl refl)

    pub desk_lawful : IsLawful s.words s.homes d t.told_of
    desk_lawful = subst (λ (x : DeskView). IsLawful s.words s.homes x t.told_of) (sym desk_sits.1) t.lawful

    desk_parts : AllKnow s.views d t.told_of t.seat_of
    desk_parts = subst (λ (x : DeskView). AllKnow s.views x t.told_of t.seat_of) (sym desk_sits.1) t.parts

    module _ (e : DeskView) (b now : ℕ) (homes : List (Option (List ℕ))) (records : e.records ≡ d.records) where
      desk_others : (k : ℕ) (z : Part) → place_of z ≢ 0 → Knows d t.told_of z → Knows e t.told_of z
      desk_others k (Desk u) away known = absurd (away refl)
      desk_others k (Record q) away known = record { low = (let low = known.low in omega arith); told = known.told }

      pub desk_changes : IsLawful (set s.words b now) homes e t.told_of → IsKept count (next s b now homes seat (Desk e ∷ []))
      desk_changes lawful = record {
        sized = omega (arith, length-set s.words b now, t.sized);
        desk = e;
        told_of = t.told_of;
        seat_of = t.seat_of;
        lawful = lawful;
        parts = changed_alone s.views d t.told_of t.seat_of desk_parts seat (Desk e) e t.told_of desk_sits.0 refl desk_others;
      }

    module _ (b : ℕ) (inside : b < length s.words) where
      abbrev fits_now : Fits (slice_index s.words b) d t.told_of b
      fits_now = desk_lawful.each b inside

      lows : (i : ℕ) → Among b (t.told_of i).0 → (i < d.records) × (i < length s.homes)
      lows i among = (let l = desk_lawful.low b i among in (l.1, l.2))

      single_now : (c i : ℕ) → c ≢ b → Among b (t.told_of i).0 → Among c (t.told_of i).0 → ⊥
      single_now c i apart first second = apart (desk_lawful.single c b i second first)

      reads_still : (now : ℕ) → slice_index s.words b ≢ 2 → (l : Lent) → Among l d.reading
          → (slice_index (set s.words b now) l.bucket ≡ 2) × Among l.bucket (t.told_of l.number).0 × (l.name ≡ (t.told_of l.number).1)
      reads_still now away l reading = reads_apart s.words b now t.told_of t.told_of (λ c apart. same_as_before t.told_of c) away l (desk_lawful.reads l reading)

      pub desk_gets_free : slice_index s.words b ≡ 0 → IsKept count (next s b 1 s.homes seat (Desk (with_fat d b) ∷ []))
      desk_gets_free free = desk_changes (with_fat d b) b 1 s.homes refl
          (lawful_changed s.words s.homes s.homes d (with_fat d b) t.told_of t.told_of b 1 inside refl refl (λ c away. same_as_before t.told_of c) (more_apart b d.fat) (same_lent b d.lent) lows
          (fits_fat (slice_index s.words b) d t.told_of b fits_now free) single_now (reads_still 1 (λ two. (let never : 0 ≡ 2 = sym free ∙ two in omega arith)))
          (read_still s.words b 1 d.reading inside (λ two. omega arith) desk_lawful.read_at) desk_lawful.fresh desk_lawful.home desk_lawful)

      pub desk_looks : slice_index s.words b ≡ 1 → IsKept count (next s b (slice_index s.words b) s.homes seat (Desk (without_lent d b) ∷ []))
      desk_looks is = desk_changes (without_lent d b) b (slice_index s.words b) s.homes refl
          (lawful_changed s.words s.homes s.homes d (without_lent d b) t.told_of t.told_of b (slice_index s.words b) inside refl refl (λ c away. same_as_before t.told_of c) (same_apart b d.fat) (less_lent b d.lent) lows
          (fits_looked (slice_index s.words b) d t.told_of b fits_now is) single_now (reads_still (slice_index s.words b) (λ two. (let never : 1 ≡ 2 = sym is ∙ two in omega arith)))
          (read_still s.words b (slice_index s.words b) d.reading inside (λ two. (let never : 1 ≡ 2 = sym is ∙ two in omega arith)) desk_lawful.read_at) desk_lawful.fresh desk_lawful.home desk_lawful)

      pub desk_thins : (i : ℕ) (name : List ℕ) → Among (loan b i name) d.lent → slice_index s.words b ≡ 3 → IsKept count (next s b (thin i) s.homes seat (Desk (thinned d b) ∷ []))
      desk_thins i name lent is = desk_changes (thinned d b) b (thin i) s.homes refl
          (lawful_changed s.words s.homes s.homes d (thinned d b) t.told_of t.told_of b (thin i) inside refl refl (λ c away. same_as_before t.told_of c) (less_apart b d.fat) (less_lent b d.lent) lows
          (fits_thinned (slice_index s.words b) d t.told_of b fits_now i name lent is) single_now (reads_still (thin i) (λ two. (let never : 3 ≡ 2 = sym is ∙ two in omega arith)))
          (read_still s.words b (thin i) d.reading inside (λ two. omega arith) desk_lawful.read_at) desk_lawful.fresh desk_lawful.home desk_lawful)

      -- a bucket that is lent, or was, is let go where its word does not say that it is lent
      pub desk_missed : (i : ℕ) (name : List ℕ) → Among (loan b i name) d.lent → d.reading ≡ [] → slice_index s.words b ≢ 3 → slice_index s.words b ≡ 1
      desk_missed i name lent none_read away =
          let fat = fits_now.is_fat (fits_now.lent (loan b i name) lent refl).0 in
          let low = fat.0 in
          let high = fat.1 in
          let unread : slice_index s.words b ≢ 2 = λ two. (let l = desk_lawful.read_at b inside two in none_among d.reading l.0 none_read l.1) in
          omega arith

      pub desk_frees : Among b d.fat → ((l : Lent) → Among l d.lent → l.bucket ≡ b → ⊥) → d.reading ≡ [] → IsKept count (next s b 0 s.homes seat (Desk (without_fat d b) ∷ []))
      desk_frees has not_lent idle = desk_changes (without_fat d b) b 0 s.homes refl
          (lawful_changed s.words s.homes s.homes d (without_fat d b) t.told_of t.told_of b 0 inside refl refl (λ c away. same_as_before t.told_of c) (less_apart b d.fat) (same_lent b d.lent) lows
          (fits_freed (slice_index s.words b) d t.told_of b fits_now has not_lent) single_now (λ l reading. absurd (none_among d.reading l idle reading))
          (read_still s.words b 0 d.reading inside (λ two. omega arith) desk_lawful.read_at) desk_lawful.fresh desk_lawful.home desk_lawful)

      -- it borrows the text of the record that has taken the bucket, where it reads none
      module _ (i : ℕ) (is : slice_index s.words b ≡ thin i) (none_read : d.reading ≡ []) where
        abbrev its_name : List ℕ
        its_name = (t.told_of i).1

        at_home : (c j : ℕ) → Among c (t.told_of j).0 → get_elem? s.homes j ≡ some (some (t.told_of j).1)
        at_home c j among = elim (desk_lawful.home c j among) [ inl home ↦ home | inr reading ↦ absurd (none_among d.reading reading.0 none_read reading.1) ]

        pub its_text : get_elem? s.homes i ≡ some (some its_name)
        its_text = at_home b i (fits_now.thin_of i is)

        read_home : (c j : ℕ) → Among c (t.told_of j).0 → (get_elem? (set s.homes i none) j ≡ some (some (t.told_of j).1)) ⊎ IsRead (with_reading d b i its_name) j
        read_home c j among = elim (cases_eq j i) [
          | inl same ↦ inr (loan b i its_name, inl refl, sym same)
          | inr apart ↦ inl (set_else s.homes i j none apart ∙ at_home c j among)
        ]

        read_fresh : (j : ℕ) → j < length (set s.homes i none) → d.records ≤ j → (x : List ℕ) × (get_elem? (set s.homes i none) j ≡ some (some x))
        read_fresh j below late =
            let apart : j ≢ i = λ same. (let low = (desk_lawful.low b i (fits_now.thin_of i is)).1 in omega arith) in
            let was = desk_lawful.fresh j (omega (arith, length-set s.homes i none)) late in
            (was.0, set_else s.homes i j none apart ∙ was.1)

        reads_it : (l : Lent) → Among l (loan b i its_name ∷ []) → (slice_index (set s.words b 2) l.bucket ≡ 2) × Among l.bucket (t.told_of l.number).0 × (l.name ≡ (t.told_of l.number).1)
        reads_it l (inl same) = subst (λ (x : Lent). (slice_index (set s.words b 2) x.bucket ≡ 2) × Among x.bucket (t.told_of x.number).0 × (x.name ≡ (t.told_of x.number).1)) (sym same)
            (get_or-set_same s.words b 2 0 inside, fits_now.thin_of i is, refl)
        reads_it l (inr never) = absurd never

        read_it_alone : (c : ℕ) → c < length s.words → slice_index (set s.words b 2) c ≡ 2 → (l : Lent) × Among l (loan b i its_name ∷ []) × (l.bucket ≡ c)
        read_it_alone c below two = elim (cases_eq c b) [
          | inl same ↦ (loan b i its_name, inl refl, sym same)
          | inr apart ↦ (let was = desk_lawful.read_at c below (sym (get_or-set_other s.words b c 2 0 apart) ∙ two) in absurd (none_among d.reading was.0 none_read was.1))
        ]

        pub desk_borrows : IsKept count (next s b 2 (set s.homes i none) seat (Desk (with_reading d b i its_name) ∷ []))
        desk_borrows = desk_changes (with_reading d b i its_name) b 2 (set s.homes i none) refl
            (lawful_changed s.words s.homes (set s.homes i none) d (with_reading d b i its_name) t.told_of t.told_of b 2 inside refl (length-set s.homes i none) (λ c away. same_as_before t.told_of c) (more_apart b d.fat)
            (more_lent b i its_name d.lent) lows (fits_reading (slice_index s.words b) d t.told_of b fits_now i is) single_now reads_it read_it_alone read_fresh read_home desk_lawful)

      -- the text that it has read goes home
      module _ (i : ℕ) (name : List ℕ) (reading : d.reading ≡ loan b i name ∷ []) where
        told : (slice_index s.words b ≡ 2) × Among b (t.told_of i).0 × (name ≡ (t.told_of i).1)
        told = desk_lawful.reads (loan b i name) (subst (λ xs. Among (loan b i name) xs) (sym reading) (inl refl))

        back_home : (c j : ℕ) → Among c (t.told_of j).0 → (get_elem? (set s.homes i (some name)) j ≡ some (some (t.told_of j).1)) ⊎ IsRead (done_reading d) j
        back_home c j among = elim (cases_eq j i) [
          | inl same ↦ inl (ap (get_elem? (set s.homes i (some name))) same ∙ set_here s.homes i (some name) (desk_lawful.low b i told.1).2 ∙ ap (λ x. some (some x)) told.2 ∙ ap (λ k. some (some (t.told_of k).1)) (sym same))
          | inr apart ↦ elim (desk_lawful.home c j among) [
            | inl home ↦ inl (set_else s.homes i j (some name) apart ∙ home)
            | inr read ↦ elim (subst (λ xs. Among read.0 xs) reading read.1) [ inl same ↦ absurd (apart (sym read.2 ∙ ap (λ (l : Lent). l.number) same)) | inr never ↦ absurd never ]
          ]
        ]

        back_fresh : (j : ℕ) → j < length (set s.homes i (some name)) → d.records ≤ j → (x : List ℕ) × (get_elem? (set s.homes i (some name)) j ≡ some (some x))
        back_fresh j below late = elim (cases_eq j i) [
          | inl same ↦ (name, ap (get_elem? (set s.homes i (some name))) same ∙ set_here s.homes i (some name) (desk_lawful.low b i told.1).2)
          | inr apart ↦ (let was = desk_lawful.fresh j (omega (arith, length-set s.homes i (some name))) late in (was.0, set_else s.homes i j (some name) apart ∙ was.1))
        ]

        back_alone : (c : ℕ) → c < length s.words → slice_index (set s.words b 3) c ≡ 2 → (l : Lent) × Among l [] × (l.bucket ≡ c)
        back_alone c below two = elim (cases_eq c b) [
          | inl same ↦ absurd (three_two (slice_index (set s.words b 3) c) (ap (slice_index (set s.words b 3)) same ∙ get_or-set_same s.words b 3 0 inside) two)
          | inr apart ↦
              let was = desk_lawful.read_at c below (sym (get_or-set_other s.words b c 3 0 apart) ∙ two) in
              elim (subst (λ xs. Among was.0 xs) reading was.1) [ inl same ↦ absurd (apart (sym was.2 ∙ ap (λ (l : Lent). l.bucket) same)) | inr never ↦ absurd never ]
        ]

        pub desk_reads : IsKept count (next s b 3 (set s.homes i (some name)) seat (Desk (done_reading d) ∷ []))
        desk_reads = desk_changes (done_reading d) b 3 (set s.homes i (some name)) refl
            (lawful_changed s.words s.homes (set s.homes i (some name)) d (done_reading d) t.told_of t.told_of b 3 inside refl (length-set s.homes i (some name)) (λ c away. same_as_before t.told_of c) (same_apart b d.fat)
            (same_lent b d.lent) lows (fits_read (slice_index s.words b) d t.told_of b fits_now told.0) single_now (λ l never. absurd never) back_alone back_fresh back_home desk_lawful)

    -- ---- a record is made

    module _ (slot : d.records < length s.homes) where
      -- nothing is told of a record that there is not
      abbrev blank : Told
      blank = ([], [])

      abbrev more_h : ℕ → Told
      more_h = with_told t.told_of d.records blank

      pub its_blank : (name : List ℕ) × (get_elem? s.homes d.records ≡ some (some name))
      its_blank = desk_lawful.fresh d.records slot (omega arith)

      low_of : (b i : ℕ) → Among b (more_h i).0 → i ≢ d.records
      low_of b i among same = subst (λ (x : Told). Among b x.0) (at_told t.told_of d.records blank i same) among

      old_of : (b i : ℕ) → Among b (more_h i).0 → Among b (t.told_of i).0
      old_of b i among = subst (λ (x : Told). Among b x.0) (at_other t.told_of d.records blank i (low_of b i among)) among

      new_of : (b i : ℕ) → Among b (t.told_of i).0 → more_h i ≡ t.told_of i
      new_of b i among = at_other t.told_of d.records blank i (λ same. (let low = (desk_lawful.low b i among).1 in omega arith))

      more_others : (k : ℕ) (z : Part) → k ≢ seat → k ≡ t.seat_of (place_of z) → Knows d t.told_of z → (place_of z ≢ d.records + 1) × Knows (more_records d) more_h z
      more_others k (Desk u) apart of known = absurd (apart (of ∙ sym desk_sits.0))
      more_others k (Record q) apart of known = (
        (let low = known.low in λ same. omega arith),
        record { low = (let low = known.low in omega arith); told = known.told ∙ sym (at_other t.told_of d.records blank q.number (λ same. (let low = known.low in omega arith))) },
      )

      more_fits : (b : ℕ) → b < length s.words → Fits (slice_index s.words b) (more_records d) more_h b
      more_fits b inside = (let f = desk_lawful.each b inside in record {
        one = λ i j first second. f.one i j (old_of b i first) (old_of b j second);
        taken = λ i among. (let before = old_of b i among in elim (f.taken i before) [
          | inl thin ↦ inl thin
          | inr lent ↦ inr (lent.0, subst (λ (x : Told). Among (loan b i x.1) d.lent) (sym (new_of b i before)) lent.1)
        ]);
        thin_of = λ i e. (let before = f.thin_of i e in subst (λ (x : Told). Among b x.0) (sym (new_of b i before)) before);
        is_fat = f.is_fat;
        fat = f.fat;
        lent = λ l among of. (let was = f.lent l among of in
            (was.0, λ lent. (let its = was.1 lent in subst (λ (x : Told). Among b x.0 × (l.name ≡ x.1)) (sym (new_of b l.number its.0)) its)));
        held = f.held;
      })

      more_home : (b i : ℕ) → Among b (more_h i).0 → (get_elem? (set s.homes d.records none) i ≡ some (some (more_h i).1)) ⊎ IsRead (more_records d) i
      more_home b i among =
          let before = old_of b i among in
          elim (desk_lawful.home b i before) [
            | inl home ↦ inl (set_else s.homes d.records i none (low_of b i among) ∙ home ∙ ap (λ (x : Told). some (some x.1)) (sym (new_of b i before)))
            | inr reading ↦ inr reading
          ]

      more_lawful : IsLawful s.words (set s.homes d.records none) (more_records d) more_h
      more_lawful = record {
        each = more_fits;
        low = λ b i among. (let l = desk_lawful.low b i (old_of b i among) in let l1 = l.1 in let l2 = l.2 in (l.0, omega arith, omega (arith, length-set s.homes d.records none)));
        low_fat = desk_lawful.low_fat;
        low_lent = desk_lawful.low_lent;
        single = λ b c i first second. desk_lawful.single b c i (old_of b i first) (old_of c i second);
        reads = λ l reading. (let was = desk_lawful.reads l reading in
            (was.0, subst (λ (x : Told). Among l.bucket x.0) (sym (new_of l.bucket l.number was.1)) was.1, was.2 ∙ ap (λ (x : Told). x.1) (sym (new_of l.bucket l.number was.1))));
        read_at = desk_lawful.read_at;
        fresh = λ i below late.
            let apart : i ≢ d.records = λ same. omega arith in
            let was = desk_lawful.fresh i (omega (arith, length-set s.homes d.records none)) (omega arith) in
            (was.0, set_else s.homes d.records i none apart ∙ was.1);
        home = more_home;
      }

      pub record_made : (b : ℕ) → IsKept count (next s b (slice_index s.words b) (set s.homes d.records none) seat (Record (new_record d.records) ∷ Desk (more_records d) ∷ []))
      record_made b = record {
        sized = omega (arith, length-set s.words b (slice_index s.words b), t.sized);
        desk = more_records d;
        told_of = more_h;
        seat_of = moved t.seat_of (d.records + 1) seat;
        lawful = subst (λ ws. IsLawful ws (set s.homes d.records none) (more_records d) more_h) (sym (set-get_or s.words b 0)) more_lawful;
        parts = added s.views d t.told_of t.seat_of desk_parts seat (Record (new_record d.records)) (Desk (more_records d)) (more_records d) more_h desk_sits.0 (λ same. omega arith)
            (record { low = omega arith; told = sym (at_told t.told_of d.records blank d.records refl) }) refl more_others;
      }

  -- ---- two parts

  module _ (r : RecordView) (d : DeskView) (at : get_elem? s.views seat ≡ some (Record r ∷ Desk d ∷ [])) where
    pub have_met : (b : ℕ) → Among b r.taken → Among b d.fat → Among (loan b r.number r.name) d.lent
    have_met b taken fat =
        let same : d ≡ t.desk = (t.parts seat (Record r ∷ Desk d ∷ []) (Desk d) at (inr (inl refl))).1 in
        let its = (t.parts seat (Record r ∷ Desk d ∷ []) (Record r) at (inl refl)).1.told in
        let is_fat : Among b t.desk.fat = subst (λ (x : DeskView). Among b x.fat) same fat in
        let f = t.lawful.each b (t.lawful.low_fat b is_fat) in
        elim (f.taken r.number (subst (λ (x : Told). Among b x.0) its taken)) [
          | inl is ↦ absurd (thin_fat (slice_index s.words b) r.number is (f.is_fat is_fat))
          | inr lent ↦ subst (λ (x : Told × DeskView). Among (loan b r.number x.0.1) x.1.lent) (λ i. (sym its i, sym same i)) lent.1
        ]

  module _ (r q : RecordView) (at : get_elem? s.views seat ≡ some (Record r ∷ Record q ∷ [])) (differ : r.number ≢ q.number) where
    pub records_met : (b : ℕ) → Among b r.taken → Among b q.taken → ⊥
    records_met b first second =
        let one = (t.parts seat (Record r ∷ Record q ∷ []) (Record r) at (inl refl)).1 in
        let other = (t.parts seat (Record r ∷ Record q ∷ []) (Record q) at (inr (inl refl))).1 in
        let had = subst (λ (x : Told). Among b x.0) one.told first in
        differ ((t.lawful.each b (t.lawful.low b r.number had).0).one r.number q.number had (subst (λ (x : Told). Among b x.0) other.told second))

-- ---- two parts meet, and part

pub meets : (count seat : ℕ) (v : List Part) (other : ℕ) (w : List Part) → Joins (IsKept count) seat v other w (meeting v w) []
meets count seat v other w st t at differs there = record {
  sized = t.sized;
  desk = t.desk;
  told_of = t.told_of;
  seat_of = λ k. if nat_eq (t.seat_of k) other then seat else t.seat_of k;
  lawful = t.lawful;
  parts = joined st.views t.desk t.told_of t.seat_of t.parts seat other v w at differs there;
}

pub parts_again : (count seat : ℕ) (x y : Part) → place_of x ≢ place_of y → Splits (IsKept count) seat (x ∷ y ∷ []) (x ∷ []) (y ∷ [])
parts_again count seat x y differ st t at =
    let first = t.parts seat (x ∷ y ∷ []) x at (inl refl) in
    let second = t.parts seat (x ∷ y ∷ []) y at (inr (inl refl)) in
    record {
      sized = t.sized;
      desk = t.desk;
      told_of = t.told_of;
      seat_of = moved t.seat_of (place_of y) (length (set st.views seat (x ∷ [])));
      lawful = t.lawful;
      parts = split_off st.views t.desk t.told_of t.seat_of t.parts seat x y t.desk t.told_of first.0 differ first.1 second.1 (λ k z apart of known. ((λ same. apart (of ∙ ap t.seat_of same ∙ sym second.0)), known));
    }

pub blanks : (count seat : ℕ) (v : List Part) → Splits (IsKept count) seat v v []
blanks count seat v st t at = record {
  sized = t.sized;
  desk = t.desk;
  told_of = t.told_of;
  seat_of = t.seat_of;
  lawful = t.lawful;
  parts = blank_off st.views t.desk t.told_of t.seat_of t.parts seat v at;
}

-- ---- at first

map_home : (texts : List (List ℕ)) (i : ℕ) → i < length (map some texts) → (name : List ℕ) × (get_elem? (map some texts) i ≡ some (some name))
map_home [] i below = absurd (omega arith)
map_home (x ∷ xs) zero below = (x, refl)
map_home (x ∷ xs) (suc i) below = map_home xs i (omega arith)

pub opens : (words : List ℕ) (texts : List (List ℕ)) → AreFree words → IsKept (length words) (record { words = words; homes = map some texts; views = (Desk no_desk ∷ []) ∷ [] })
opens words texts free = record {
  sized = refl;
  desk = no_desk;
  told_of = λ i. ([], []);
  seat_of = λ k. 0;
  lawful = record {
    each = λ b inside. record {
      one = λ i j first second. absurd first;
      taken = λ i among. absurd among;
      thin_of = λ i e. (let never : 0 ≡ i + 4 = sym (free b inside) ∙ e in absurd (omega arith));
      is_fat = λ among. absurd among;
      fat = λ fat. (let low = fat.0 in let zero_is = free b inside in absurd (omega arith));
      lent = λ l among of. absurd among;
      held = λ lent. (let low = lent.0 in let zero_is = free b inside in absurd (omega arith));
    };
    low = λ b i among. absurd among;
    low_fat = λ b among. absurd among;
    low_lent = λ l among. absurd among;
    single = λ b c i first second. absurd first;
    reads = λ l among. absurd among;
    read_at = λ b inside two. (let never : 0 ≡ 2 = sym (free b inside) ∙ two in absurd (omega arith));
    fresh = λ i below late. map_home texts i below;
    home = λ b i among. absurd among;
  };
  parts = first;
} where
  first : AllKnow ((Desk no_desk ∷ []) ∷ []) no_desk (λ i. ([], [])) (λ k. 0)
  first zero view part e among = elim (subst (λ (v : List Part). Among part v) (sym (some-injective _ _ e)) among) [
    | inl is ↦ (refl, subst (λ (p : Part). Knows no_desk (λ i. ([], [])) p) (sym is) refl)
    | inr never ↦ absurd never
  ]
  first (suc seat) view part e among = absurd (some-ne-none view (sym e))
