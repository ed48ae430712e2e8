-- What holds of a desk holds after a bucket, a name or a loan changes.
use Rattle.std.proofs.Common.{◌↔◌, ◌≡◌, ◌≢◌, ℕ, ◌<◌, ◌/◌, Bool, true, false, not, nat_eq, List, ◌∷◌, length, set, filter, Some, refl, sym, ap, ◌∙◌, subst, inl, inr, arith, eq-eqb, length-set, get_or-set_same, get_or-set_other}
use Rattle.std.specs.Prelude.{slice_get, slice_index}
use Rattle.mm_arena.specs.declared.key.Key.{Key}
use Rattle.mm_lists.specs.Members.{Among}
use Rattle.mm_lists.proofs.Lemmas.Filter.{filter_gives, Among-without_other}
use Rattle.mm_names.specs.Names.{name_of}
use Rattle.mm_manager.specs.LockState.{LockState, IsLawful}
use Rattle.mm_thin.specs.declared.worker.TheConstants.{RECORDS}
use Rattle.mm_thin.specs.declared.views.Lent.{Lent}
use Rattle.mm_thin.specs.declared.views.DeskView.{DeskView}
use Rattle.mm_thin.specs.declared.spread.Spread.{Spread}
use Rattle.mm_thin.specs.Spread.{bucket_by}
use Rattle.mm_thin.specs.Views.{no_desk, loan, with_fat, with_lent, without_fat, without_lent, thinned}
use Rattle.mm_thin.specs.Parts.{Opening, OfficeState}
use Rattle.mm_thin.specs.Calls.{ThinsBucket, LooksAt}
use Rattle.mm_thin.specs.declared.reply.Look.{Look}
use Rattle.mm_thin.specs.declared.reply.Look.TheVariants.{NotFat, Fat, IsLent}
use Rattle.mm_desk.specs.Books.{BooksState, names_in}
use Rattle.mm_desk.specs.Desk.{DeskState, AreFat, IsAdopted, IsDesk}
use Rattle.mm_desk.specs.Calls.{GrowsBy, NamesFade, OwnersStay, OthersStay, IsTakenOver, IsOffered, KeepsFat, FailsToAdopt, HasNoNames, IsOver, KeepsManager, LoansEnd, NumberIsFree, NoLoansOf}
use Rattle.mm_rules.specs.TableState.{is_live, owner_of}
use Rattle.std.proofs.lemmas.Option.{same_Some}
use Rattle.mm_lists.proofs.Lemmas.Set.{slice_get-set_other}
use Rattle.std.specs.Prelude.{Result, Ok, Err, IfOk, OnErr}
use Rattle.mm_thin.specs.declared.config.WorkerError.{WorkerError}
use Rattle.mm_thin.specs.Calls.{AddsWorker}
use Rattle.mm_thin.specs.Parts.{WorkerState}
use Rattle.mm_manager.specs.Calls.{AdoptsName}
use Rattle.mm_manager.specs.declared.refusal.Refusal.{Refusal}
use Rattle.mm_desk.proofs.Counts.{counted_name}

-- ---- loans of a bucket

pub none_lent : (b : ℕ) (ls : List Lent) (l : Lent) → Among l (filter (λ l. not (nat_eq l.bucket b)) ls) → l.bucket ≢ b
none_lent b ls l among same =
    let passes : not (nat_eq l.bucket b) ≡ true = (filter_gives (λ (x : Lent). not (nat_eq x.bucket b)) ls l among).1 in
    let never : false ≡ true = sym (ap not (eq-eqb l.bucket b same)) ∙ passes in
    absurd (cc)

pub was_lent : (b : ℕ) (ls : List Lent) (l : Lent) → Among l (filter (λ l. not (nat_eq l.bucket b)) ls) → Among l ls
was_lent b ls l among = (filter_gives (λ (x : Lent). not (nat_eq x.bucket b)) ls l among).0

module _ (books : BooksState) (o : OfficeState) (keys : List Key) (lent_to : List ℕ) (is : IsDesk books o keys lent_to) where
  -- what is lent is fat
  pub lent_fat : (l : Lent) → Among l o.desk.lent → Among l.bucket o.desk.fat
  lent_fat l among = (let a = is.adopted l among in subst (λ b. Among b o.desk.fat) (sym a.bucket) (is.fat a.owned.2.0 l.name a.owned.2.1))

  module _ (books' : BooksState) (spread : books'.spread ≡ books.spread) (o' : OfficeState) (of : o'.of ≡ o.of) where
    pub remade : (lent_to' : List ℕ) → length lent_to' ≡ length lent_to → AreFat books' o'.desk → ((l : Lent) → Among l o'.desk.lent → IsAdopted books' keys lent_to' l) → IsDesk books' o' keys lent_to'
    remade lent_to' size fat adopted = record {
      spread = spread ∙ is.spread ∙ ap (λ (x : Opening). x.spread) (sym of);
      words = subst (λ (x : Opening). x.spread.buckets ≡ x.table.words) (sym of) is.words;
      sized = size ∙ is.sized ∙ ap (λ (x : Opening). x.table.words) (sym of);
      fat = fat;
      adopted = adopted;
    }

    -- an owner that stays owns what it did
    pub adopted_still : OwnersStay books.manager books'.manager → (lent_to' : List ℕ) (l : Lent) → slice_index lent_to' l.bucket ≡ slice_index lent_to l.bucket → IsAdopted books keys lent_to l → IsAdopted books' keys lent_to' l
    adopted_still stay lent_to' l same a = record {
      bucket = a.bucket ∙ ap (λ (s : Spread). bucket_by s l.name) (sym spread);
      listed = same ∙ a.listed;
      owned = (a.owned.0, a.owned.1, stay a.owned.0 l.name a.owned.2);
    }

    -- a name that was there has a fat bucket
    pub fat_before : (n : ℕ) (x : List ℕ) → name_of books.manager.names n ≡ Some x → Among (bucket_by books'.spread x) o.desk.fat
    fat_before n x named = subst (λ (s : Spread). Among (bucket_by s x) o.desk.fat) (sym spread) (is.fat n x named)

  -- ---- the office alone changes

  module _ (o' : OfficeState) (of : o'.of ≡ o.of) where
    pub desk_same : o'.desk ≡ o.desk → IsDesk books o' keys lent_to
    desk_same same = remade books refl o' of lent_to refl (subst (λ (d : DeskView). AreFat books d) (sym same) is.fat) (λ l among. is.adopted l (subst (λ (d : DeskView). Among l d.lent) same among))

    pub desk_free : (b : ℕ) → o'.desk ≡ with_fat o.desk b → IsDesk books o' keys lent_to
    desk_free b same = remade books refl o' of lent_to refl (λ n x named. subst (λ (d : DeskView). Among (bucket_by books.spread x) d.fat) (sym same) (inr (is.fat n x named)))
        (λ l among. is.adopted l (subst (λ (d : DeskView). Among l d.lent) same among))

    pub desk_looked : (b : ℕ) → o'.desk ≡ without_lent o.desk b → IsDesk books o' keys lent_to
    desk_looked b same = remade books refl o' of lent_to refl (λ n x named. subst (λ (d : DeskView). Among (bucket_by books.spread x) d.fat) (sym same) (is.fat n x named))
        (λ l among. is.adopted l (was_lent b o.desk.lent l (subst (λ (d : DeskView). Among l d.lent) same among)))

  -- ---- a thin name comes to the manager

  module _ (books' : BooksState) (spread : books'.spread ≡ books.spread) (o' : OfficeState) (of : o'.of ≡ o.of) (b number : ℕ) (name : List ℕ) (stay : OwnersStay books.manager books'.manager) (not_fat : Among b o.desk.fat → ⊥) where
    pub desk_lent : o'.desk ≡ with_lent o.desk b number name → b < o.of.table.words → GrowsBy books.manager name books'.manager → IsTakenOver books' (slice_get keys (number / RECORDS)) b name → IsDesk books' o' keys (set lent_to b number)
    desk_lent same low grows taken = remade books' spread o' of (set lent_to b number) (length-set lent_to b number)
        (λ n x named. subst (λ (d : DeskView). Among (bucket_by books'.spread x) d.fat) (sym same) (elim (grows n x named) [
          | inl it ↦ inl (ap (bucket_by books'.spread) it ∙ sym taken.0)
          | inr before ↦ inr (fat_before books' spread o' of n x before)
        ]))
        (λ l among. elim (subst (λ (d : DeskView). Among l d.lent) same among) [
          | inl here ↦ subst (λ (x : Lent). IsAdopted books' keys (set lent_to b number) x) (sym here)
              (record { bucket = taken.0; listed = (let size = is.sized in get_or-set_same lent_to b number 0 (omega arith)); owned = taken.1 })
          | inr later ↦
              let apart : l.bucket ≢ b = λ at_b. not_fat (subst (λ c. Among c o.desk.fat) at_b (lent_fat l later)) in
              adopted_still books' spread o' of stay (set lent_to b number) l (get_or-set_other lent_to b l.bucket number 0 apart) (is.adopted l later)
        ])

    module _ (mid : DeskView) (was : mid ≡ with_lent o.desk b number name) (done : Bool) (thins : ThinsBucket mid b done o'.desk) where
      -- what was fat is still
      pub still_fat : (c : ℕ) → Among c o.desk.fat → Among c o'.desk.fat
      still_fat c among = go done thins where
        go : (q : Bool) → ThinsBucket mid b q o'.desk → Among c o'.desk.fat
        go true now = subst (λ (d : DeskView). Among c d.fat) (sym (now ∙ ap (λ (d : DeskView). thinned d b) was))
            (Among-without_other c b (b ∷ o.desk.fat) (λ at_b. not_fat (subst (λ k. Among k o.desk.fat) at_b among)) (inr among))
        go false now = subst (λ (d : DeskView). Among c d.fat) (sym (now ∙ ap (λ (d : DeskView). without_lent d b) was)) (inr among)

      old_lent : (l : Lent) → Among l o'.desk.lent → Among l o.desk.lent
      old_lent l among = go done thins where
        other : Among l (filter (λ l. not (nat_eq l.bucket b)) (loan b number name ∷ o.desk.lent)) → Among l o.desk.lent
        other left = elim (was_lent b (loan b number name ∷ o.desk.lent) l left) [
          | inl here ↦ absurd (none_lent b (loan b number name ∷ o.desk.lent) l left (ap (λ (x : Lent). x.bucket) here))
          | inr later ↦ later
        ]

        go : (q : Bool) → ThinsBucket mid b q o'.desk → Among l o.desk.lent
        go true now = other (subst (λ (d : DeskView). Among l d.lent) (now ∙ ap (λ (d : DeskView). thinned d b) was) among)
        go false now = other (subst (λ (d : DeskView). Among l d.lent) (now ∙ ap (λ (d : DeskView). without_lent d b) was) among)

      pub desk_refused : NamesFade books.manager books'.manager → IsDesk books' o' keys lent_to
      desk_refused fade = remade books' spread o' of lent_to refl (λ n x named. still_fat (bucket_by books'.spread x) (fat_before books' spread o' of n x (fade n x named)))
          (λ l among. adopted_still books' spread o' of stay lent_to l refl (is.adopted l (old_lent l among)))

  -- ---- a name is handed over

  pub desk_unlocked : (books' : BooksState) → books'.spread ≡ books.spread → (k : Key) (name : List ℕ) → NamesFade books.manager books'.manager → OthersStay books.manager k name books'.manager
      → ((l : Lent) → Among l o.desk.lent → l.bucket ≡ bucket_by o.of.spread name → slice_get keys (l.number / RECORDS) ≡ Some k → ⊥) → IsDesk books' o keys lent_to
  desk_unlocked books' spread k name fade stay others = remade books' spread o refl lent_to refl (λ n x named. fat_before books' spread o refl n x (fade n x named)) (λ l among.
      let a = is.adopted l among in
      record {
        bucket = a.bucket ∙ ap (λ (s : Spread). bucket_by s l.name) (sym spread);
        listed = a.listed;
        owned = (a.owned.0, a.owned.1, stay a.owned.0 l.name a.owned.2 (λ it. others l among (a.bucket ∙ ap (bucket_by books.spread) it.1 ∙ ap (λ (s : Spread). bucket_by s name) is.spread) (a.owned.1 ∙ ap Some it.0)));
      })

  -- no loan of a bucket that is not fat, nor of one that was looked at
  pub not_fat_unlent : (b : ℕ) → (Among b o.desk.fat → ⊥) → (l : Lent) → Among l o.desk.lent → l.bucket ≡ b → ⊥
  not_fat_unlent b not_fat l among same = not_fat (subst (λ c. Among c o.desk.fat) same (lent_fat l among))

  pub listed_number : (b : ℕ) (l : Lent) → Among l o.desk.lent → l.bucket ≡ b → slice_index lent_to b ≡ l.number
  listed_number b l among same = ap (slice_index lent_to) (sym same) ∙ (is.adopted l among).listed

  -- ---- a bucket is freed

  module _ (mid o' : OfficeState) (of : o'.of ≡ o.of) (b : ℕ) (looked : mid.desk ≡ without_lent o.desk b) (freed : o'.desk ≡ without_fat mid.desk b) (none : names_in books.spread books.manager.names.names b ≡ 0) where
    pub desk_freed : IsDesk books o' keys lent_to
    desk_freed = remade books refl o' of lent_to refl
        (λ n x named.
        let apart : bucket_by books.spread x ≢ b = λ same. (let some = counted_name books.spread books.manager.names.names n x b named same in omega arith) in
        let now : o'.desk ≡ without_fat (without_lent o.desk b) b = freed ∙ ap (λ (d : DeskView). without_fat d b) looked in
        subst (λ (d : DeskView). Among (bucket_by books.spread x) d.fat) (sym now) (Among-without_other (bucket_by books.spread x) b o.desk.fat apart (is.fat n x named)))
        (λ l among. is.adopted l (was_lent b o.desk.lent l (subst (λ (d : DeskView). Among l d.lent) (freed ∙ ap (λ (d : DeskView). without_fat d b) looked) among)))

  -- ---- the office looks

  pub desk_any_look : (b : ℕ) (look : Look) (o' : OfficeState) → o'.of ≡ o.of → LooksAt o.desk b look o'.desk → IsDesk books o' keys lent_to
  desk_any_look b NotFat o' of looks = desk_same o' of looks.0
  desk_any_look b Fat o' of looks = desk_looked o' of b looks.0
  desk_any_look b IsLent o' of looks = desk_same o' of looks.0

  -- ---- a name is asked for

  pub desk_asked : (books' : BooksState) → books'.spread ≡ books.spread → (name : List ℕ) → GrowsBy books.manager name books'.manager → OwnersStay books.manager books'.manager → Among (bucket_by o.of.spread name) o.desk.fat → IsDesk books' o keys lent_to
  desk_asked books' spread name grows stay fat = remade books' spread o refl lent_to refl
      (λ n x named. elim (grows n x named) [
        | inl it ↦ subst (λ b. Among b o.desk.fat) (sym (ap (bucket_by books'.spread) it ∙ ap (λ (s : Spread). bucket_by s name) (spread ∙ is.spread))) fat
        | inr before ↦ fat_before books' spread o refl n x before
      ])
      (λ l among. adopted_still books' spread o refl stay lent_to l refl (is.adopted l among))

module _ (books : BooksState) (o : OfficeState) (keys : List Key) (lent_to : List ℕ) (is : IsDesk books o keys lent_to) where
  pub desk_cancelled : (books' : BooksState) → books'.spread ≡ books.spread → NamesFade books.manager books'.manager → OwnersStay books.manager books'.manager → IsDesk books' o keys lent_to
  desk_cancelled books' spread fade stay = remade books o keys lent_to is books' spread o refl lent_to refl (λ n x named. fat_before books o keys lent_to is books' spread o refl n x (fade n x named))
      (λ l among. adopted_still books o keys lent_to is books' spread o refl stay lent_to l refl (is.adopted l among))

-- ---- the opening, and a worker more

pub desk_opened : (books : BooksState) (o : OfficeState) (keys : List Key) (lent_to : List ℕ) → HasNoNames books.manager → o.desk ≡ no_desk → books.spread ≡ o.of.spread → o.of.spread.buckets ≡ o.of.table.words → length lent_to ≡ o.of.spread.buckets
    → IsDesk books o keys lent_to
desk_opened books o keys lent_to none empty spread words size = record {
  spread = spread;
  words = words;
  sized = size ∙ words;
  fat = λ n name named. absurd (none n name named);
  adopted = λ l among. absurd (subst (λ (d : DeskView). Among l d.lent) empty among);
}

pub desk_more : (books : BooksState) (o o' : OfficeState) (keys : List Key) (lent_to : List ℕ) → IsDesk books o keys lent_to → (r : Result WorkerState WorkerError) → IfOk r (λ w. AddsWorker o w o') → OnErr r (o' ≡ o) → IsDesk books o' keys lent_to
desk_more books o o' keys lent_to is (Ok w) added refused = remade books o keys lent_to is books refl o' added.office.0 lent_to refl
    (λ n x named. subst (λ xs. Among (bucket_by books.spread x) xs) (sym added.office.1) (is.fat n x named)) (λ l among. is.adopted l (subst (λ xs. Among l xs) added.office.2 among))
desk_more books o o' keys lent_to is (Err error) added refused = subst (λ (x : OfficeState). IsDesk books x keys lent_to) (sym refused) is

module _ (books : BooksState) (o : OfficeState) (keys : List Key) (lent_to : List ℕ) (is : IsDesk books o keys lent_to) where
  -- a transaction ends to whose worker nothing is lent
  pub desk_ended : (books' : BooksState) → books'.spread ≡ books.spread → (k : Key) → IsOver books.manager k books'.manager → ((l : Lent) → Among l o.desk.lent → slice_get keys (l.number / RECORDS) ≡ Some k → ⊥) → IsDesk books' o keys lent_to
  desk_ended books' spread k over loans = remade books o keys lent_to is books' spread o refl lent_to refl (λ n x named. fat_before books o keys lent_to is books' spread o refl n x (over.fade n x named)) (λ l among.
      let a = is.adopted l among in
      record {
        bucket = a.bucket ∙ ap (λ (s : Spread). bucket_by s l.name) (sym spread);
        listed = a.listed;
        owned = (a.owned.0, a.owned.1, over.stay a.owned.0 l.name a.owned.2 (λ same. loans l among (a.owned.1 ∙ ap Some same)));
      })

-- ---- what stays fat

pub keeps_both : (a b c : DeskState) → KeepsFat a b → KeepsFat b c → KeepsFat a c
keeps_both a b c first second = record { of = second.of ∙ first.of; keys = second.keys ∙ first.keys; fat = λ k among. second.fat k (first.fat k among); stay = λ h x owns. second.stay h x (first.stay h x owns); waits = λ h x. (λ w. (first.waits h x).0 ((second.waits h x).0 w), λ w. (second.waits h x).1 ((first.waits h x).1 w)) }

-- ---- why a bucket was not made fat

pub not_adopted : (books books' : BooksState) (o : OfficeState) (keys : List Key) (at bucket : ℕ) (name : List ℕ) (refusal : Refusal) (new : DeskState) → books.spread ≡ o.of.spread → new.manager ≡ books'.manager
    → IsOffered books (slice_get keys at) bucket name refusal books' → FailsToAdopt (record { manager = books.manager; office = o; keys = keys }) bucket refusal new
not_adopted books books' o keys at bucket name refusal new spread same (inl none) = inl none
not_adopted books books' o keys at bucket name refusal new spread same (inr tried) =
    inr (tried.0, at, name, tried.1, tried.2 ∙ ap (λ (s : Spread). bucket_by s name) spread, subst (λ (m : LockState). AdoptsName books.manager tried.0 name (Err refusal) m) (sym same) tried.3)

pub same_both : (a b c : DeskState) → KeepsManager a b → KeepsManager b c → KeepsManager a c
same_both a b c first second = record { of = second.of ∙ first.of; keys = second.keys ∙ first.keys; manager = second.manager ∙ first.manager }

pub free_still : (a b : DeskState) (k : Key) (n : ℕ) → KeepsManager a b → LoansEnd a b → NumberIsFree a k n → NumberIsFree b k n
free_still a b k n keeps fewer free name named l among at is =
    free name (ap (λ (m : LockState). name_of m.names n) (sym keeps.manager) ∙ named) l (fewer l among) (at ∙ ap (λ (x : Opening). bucket_by x.spread name) keeps.of) (ap (λ ks. slice_get ks (l.number / RECORDS)) (sym keeps.keys) ∙ is)

-- nothing is lent to the worker of a transaction if no bucket of its names is
pub no_loans : (books : BooksState) (o : OfficeState) (keys : List Key) (lent_to : List ℕ) → IsDesk books o keys lent_to → (k : Key) (numbers : List ℕ) → ((n : ℕ) → Among n numbers ↔ (owner_of books.manager.table n ≡ Some k))
    → ((n : ℕ) → Among n numbers → NumberIsFree (record { manager = books.manager; office = o; keys = keys }) k n) → NoLoansOf (record { manager = books.manager; office = o; keys = keys }) k
no_loans books o keys lent_to is k numbers owned free l among at =
    let a = is.adopted l among in
    let same : a.owned.0 ≡ k = same_Some a.owned.0 k (sym a.owned.1 ∙ at) in
    let owns = a.owned.2 in
    free owns.0 ((owned owns.0).1 (owns.2 ∙ ap Some same)) l.name owns.1 l among (a.bucket ∙ ap (λ (s : Spread). bucket_by s l.name) is.spread) at

-- a worker to whom nothing is lent gets another transaction
pub desk_renewed : (books books' : BooksState) (o : OfficeState) (keys : List Key) (lent_to : List ℕ) → IsDesk books o keys lent_to → books'.spread ≡ books.spread → NamesFade books.manager books'.manager → OwnersStay books.manager books'.manager
    → (at : ℕ) (key next : Key) → slice_get keys at ≡ Some key → ((l : Lent) → Among l o.desk.lent → slice_get keys (l.number / RECORDS) ≡ Some key → ⊥) → IsDesk books' o (set keys at next) lent_to
desk_renewed books books' o keys lent_to is spread fade stay at key next ended loans =
    let mid = desk_cancelled books o keys lent_to is books' spread fade stay in
    record {
      spread = mid.spread;
      words = mid.words;
      sized = mid.sized;
      fat = mid.fat;
      adopted = λ l among.
          let a = mid.adopted l among in
          let apart : l.number / RECORDS ≢ at = λ same. loans l among (ap (slice_get keys) same ∙ ended) in
          record { bucket = a.bucket; listed = a.listed; owned = (a.owned.0, slice_get-set_other keys (l.number / RECORDS) at next apart ∙ a.owned.1, a.owned.2) };
    }

-- nothing is lent to the worker of a transaction that is not live
pub dead_unlent : (books : BooksState) (o : OfficeState) (keys : List Key) (lent_to : List ℕ) → IsDesk books o keys lent_to → IsLawful books.manager → (key : Key) → is_live books.manager.table key ≡ false
    → (l : Lent) → Among l o.desk.lent → slice_get keys (l.number / RECORDS) ≡ Some key → ⊥
dead_unlent books o keys lent_to is lawful key dead l among at =
    let a = is.adopted l among in
    let owner = a.owned.2.2 ∙ ap Some (same_Some a.owned.0 key (sym a.owned.1 ∙ at)) in
    let live : is_live books.manager.table key ≡ true = lawful.laws.lawful.well_formed.owners a.owned.2.0 key owner in
    absurd (cc)
