-- A name that a record has taken has no owner in the manager but the transaction of the record's worker.
use Rattle.std.proofs.Common.{◌≡◌, ◌≢◌, ℕ, ◌/◌, List, [], ◌∷◌, Some, refl, sym, ap, ◌∙◌, subst, inl, arith}
use Rattle.std.specs.Prelude.{slice_get}
use Rattle.std.proofs.lemmas.Option.{same_Some}
use Rattle.mm_arena.specs.declared.key.Key.{Key}
use Rattle.mm_lists.specs.Members.{Among}
use Rattle.mm_rules.specs.TableState.{owner_of}
use Rattle.mm_manager.specs.LockState.{LockState, Owns, IsLawful}
use Rattle.mm_thin.specs.declared.worker.TheConstants.{RECORDS}
use Rattle.mm_thin.specs.declared.views.RecordView.{RecordView}
use Rattle.mm_thin.specs.declared.spread.Spread.{Spread}
use Rattle.mm_thin.specs.Spread.{bucket_by}
use Rattle.mm_thin.specs.Views.{loan}
use Rattle.mm_thin.specs.Parts.{OfficeState, IsOfWorker, IsPlaced}
use Rattle.mm_thin.specs.Calls.{AreLent}
use Rattle.mm_desk.specs.Books.{BooksState}
use Rattle.mm_desk.specs.Desk.{IsDesk}

-- a name has one owner in the manager
owns_once : (m : LockState) → IsLawful m → (name : List ℕ) (k h : Key) → Owns m k name → Owns m h name → k ≡ h
owns_once m lawful name k h one other =
    let same : one.0 ≡ other.0 = lawful.names.distinct one.0 other.0 name one.1 other.1 in
    same_Some k h (sym one.2 ∙ ap (owner_of m.table) same ∙ other.2)

worker_of : (at n : ℕ) → IsOfWorker at n → n / RECORDS ≡ at
worker_of at n is = (let low = is.0 in let high = is.1 in omega arith)

module _ (books : BooksState) (o : OfficeState) (keys : List Key) (lent_to : List ℕ) (is : IsDesk books o keys lent_to) (lawful : IsLawful books.manager) (at : ℕ) (r : RecordView)
    (placed : IsOfWorker at r.number × IsPlaced o.of r) (lent : AreLent r o.desk) where
  pub is_owned : (b : ℕ) → Among b r.taken → Among b o.desk.fat → (k : Key) × (slice_get keys at ≡ Some k) × Owns books.manager k r.name
  is_owned b taken fat =
      let owned = (is.adopted (loan b r.number r.name) (lent b taken fat)).owned in
      (owned.0, (ap (slice_get keys) (sym (worker_of at r.number placed.0)) ∙ owned.1), owned.2)

  taken_alone : (b : ℕ) → Among b r.taken → (h : Key) → Owns books.manager h r.name → slice_get keys at ≡ Some h
  taken_alone b taken h owns =
      let fat : Among b o.desk.fat = subst (λ c. Among c o.desk.fat) (ap (λ (s : Spread). bucket_by s r.name) is.spread ∙ sym (placed.1 b taken)) (is.fat owns.0 r.name owns.1) in
      let owned = is_owned b taken fat in
      owned.1 ∙ ap Some (owns_once books.manager lawful r.name owned.0 h owned.2 owns)

  pub owns_alone : r.taken ≢ [] → (h : Key) → Owns books.manager h r.name → slice_get keys at ≡ Some h
  owns_alone some h owns = go r.taken refl where
    go : (xs : List ℕ) → r.taken ≡ xs → slice_get keys at ≡ Some h
    go [] none = absurd (some none)
    go (b ∷ bs) taken = taken_alone b (subst (λ xs. Among b xs) (sym taken) (inl refl)) h owns
