-- Whether bytes can be a name, by what the names answer.
use Rattle.std.proofs.Common.{rules, ◌≡◌, ◌↔◌, ◌<◌, ℕ, List, length, Result, Ok, Err, if◌then◌else◌, nat_eq, nat_lt, ap}
use Rattle.mm_names.specs.declared.names.Entry.{Entry}
use Rattle.mm_names.specs.declared.error.NamesError.{NamesError}
use Rattle.mm_names.specs.declared.error.NamesError.TheVariants.{Empty, TooLong, Full}
use Rattle.mm_manager.specs.Permit.{may_name}
use Rattle.mm_manager.specs.declared.refusal.Refusal.{Refusal}
use Rattle.mm_manager.specs.declared.refusal.Refusal.TheVariants.{NameEmpty, NameTooLong}

abbrev by_length : ℕ → ℕ → Result (Unit {0}) Refusal
by_length bytes n = if nat_eq n 0 then Err NameEmpty else if nat_lt bytes n then Err NameTooLong else Ok tt

none_length : (bytes n : ℕ) → n ≡ 0 → by_length bytes n ≡ Err NameEmpty
none_length bytes n none = search rules

long_length : (bytes n : ℕ) → ¬ (n ≡ 0) → bytes < n → by_length bytes n ≡ Err NameTooLong
long_length bytes n some long = search rules

fit_length : (bytes n : ℕ) → ¬ (n ≡ 0) → ¬ (bytes < n) → by_length bytes n ≡ Ok tt
fit_length bytes n some short = search rules

abbrev IsEmpty : Result Entry NamesError → List ℕ → Type 0
IsEmpty reply name = (reply ≡ Err Empty) ↔ (length name ≡ 0)

abbrev IsLong : Result Entry NamesError → ℕ → List ℕ → Type 0
IsLong reply bytes name = (reply ≡ Err TooLong) ↔ (bytes < length name)

module _ (bytes : ℕ) (name : List ℕ) where
  pub entered_fits : (entry : Entry) → IsEmpty (Ok entry) name → IsLong (Ok entry) bytes name → may_name bytes name ≡ Ok tt
  entered_fits entry empty long = fit_length bytes (length name) (λ none. (let never : Ok entry ≡ Err Empty = empty.1 none in absurd (cc))) (λ more. (let never : Ok entry ≡ Err TooLong = long.1 more in absurd (cc)))

  pub empty_is_empty : (e : NamesError) → e ≡ Empty → IsEmpty (Err e) name → may_name bytes name ≡ Err NameEmpty
  empty_is_empty e is empty = none_length bytes (length name) (empty.0 (ap Err is))

  pub long_is_long : (e : NamesError) → e ≡ TooLong → IsEmpty (Err e) name → IsLong (Err e) bytes name → may_name bytes name ≡ Err NameTooLong
  long_is_long e is empty long =
      long_length bytes (length name) (λ none. (let never : TooLong ≡ Empty = (let same : Err e ≡ Err Empty = empty.1 none in cc) in absurd (cc))) (long.0 (ap Err is))

  pub full_fits : (e : NamesError) → e ≡ Full → IsEmpty (Err e) name → IsLong (Err e) bytes name → may_name bytes name ≡ Ok tt
  full_fits e is empty long =
      fit_length bytes (length name) (λ none. (let never : Full ≡ Empty = (let same : Err e ≡ Err Empty = empty.1 none in cc) in absurd (cc)))
      (λ more. (let never : Full ≡ TooLong = (let same : Err e ≡ Err TooLong = long.1 more in cc) in absurd (cc)))
