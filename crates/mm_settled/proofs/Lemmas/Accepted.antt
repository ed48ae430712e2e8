-- What is known of an event by its reply: an accepted one has passed its tests and is counted, and a refused one changes nothing.
use Rattle.std.proofs.Common.{◌≡◌, ◌⊎◌, ◌+◌, Result, Ok, Err, false, inl, inr, refl}
use Rattle.std.specs.List.{AllByRecursion}
use Rattle.mm_rules.specs.declared.refusal.Refusal.{Refusal}
use Rattle.mm_rules.specs.TableState.{TableState}
use Rattle.mm_rules.specs.Event.{Tests, Gives, allowed, decided, outcome}
use Rattle.mm_rules.proofs.States.Outcome.{counting, tests_false}

pub record IsAccepted (A : Type 0) (tests : Tests) (made : A) (new : TableState) (x : A) (t : TableState) : Type 0 where
  pub passed : AllByRecursion (λ t. t.0 ≡ false) tests
  pub answer : made ≡ x
  pub state : t ≡ counting new (new.totals.accepted + 1)

accepted_by : {A : Type 0} (tests : Tests) (old : TableState) (answer : A) (new : TableState) (x : A) (t : TableState) (r : Result (Unit {0}) Refusal)
    → allowed tests ≡ r → Gives (decided r old answer new) (Ok x) t → IsAccepted A tests answer new x t
accepted_by {A} tests old answer new x t (Err refusal) is gives = (let never : ◌≡◌ {A = Result A Refusal} (Ok x) (Err refusal) = gives.0 in absurd (cc))
accepted_by {A} tests old answer new x t (Ok u) is gives =
    let same : ◌≡◌ {A = Result A Refusal} (Ok x) (Ok answer) = gives.0 in
    record { passed = tests_false tests is; answer = cc; state = gives.1 }

pub accepted : {A : Type 0} (tests : Tests) (old : TableState) (answer : A) (new : TableState) (x : A) (t : TableState) → Gives (outcome tests old answer new) (Ok x) t → IsAccepted A tests answer new x t
accepted tests old answer new x t gives = accepted_by tests old answer new x t (allowed tests) refl gives

refused_by : {A : Type 0} (old : TableState) (answer : A) (new : TableState) (refusal : Refusal) (t : TableState) (r : Result (Unit {0}) Refusal)
    → Gives (decided r old answer new) (Err refusal) t → t ≡ old
refused_by old answer new refusal t (Err other) gives = gives.1
refused_by {A} old answer new refusal t (Ok u) gives = (let never : ◌≡◌ {A = Result A Refusal} (Err refusal) (Ok answer) = gives.0 in absurd (cc))

pub refused : {A : Type 0} (tests : Tests) (old : TableState) (answer : A) (new : TableState) (refusal : Refusal) (t : TableState) → Gives (outcome tests old answer new) (Err refusal) t → t ≡ old
refused tests old answer new refusal t gives = refused_by old answer new refusal t (allowed tests) gives

either_by : {A : Type 0} (old : TableState) (answer : A) (new : TableState) (reply : Result A Refusal) (t : TableState) (r : Result (Unit {0}) Refusal)
    → Gives (decided r old answer new) reply t → (t ≡ old) ⊎ (t ≡ counting new (new.totals.accepted + 1))
either_by old answer new reply t (Err refusal) gives = inl gives.1
either_by old answer new reply t (Ok u) gives = inr gives.1

-- whatever its reply, nothing changed, or the change was made and counted
pub either : {A : Type 0} (tests : Tests) (old : TableState) (answer : A) (new : TableState) (reply : Result A Refusal) (t : TableState) → Gives (outcome tests old answer new) reply t
    → (t ≡ old) ⊎ (t ≡ counting new (new.totals.accepted + 1))
either tests old answer new reply t gives = either_by old answer new reply t (allowed tests) gives
