-- What comes of an attempt, by what the work may return.
use Rattle.std.proofs.Common.{◌≡◌, ◌⊎◌, Result, Ok, Err, IfOk, inl, inr, subst}
use Rattle.std.specs.Prelude.{IfErr}
use Rattle.std.specs.Fn.{Mut, Called}
use Rattle.mm_locks.specs.Run.{IsOfRun, IsRefused, MayReturn}
use Rattle.mm_locks.specs.declared.error.LockError.{LockError}

-- what a call returned may be returned
pub returned : {F A B R : Type 0} (work : Mut F A (R × B)) {before after : F} {lent : A} {left : B} (r : R) → Called work before lent (r, left) after → MayReturn work r
returned work {before = before} {after = after} {lent = lent} {left = left} r called = record { before = before; lent = lent; after = after; left = left; called = called }

module _ {F A B T E : Type 0} (work : Mut F A (Result T E × B)) (gives : LockError → E → Type 0) (answer : Result T E) (may : MayReturn work answer) where
  pub its_value : (r : Result T E) → IfOk r (λ value. answer ≡ Ok value) → IfOk r (λ value. MayReturn work (Ok value))
  its_value (Ok value) is = subst (λ a. MayReturn work a) is may
  its_value (Err error) is = tt

  pub its_error : (r : Result T E) → IfErr r (λ error. (answer ≡ Err error) ⊎ IsRefused gives error) → IfErr r (IsOfRun work gives)
  its_error (Ok value) is = tt
  its_error (Err error) (inl is) = inl (subst (λ a. MayReturn work a) is may)
  its_error (Err error) (inr refused) = inr refused
