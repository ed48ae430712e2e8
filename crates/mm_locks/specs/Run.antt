-- What work that is run again may return, and what an error may come from.
use Rattle.std.specs.Prelude.{◌≡◌, ◌⊎◌, true, Result, Err}
use Rattle.std.specs.Fn.{Mut, Called}
use Rattle.mm_locks.specs.Errors.{of_commit}
use Rattle.mm_locks.specs.declared.error.LockError.{LockError}

-- a call of the work, whatever it has come to be and is lent, may return this
pub record MayReturn {F A B R : Type 0} (work : Mut F A (R × B)) (r : R) : Type 0 where
  pub before : F
  pub lent : A
  pub after : F
  pub left : B
  pub called : Called work before lent (r, left) after

-- the error is made of a refusal of `commit`
abbrev pub IsRefused : {E : Type 0} → (LockError → E → Type 0) → E → Type 0
IsRefused from_gives error = (refused : LockError) × (of_commit refused ≡ true) × from_gives refused error

-- the error is one that the work returned, or it is made of a refusal of `commit`
abbrev pub IsOfRun : {F A B T E : Type 0} → Mut F A (Result T E × B) → (LockError → E → Type 0) → E → Type 0
IsOfRun work from_gives error = MayReturn work (Err error) ⊎ IsRefused from_gives error
