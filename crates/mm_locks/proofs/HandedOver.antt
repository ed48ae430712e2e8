-- Names are handed over one after another.
use Rattle.std.proofs.Common.{ℕ, ◌<◌, List, [], ◌∷◌, ◌++◌, length, take, refl, subst, ap, inl, inr, arith}
use Rattle.mm_desk.specs.Calls.{ListsOwned}
use Rattle.mm_desk.specs.Desk.{DeskState}
use Rattle.mm_locks.specs.declared.hall.TheConstants.{PORTION}
use Rattle.mm_locks.specs.Calls.{HandsEachOver, HandsNumberOver, HandsPortionOver}

-- one more is
pub one_more : (numbers : List ℕ) (old : DeskState) (at : ℕ) (mid : DeskState) (number : ℕ) (new : DeskState)
    → HandsEachOver old at numbers mid → HandsNumberOver mid at number new → HandsEachOver old at (numbers ++ number ∷ []) new
one_more [] old at mid number new over one = (new, subst (λ (d : DeskState). HandsNumberOver d at number new) over one, refl)
one_more (n ∷ ns) old at mid number new over one = (over.0, over.1, one_more ns over.0 at mid number new over.2 one)

-- a whole portion is
pub portion : (old : DeskState) (at room : ℕ) (numbers : List ℕ) (new : DeskState)
    → ListsOwned old at room numbers → PORTION < length numbers → HandsEachOver old at (take PORTION numbers) new → HandsPortionOver old at new
portion old at room numbers new (inl none) many over = (let e = ap length none.1 in absurd (omega arith))
portion old at room numbers new (inr (inl none)) many over = (let e = ap length none.1 in absurd (omega arith))
portion old at room numbers new (inr (inr lists)) many over =
    record { key = lists.0; current = lists.1; numbers = numbers; once = lists.2; owned = lists.3; many = many; over = over }
