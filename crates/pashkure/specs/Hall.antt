-- What a contract sees of a desk with its room.
use Rattle.std.specs.Prelude.{ℕ}
use Rattle.mm_desk.specs.Desk.{DeskState}

-- a desk, and for how many names there is room
pub record HallState : Type 0 where
  pub desk : DeskState
  pub room : ℕ
