-- What a handle of a desk owns: an open one what a box of a desk with its room owns, and another one nothing.
use Rattle.std.specs.Prelude.{ℕ, Bool, true, false}
use base.Fml.{Fml, ftrue}
use base.Stored.{Coded}
use denote.RawPtr.{Ptr}
use Rattle.std_alloc.specs.Box.Ownership.{box_owns}
use Rattle.pashkure.specs.Hall.{HallState}
use Rattle.pashkure.specs.contracts.hall.Hall.{the_row}
use Rattle.pashkure.specs.Owning.{chunk}

-- the word of an open handle
abbrev pub desk_word : ℕ
desk_word = 8097880497187025771

abbrev pub boxed : Ptr → HallState → Fml
boxed = box_owns chunk the_row

abbrev pub owned_if : Bool → Ptr → HallState → Fml
owned_if true p m = boxed p m
owned_if false p m = ftrue

abbrev pub state_coded : Coded HallState
state_coded = the_row.coded
