-- What a handle owns: an open one what a box of a lock manager owns, and another one nothing.
use Rattle.std.specs.Prelude.{ℕ, Bool, true, false}
use base.Fml.{Fml, ftrue}
use base.Stored.{Coded}
use denote.RawPtr.{Ptr}
use mir.Syntax.{Ty}
use Rattle.std_alloc.specs.Box.Ownership.{box_owns}
use Rattle.std_heap.specs.declared.Global.{Global}
use Rattle.std_heap.specs.contracts.GlobalAllocator.TheImpl.{ghosts}
use Rattle.mm_manager.specs.LockState.{LockState}
use Rattle.mm_manager.specs.contracts.manager.LockManager.{the_row}

-- the word of an open handle
abbrev pub open_word : ℕ
open_word = 8097880497305514597

-- the allocator of C's heap, which is but one
abbrev pub heap : Global
heap = record { memory = record { seal = tt } }

abbrev pub chunk : Ty → Ptr → Fml
chunk = ghosts.dealloc_token heap

abbrev pub boxed : Ptr → LockState → Fml
boxed = box_owns chunk the_row

abbrev pub owned_if : Bool → Ptr → LockState → Fml
owned_if true p m = boxed p m
owned_if false p m = ftrue

abbrev pub state_coded : Coded LockState
state_coded = the_row.coded
