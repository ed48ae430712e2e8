-- A handle's parts own what a box of a desk owns.
use mir.Syntax.{impl, tnil, dnil}
use mathlib.Core.List.{[]}
use denote.Signature.{Slot, plain}
use denote.RattleType.{RattleType}
use Rattle.std_alloc.proofs.BoxSteps.Form.{Bx}
use Rattle.std_heap.specs.contracts.Global as Heap
use Rattle.std_heap.specs.contracts.GlobalAllocator.TheImpl.{ghosts, dict}
use Rattle.std_heap.proofs.Global.TheLaws as heap
use Rattle.pashkure.specs.contracts.hall.Hall as Hall
use Rattle.pashkure.proofs.hall.Hall.TheLaws as hall
use Rattle.pashkure.specs.contracts.parts.Parts as Parts
use Rattle.pashkure.specs.contracts.desk_handle.DeskHandle as Handle

abbrev pub E : Bx
E = record { row = Hall.the_row; laws = hall.the_row_laws; al = record { row = Heap.the_row; laws = heap.the_row_laws; g = ghosts; d = dict; drops = impl [] tnil dnil } }

abbrev pub PartsRow : RattleType
PartsRow = Parts.the_row Hall.the_row Heap.the_row ghosts

abbrev pub FromParts : Slot 0
FromParts = plain (λ _. PartsRow)

abbrev pub FromHandle : Slot 0
FromHandle = plain (λ _. Handle.the_row)

abbrev pub FromHeap : Slot 0
FromHeap = plain (λ _. Heap.the_row)
