-- What a run of a service reads and writes.
use Rattle.std.specs.Prelude.{ℕ, List, Result}
use Rattle.mm_lines.specs.declared.fault.Fault.{Fault}
use Rattle.mm_lines.specs.Text as texts
use Rattle.mm_manager.specs.LockState.{LockState}
use Rattle.mm_service.specs.Text.{Answers}

-- 2 to the 64, less two
abbrev pub input_limit : ℕ
input_limit = 18446744073709551614

-- a run from this manager that ended so read these bytes, wrote those, and left that manager
abbrev pub Ends : LockState → Result ℕ Fault → List ℕ → List ℕ → LockState → Type 0
Ends m result read written last = texts.Ends Answers input_limit m result read written last
