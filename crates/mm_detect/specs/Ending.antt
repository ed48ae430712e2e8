-- The status that the program exits with, and the fault that it tells.
use Rattle.std.specs.Prelude.{ℕ, zero, suc, Option, None, Result, Ok, Err}
use Rattle.std.specs.Result.{result_err}
use Rattle.mm_lines.specs.declared.fault.Fault.{Fault}
use Rattle.mm_detect.specs.declared.ending.Ending.{Ending}
use Rattle.mm_detect.specs.declared.ending.Ending.TheVariants.{Ran, Helped, Wrong, Worked, Refused}

-- after a script of which this many lines are malformed, or which met a fault
abbrev pub status_of : Result ℕ Fault → ℕ
status_of (Ok zero) = 0
status_of (Ok (suc others)) = 1
status_of (Err fault) = 3

abbrev pub ending_status : Ending → ℕ
ending_status (Ran outcome) = status_of outcome
ending_status (Helped (Ok printed)) = 0
ending_status Wrong = 2
ending_status (Worked (Ok status)) = status
ending_status (Refused (Ok printed)) = 4
ending_status (Helped (Err fault)) = 3
ending_status (Refused (Err fault)) = 3
ending_status (Worked (Err fault)) = 3

-- what standard error tells beside clap's text
abbrev pub fault_told : Ending → Option Fault
fault_told (Ran outcome) = result_err outcome
fault_told (Helped told) = result_err told
fault_told Wrong = None
fault_told (Worked told) = result_err told
fault_told (Refused told) = result_err told
