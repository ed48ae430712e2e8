-- How what is asked for ends.
use Rattle.std.specs.Prelude.{⊤}
use Rattle.mm_command.specs.declared.command_line.Request.{Request}
use Rattle.mm_command.specs.declared.command_line.Request.TheVariants as request
use Rattle.mm_detect.specs.declared.ending.Ending.{Ending}
use Rattle.mm_detect.specs.declared.ending.Ending.TheVariants as ending

-- a lock service is run, or memory for it is refused; or it has no seed
abbrev pub EndsService : Ending → Type 0
EndsService (ending.Ran lines) = ⊤
EndsService (ending.Refused printed) = ⊤
EndsService ending.Wrong = ⊤
EndsService _ = ⊥

-- a script is explained, or memory for that is refused; or it has no such line
abbrev pub EndsExplain : Ending → Type 0
EndsExplain (ending.Ran lines) = ⊤
EndsExplain (ending.Refused printed) = ⊤
EndsExplain ending.Wrong = ⊤
EndsExplain _ = ⊥

-- a workload is run, or is refused; or its report would replace it
abbrev pub EndsThreads : Ending → Type 0
EndsThreads (ending.Worked status) = ⊤
EndsThreads ending.Wrong = ⊤
EndsThreads _ = ⊥

-- each request has its kinds of end
abbrev pub IsEndOf : Request → Ending → Type 0
IsEndOf (request.Script verbose) (ending.Ran lines) = ⊤
IsEndOf (request.Threads file report verbose) end = EndsThreads end
IsEndOf (request.Storm options report verbose) (ending.Worked status) = ⊤
IsEndOf (request.Locks options) end = EndsService end
IsEndOf (request.Explain options) end = EndsExplain end
IsEndOf (request.Help text) (ending.Helped printed) = ⊤
IsEndOf (request.Wrong text) ending.Wrong = ⊤
IsEndOf request.Memory (ending.Refused printed) = ⊤
IsEndOf _ _ = ⊥
