-- What a run of a script reads and writes.
use Rattle.std.specs.Prelude.{◌≡◌, ℕ, true, List, ◌++◌, Option, None, Result, Err}
use Rattle.mm_lines.specs.declared.fault.Fault.{Fault}
use Rattle.mm_lines.specs.declared.fault.Fault.TheVariants.{Write}
use Rattle.mm_lines.specs.Lines.{lines_of}
use Rattle.mm_lines.specs.Text as texts
use Rattle.mm_table.specs.TableState.{TableState}
use Rattle.mm_script.specs.Text.{Answers}

-- 16 MiB
abbrev pub input_limit : ℕ
input_limit = 16777216

-- these are the replies to all lines, if no table stands at first
abbrev pub AreReplies : List (List ℕ) → List ℕ → Type 0
AreReplies lines out = (malformed : ℕ) × (last : Option TableState) × texts.Text Answers true None lines out malformed last

-- a run that ended so read these bytes and wrote those, if no table stood at first; if a write failed, all lines that were read have replies, of which those
-- bytes are the front
abbrev pub Ends : Result ℕ Fault → List ℕ → List ℕ → Type 0
Ends result read written =
    (last : Option TableState) × texts.Ends Answers input_limit None result read written last
    × (result ≡ Err Write → (lost : List ℕ) × AreReplies (lines_of read) (written ++ lost))
