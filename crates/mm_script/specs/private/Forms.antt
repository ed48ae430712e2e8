-- What the contracts of private functions say of the forms of calls.
use Rattle.std.specs.Prelude.{◌≡◌, ℕ, List, Option, option_map}
use Rattle.mm_arena.specs.declared.key.Key.{Key}
use Rattle.mm_table.specs.config.Config.{Config}
use Rattle.mm_lines.specs.Words.{◌>>=◌}
use Rattle.mm_script.specs.Forms.{table_call, alone, with_key, with_key_and_resource, with_resource}
use Rattle.mm_script.specs.declared.line.Call.{Call}
use Rattle.mm_script.specs.declared.line.Header.{Header}
use Rattle.mm_script.specs.declared.line.Call.TheVariants as calls
use Rattle.mm_script.specs.declared.forms.Form.{Form}
use Rattle.mm_script.specs.declared.forms.Form.TheVariants as forms
use Rattle.mm_script.specs.declared.forms.KeyCall.{KeyCall}
use Rattle.mm_script.specs.declared.forms.KeyCall.TheVariants as key_calls
use Rattle.mm_script.specs.declared.forms.ResourceCall.{ResourceCall}
use Rattle.mm_script.specs.declared.forms.ResourceCall.TheVariants as resource_calls

abbrev pub call_of_key : KeyCall → Key → Call
call_of_key key_calls.Finish = calls.Finish
call_of_key key_calls.Transmit = calls.Transmit
call_of_key key_calls.Detect = calls.Detect
call_of_key key_calls.Abort = calls.Abort
call_of_key key_calls.GiveUp = calls.GiveUp
call_of_key key_calls.State = calls.State

abbrev pub call_of_key_and_resource : ResourceCall → Key → ℕ → Call
call_of_key_and_resource resource_calls.Acquire = calls.Acquire
call_of_key_and_resource resource_calls.Release = calls.Release

-- the call that a form makes of the words after its word
abbrev pub call_by : Form → List (List ℕ) → Option Call
call_by (forms.Table header) = table_call header
call_by (forms.Alone call) = alone call
call_by (forms.Key call) = with_key (call_of_key call)
call_by (forms.KeyAndResource call) = with_key_and_resource (call_of_key_and_resource call)
call_by forms.Owner = with_resource calls.Owner

-- the call that those words make of which a front was read to this call, if to any, and these are left
abbrev pub call_before : Option Call → List (List ℕ) → Option Call
call_before read left = do
  call ← read
  alone call left

-- the same if the front was read to the numbers of a table
abbrev pub ReadsConfig : List (List ℕ) → Option Config → List (List ℕ) → Type 0
ReadsConfig words read left = (header : Header) → table_call header words ≡ call_before (option_map (calls.Table header) read) left
