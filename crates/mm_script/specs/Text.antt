-- What a script is answered.
use Rattle.std.specs.Prelude.{◌≡◌, ℕ, ◌≤◌, ◌<◌, ◌⊎◌, List, [], Option, Some, None, Result, Ok, Err}
use Rattle.std.specs.Result.{result_ok}
use Rattle.mm_limits.specs.declared.TheConstants.{MAX_PROCESSES}
use Rattle.mm_table.specs.config.Config.{Config}
use Rattle.mm_table.specs.refusal.Refusal.{Refusal}
use Rattle.mm_table.specs.refusal.Refusal.TheVariants.{BadConfig}
use Rattle.mm_table.specs.TableState.{TableState}
use Rattle.mm_table.specs.Event.{Event, Answer, Step, Opens, state_of, owner_told}
use Rattle.mm_table.specs.Event as events
use Rattle.mm_script.specs.declared.line.Line.{Line}
use Rattle.mm_script.specs.declared.line.Line.TheVariants as kind
use Rattle.mm_script.specs.declared.line.Call.{Call}
use Rattle.mm_script.specs.declared.line.Call.TheVariants as calls
use Rattle.mm_script.specs.declared.line.Header.{Header}
use Rattle.mm_script.specs.declared.line.Header.TheVariants as headers
use Rattle.mm_script.specs.declared.reply.Reply.{Reply}
use Rattle.mm_script.specs.declared.reply.Reply.TheVariants as replies
use Rattle.mm_script.specs.Line.{line_of}
use Rattle.mm_script.specs.Reply.{reply_line}

-- the reply to what a table answered
abbrev pub reply_to : {A : Type 0} → (A → Reply) → Result A Refusal → Reply
reply_to accepted (Ok answer) = accepted answer
reply_to accepted (Err refusal) = replies.Refused refusal

-- the table makes a step by this event, and the reply is what it answers
abbrev pub Makes : (e : Event) → (Answer e → Reply) → TableState → Reply → Option TableState → Type 0
Makes e accepted old reply new = (answer : Result (Answer e) Refusal) × (after : TableState) × Step e old answer after × (reply ≡ reply_to accepted answer) × (new ≡ Some after)

-- the reply to a call while a table stands, and the table after it
abbrev pub RepliesWithTable : Call → TableState → Reply → Option TableState → Type 0
RepliesWithTable (calls.Table header config) old reply new = (reply ≡ replies.TableStands) × (new ≡ Some old)
RepliesWithTable calls.Begin old reply new = Makes events.Begin replies.Begun old reply new
RepliesWithTable (calls.Acquire key resource) old reply new = Makes (events.Acquire key resource) replies.Acquired old reply new
RepliesWithTable (calls.Release key resource) old reply new = Makes (events.Release key resource) replies.Released old reply new
RepliesWithTable (calls.Finish key) old reply new = Makes (events.Finish key) (λ _. replies.Finished) old reply new
RepliesWithTable (calls.Transmit key) old reply new = Makes (events.Transmit key) replies.Transmitted old reply new
RepliesWithTable (calls.Detect key) old reply new = Makes (events.Detect key) replies.Detected old reply new
RepliesWithTable (calls.Abort key) old reply new = Makes (events.Abort key) (λ _. replies.Aborted) old reply new
RepliesWithTable (calls.GiveUp key) old reply new = Makes (events.GiveUp key) (λ _. replies.Withdrawn) old reply new
RepliesWithTable calls.Settle old reply new = Makes events.Settle replies.Settled old reply new
RepliesWithTable (calls.State key) old reply new = (reply ≡ reply_to replies.Read (state_of old key)) × (new ≡ Some old)
RepliesWithTable (calls.Owner resource) old reply new = (reply ≡ reply_to replies.Owned (owner_told old resource)) × (new ≡ Some old)
RepliesWithTable calls.Totals old reply new = (reply ≡ replies.Counted old.totals) × (new ≡ Some old)

-- how many processes a header allows
abbrev pub most_processes : Header → ℕ
most_processes headers.Table = 4096
most_processes headers.Table2 = MAX_PROCESSES

-- what opening a table by a header comes to: a bad configuration if there are more processes than it allows, and else what opening one comes to
abbrev pub OpensBy : Header → Config → Result TableState Refusal → Type 0
OpensBy header c opened = ((most_processes header < c.processes) × (opened ≡ Err BadConfig)) ⊎ ((c.processes ≤ most_processes header) × Opens c opened)

-- the same while none stands; a header that is refused leaves none
abbrev pub RepliesWithNone : Call → Reply → Option TableState → Type 0
RepliesWithNone (calls.Table header config) reply new = (opened : Result TableState Refusal) × OpensBy header config opened × (reply ≡ reply_to (λ _. replies.Opened) opened) × (new ≡ result_ok opened)
RepliesWithNone _ reply new = (reply ≡ replies.NoTable) × (new ≡ None)

abbrev pub Replies : Call → Option TableState → Reply → Option TableState → Type 0
Replies call None = RepliesWithNone call
Replies call (Some old) = RepliesWithTable call old

-- the bytes that a line is answered from a table or none, 1 if it is malformed, and the table after it
abbrev pub AnswersLine : Line → Option TableState → List ℕ → ℕ → Option TableState → Type 0
AnswersLine kind.Silent old out malformed new = (out ≡ []) × (malformed ≡ 0) × (new ≡ old)
AnswersLine kind.Malformed old out malformed new = (out ≡ reply_line replies.Malformed) × (malformed ≡ 1) × (new ≡ old)
AnswersLine (kind.Call call) old out malformed new = (reply : Reply) × Replies call old reply new × (out ≡ reply_line reply) × (malformed ≡ 0)

-- the same of the bytes of a line
abbrev pub Answers : Option TableState → List ℕ → List ℕ → ℕ → Option TableState → Type 0
Answers old line out malformed new = AnswersLine (line_of line) old out malformed new
