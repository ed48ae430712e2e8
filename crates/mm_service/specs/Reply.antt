-- How replies are printed.
use Rattle.std.specs.Prelude.{Option, Some, None, unwrap_or, ℕ, List, [], ◌++◌, Result, Ok, Err, codes, decimal}
use Rattle.mm_arena.specs.declared.key.Key.{Key}
use Rattle.mm_arena.specs.Key.{key_text}
use Rattle.mm_manager.specs.declared.refusal.Refusal.{Refusal}
use Rattle.mm_manager.specs.declared.refusal.Refusal.TheVariants.{NoTransaction, Waiting, NameEmpty, NameTooLong, NotOwner, NotWaiting, TransactionsFull, NamesFull, TooManyNames, LabelsFull, CountsFull}
use Rattle.mm_manager.specs.declared.reply.TryLock.{TryLock}
use Rattle.mm_manager.specs.declared.reply.TryLock.TheVariants as tried
use Rattle.mm_manager.specs.declared.reply.Status.{Status}
use Rattle.mm_manager.specs.declared.reply.Status.TheVariants as status
use Rattle.mm_manager.specs.declared.totals.Totals.{Totals}
use Rattle.mm_manager.specs.LockState.{LockState}
use Rattle.mm_names.specs.Names.{name_of}

-- a line and its newline
abbrev pub line_text : List ℕ → List ℕ
line_text text = text ++ codes "\n"

abbrev pub refusal_word : Refusal → List ℕ
refusal_word NoTransaction = codes "no-transaction"
refusal_word Waiting = codes "waiting"
refusal_word NameEmpty = codes "name-empty"
refusal_word NameTooLong = codes "name-too-long"
refusal_word NotOwner = codes "not-owner"
refusal_word NotWaiting = codes "not-waiting"
refusal_word TransactionsFull = codes "transactions-full"
refusal_word NamesFull = codes "names-full"
refusal_word TooManyNames = codes "too-many-names"
refusal_word LabelsFull = codes "labels-full"
refusal_word CountsFull = codes "counts-full"

-- what a manager answered, or why it refused
abbrev pub answer_text : {A : Type 0} → (A → List ℕ) → Result A Refusal → List ℕ
answer_text text (Ok answer) = text answer
answer_text text (Err refusal) = codes "refused " ++ refusal_word refusal

abbrev pub begun_text : Key → List ℕ
begun_text key = codes "begun " ++ key_text key

abbrev pub try_text : TryLock → List ℕ
try_text tried.Granted = codes "granted"
try_text tried.Held = codes "held"
try_text (tried.Busy holder) = codes "busy " ++ key_text holder

abbrev pub unlocked_text : Unit {0} → List ℕ
unlocked_text _ = codes "unlocked"

abbrev pub committed_text : Unit {0} → List ℕ
committed_text _ = codes "committed"

abbrev pub abort_text : Unit {0} → List ℕ
abort_text _ = codes "aborted"

abbrev pub cancel_text : Unit {0} → List ℕ
cancel_text _ = codes "cancelled"

abbrev pub owner_text : Option Key → List ℕ
owner_text None = codes "free"
owner_text (Some owner) = codes "owner " ++ key_text owner

-- a wait for a name, and whose that is
abbrev pub wait_text : List ℕ → Key → List ℕ
wait_text name holder = codes " " ++ name ++ codes " " ++ key_text holder

abbrev pub totals_text : Totals → List ℕ
totals_text totals =
    codes "totals " ++ decimal totals.begun ++ codes " " ++ decimal totals.committed ++ codes " " ++ decimal totals.aborted ++ codes " " ++ decimal totals.deadlocks

-- what a request caused for others: this one was granted the name
abbrev pub granted_text : Key → List ℕ → List ℕ
granted_text key name = codes "* granted " ++ key_text key ++ codes " " ++ name

-- a line of the wait-for graph
abbrev pub edge_text : Key → List ℕ → Key → List ℕ
edge_text key name holder = codes "* " ++ key_text key ++ wait_text name holder

-- the name of a number; no bytes if it has none
abbrev pub name_at : LockState → ℕ → List ℕ
name_at m n = unwrap_or (name_of m.names n) []

abbrev pub status_text : LockState → Status → List ℕ
status_text m status.Active = codes "active"
status_text m (status.Waiting n holder) = codes "waiting" ++ wait_text (name_at m n) holder
