-- How replies are printed.
use Rattle.std.specs.Prelude.{Option, Some, None, ℕ, List, ◌++◌, codes, decimal}
use Rattle.mm_arena.specs.declared.key.Key.{Key}
use Rattle.mm_arena.specs.Key.{key_text}
use Rattle.mm_label.specs.Label.{label_text}
use Rattle.mm_table.specs.refusal.Refusal.{Refusal}
use Rattle.mm_table.specs.reply.Acquired.{Acquired}
use Rattle.mm_table.specs.reply.Acquired.TheVariants.{Granted, Waits}
use Rattle.mm_table.specs.reply.Released.{Released}
use Rattle.mm_table.specs.reply.Released.TheVariants.{Free, To}
use Rattle.mm_table.specs.reply.Transmitted.{Transmitted}
use Rattle.mm_table.specs.reply.Transmitted.TheVariants.{Raised, Still}
use Rattle.mm_table.specs.reply.Detected.{Detected}
use Rattle.mm_table.specs.reply.Detected.TheVariants.{Deadlock, Standing, Clear}
use Rattle.mm_table.specs.reply.Settled.{Settled}
use Rattle.mm_table.specs.reply.Mode.{Mode}
use Rattle.mm_table.specs.reply.Mode.TheVariants.{Active, Waiting, Convicted}
use Rattle.mm_table.specs.reply.State.{State}
use Rattle.mm_table.specs.reply.Totals.{Totals}
use Rattle.mm_table.specs.Refusal.{number_of, name_of}
use Rattle.mm_script.specs.declared.reply.Reply.{Reply}
use Rattle.mm_script.specs.declared.reply.Reply.TheVariants.{Malformed, NoTable, TableStands, Opened, Begun, Acquired as Acquired_, Released as Released_, Finished, Transmitted as Transmitted_, Detected as Detected_, Aborted, Withdrawn, Settled as Settled_, Read, Owned, Counted, Refused}

abbrev pub acquired_text : Acquired → List ℕ
acquired_text Granted = codes "granted"
acquired_text (Waits holder label) = codes "waits " ++ key_text holder ++ codes " " ++ label_text label

abbrev pub released_text : Released → List ℕ
released_text Free = codes "free"
released_text (To owner) = codes "to " ++ key_text owner

abbrev pub transmitted_text : Transmitted → List ℕ
transmitted_text (Raised label) = codes "raised " ++ label_text label
transmitted_text Still = codes "still"

abbrev pub detected_text : Detected → List ℕ
detected_text (Deadlock label) = codes "deadlock " ++ label_text label
detected_text Standing = codes "standing"
detected_text Clear = codes "clear"

abbrev pub settled_text : Settled → List ℕ
settled_text settled = codes "settled " ++ decimal settled.raises ++ codes " " ++ decimal settled.verdicts

abbrev pub mode_text : Mode → List ℕ
mode_text Active = codes "active"
mode_text (Waiting resource) = codes "waiting " ++ decimal resource
mode_text (Convicted resource) = codes "convicted " ++ decimal resource

abbrev pub state_text : State → List ℕ
state_text state = mode_text state.mode ++ codes " " ++ label_text state.private ++ codes " " ++ label_text state.public

abbrev pub owner_text : Option Key → List ℕ
owner_text None = codes "free"
owner_text (Some owner) = codes "owner " ++ key_text owner

abbrev pub totals_text : Totals → List ℕ
totals_text totals = codes "totals " ++ decimal totals.accepted ++ codes " " ++ decimal totals.verdicts ++ codes " " ++ decimal totals.aborts

abbrev pub refusal_text : Refusal → List ℕ
refusal_text refusal = codes "refused " ++ decimal (number_of refusal) ++ codes " " ++ name_of refusal

abbrev pub reply_text : Reply → List ℕ
reply_text Malformed = codes "malformed"
reply_text NoTable = codes "no table"
reply_text TableStands = codes "table stands"
reply_text Opened = codes "ok"
reply_text (Begun key) = codes "key " ++ key_text key
reply_text (Acquired_ acquired) = acquired_text acquired
reply_text (Released_ released) = released_text released
reply_text Finished = codes "finished"
reply_text (Transmitted_ transmitted) = transmitted_text transmitted
reply_text (Detected_ detected) = detected_text detected
reply_text Aborted = codes "aborted"
reply_text Withdrawn = codes "withdrawn"
reply_text (Settled_ settled) = settled_text settled
reply_text (Read state) = state_text state
reply_text (Owned owner) = owner_text owner
reply_text (Counted totals) = totals_text totals
reply_text (Refused refusal) = refusal_text refusal

-- a reply and its newline
abbrev pub reply_line : Reply → List ℕ
reply_line reply = reply_text reply ++ codes "\n"
