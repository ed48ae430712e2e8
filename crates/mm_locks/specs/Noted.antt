-- Whom the end of a transaction grants a name is to be woken.
use Rattle.std.specs.Prelude.{◌≡◌, ◌⊎◌, ℕ, Bool, List, Result, Ok}
use Rattle.mm_desk.specs.Desk.{DeskState}
use Rattle.mm_desk.specs.Calls.{AbortsAt, CommitsAt}
use Rattle.mm_desk.specs.declared.reply.Unlocked.{Unlocked}
use Rattle.mm_desk.specs.declared.reply.Unlocked.TheVariants.{Done}
use Rattle.mm_manager.specs.declared.refusal.Refusal.{Refusal}
use Rattle.mm_locks.specs.Wakes.{Notes, told}

-- the transaction of a worker is aborted, or that is refused, and whoever that grants a name is to be woken
abbrev pub AbortNotes : DeskState → ℕ → List ℕ → List Bool → List ℕ → List Bool → Type 0
AbortNotes old at wakes pending wakes_now pending_now =
    (room : ℕ) × (answer : Result Unlocked Refusal) × (ended : DeskState) × AbortsAt old at room answer ended × Notes (told ended.manager) wakes pending wakes_now pending_now

-- it is committed, and whoever that grants a name is to be woken; or that is refused, and it is aborted so
abbrev pub CommitNotes : DeskState → ℕ → List ℕ → List Bool → List ℕ → List Bool → Type 0
CommitNotes old at wakes pending wakes_now pending_now =
    (room : ℕ) × (answer : Result Unlocked Refusal) × (ended : DeskState) × CommitsAt old at room answer ended
    × (((answer ≡ Ok Done) × Notes (told ended.manager) wakes pending wakes_now pending_now) ⊎ ((answer ≡ Ok Done → ⊥) × AbortNotes ended at wakes pending wakes_now pending_now))
