-- What is still to be stored on the board after an event.
use Rattle.std.specs.Prelude.{ℕ, ◌≡◌, ◌<◌, List, length, None, IsTrue}
use Rattle.mm_board.specs.declared.views.Published.{Published}
use Rattle.mm_board.specs.Views.{current_label, current_holder}
use Rattle.mm_label.specs.Label.{label_le}
use Rattle.mm_lists.specs.Members.{Among}
use Rattle.mm_rules.specs.TableState.{TableState, public_of, holder_of, wait_of}
use Rattle.mm_shared.specs.Published.{IsShown}

-- the board shows the table but for these processes, and no label there is above the table's
pub record IsToPublish (ns : List ℕ) (p : Published) (s : TableState) : Type 0 where
  pub histories : length p.histories ≡ s.config.processes
  pub holders : length p.holders ≡ s.config.processes
  pub within : (n : ℕ) → Among n ns → n < s.config.processes
  pub below : (n : ℕ) → n < s.config.processes → IsTrue (label_le (current_label p n) (public_of s n))
  pub others : (n : ℕ) → n < s.config.processes → (Among n ns → ⊥) → IsShown p s n

-- each process has its holder on the board
abbrev pub HoldersAreShown : Published → TableState → Type 0
HoldersAreShown p s = (n : ℕ) → n < s.config.processes → current_holder p n ≡ holder_of s n

-- each process that waits for nothing has its label on the board
abbrev pub IdleAreShown : Published → TableState → Type 0
IdleAreShown p s = (n : ℕ) → n < s.config.processes → wait_of s n ≡ None → current_label p n ≡ public_of s n
