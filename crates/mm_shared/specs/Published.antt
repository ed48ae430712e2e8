-- What the board shows of the table behind the lock.
use Rattle.std.specs.Prelude.{ℕ, ◌≡◌, ◌<◌, ◌++◌, length, replicate}
use Rattle.mm_board.specs.declared.views.Published.{Published}
use Rattle.mm_board.specs.Views.{history, current_label, current_holder}
use Rattle.mm_rules.specs.TableState.{TableState, public_of, holder_of}
use Rattle.mm_rules.specs.declared.reply.Acquired.{Acquired}
use Rattle.mm_rules.specs.declared.reply.Acquired.TheVariants.{Granted, Waits}

-- the board shows of process n its public label and its holder
pub record IsShown (p : Published) (s : TableState) (n : ℕ) : Type 0 where
  pub label : current_label p n ≡ public_of s n
  pub holder : current_holder p n ≡ holder_of s n

-- the board has a label and a holder for each process of the table, and shows the table's
pub record IsPublished (p : Published) (s : TableState) : Type 0 where
  pub histories : length p.histories ≡ s.config.processes
  pub holders : length p.holders ≡ s.config.processes
  pub shown : (n : ℕ) → n < s.config.processes → IsShown p s n

-- of each process nothing was stored but the public label that it has at s, any number of times
abbrev pub AppendsOnly : Published → Published → TableState → Type 0
AppendsOnly before after s = (n : ℕ) → (times : ℕ) × (history after n ≡ history before n ++ replicate times (public_of s n))

-- how many holders an acquire stores: one if it waits
abbrev pub holders_of : Acquired → ℕ
holders_of Granted = 0
holders_of (Waits holder label) = 1
