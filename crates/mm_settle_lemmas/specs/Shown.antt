-- What a process shows to all, its public label and its holder, and what each event changes of it.
use Rattle.std.specs.Prelude.{◌≡◌, ◌<◌, ℕ, List, [], ◌∷◌, Option, Some, None, Result, Ok, Err}
use Rattle.mm_label.specs.Label.{Label}
use Rattle.mm_lists.specs.Members.{Among}
use Rattle.mm_rules.specs.declared.refusal.Refusal.{Refusal}
use Rattle.mm_rules.specs.declared.reply.Acquired.TheVariants.{Granted, Waits}
use Rattle.mm_rules.specs.declared.reply.Transmitted.TheVariants.{Raised, Still}
use Rattle.mm_rules.specs.TableState.{TableState, public_of, holder_of, wait_of}
use Rattle.mm_rules.specs.Event.{Event, Begin, Acquire, Release, Finish, Transmit, Detect, Abort, Settle, GiveUp, Answer, Step}
use Rattle.mm_rules.specs.Laws.{Laws}
use Rattle.mm_settle_lemmas.specs.Touched.{changed_processes}

-- process n shows what it showed
pub record ShowsTheSame (s t : TableState) (n : ℕ) : Type 0 where
  pub public : public_of t n ≡ public_of s n
  pub holder : holder_of t n ≡ holder_of s n

-- those that wait for nothing show the label that they showed
abbrev pub IdleShowTheSame : TableState → TableState → Type 0
IdleShowTheSame s t = (n : ℕ) → wait_of t n ≡ None → public_of t n ≡ public_of s n

-- process n is one of the table's, and shows this label and this holder
pub record Shows (s : TableState) (n : ℕ) (l : Label) (h : Option ℕ) : Type 0 where
  pub within : n < s.config.processes
  pub public : public_of s n ≡ l
  pub holder : holder_of s n ≡ h

-- those that may show something else after an event, by its reply: nobody, the caller's process alone, or some of the changed
abbrev pub shown_anew : (e : Event) → Result (Answer e) Refusal → TableState → TableState → List ℕ
shown_anew e (Err refusal) s t = []
shown_anew Begin (Ok key) s t = []
shown_anew (Acquire k r) (Ok Granted) s t = []
shown_anew (Acquire k r) (Ok (Waits h label)) s t = k.process ∷ []
shown_anew (Transmit k) (Ok (Raised label)) s t = k.process ∷ []
shown_anew (Transmit k) (Ok Still) s t = []
shown_anew (Detect k) (Ok answer) s t = []
shown_anew (GiveUp k) (Ok answer) s t = k.process ∷ []
shown_anew e (Ok answer) s t = changed_processes s t

-- what the processes show after a call. After a wait: the label and the holder of the answer. After a raise: the label of the answer, and the
-- same holder. After a give-up: the same label, and no holder. After an end: the same label for each process that waits for nothing then. After
-- a settle: the same holder for each
abbrev pub ShownBy : (e : Event) → Result (Answer e) Refusal → TableState → TableState → Type 0
ShownBy e (Err refusal) s t = Unit {0}
ShownBy (Acquire k r) (Ok (Waits h label)) s t = Shows t k.process label (Some h.process)
ShownBy (Transmit k) (Ok (Raised label)) s t = Shows t k.process label (holder_of s k.process)
ShownBy (GiveUp k) (Ok answer) s t = Shows t k.process (public_of s k.process) None
ShownBy (Release k r) (Ok answer) s t = IdleShowTheSame s t
ShownBy (Finish k) (Ok answer) s t = IdleShowTheSame s t
ShownBy (Abort k) (Ok answer) s t = IdleShowTheSame s t
ShownBy Settle (Ok answer) s t = (n : ℕ) → holder_of t n ≡ holder_of s n
ShownBy e (Ok answer) s t = Unit {0}

-- what an event changes of what processes show
pub record ChangesShown (e : Event) (reply : Result (Answer e) Refusal) (s t : TableState) : Type 0 where
  pub others : (n : ℕ) → n < s.config.processes → (Among n (shown_anew e reply s t) → ⊥) → ShowsTheSame s t n
  pub within : (n : ℕ) → Among n (shown_anew e reply s t) → n < s.config.processes
  pub shown : ShownBy e reply s t

-- so it is with every event
abbrev pub ShownChangesAreTold : Type 0
ShownChangesAreTold = (e : Event) (old new : TableState) (reply : Result (Answer e) Refusal) → Step e old reply new → Laws old → ChangesShown e reply old new
