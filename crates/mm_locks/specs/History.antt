-- What each event of the history says of the desk behind the lock, before it and after it.
use Rattle.std.specs.Prelude.{◌≡◌, Some}
use Rattle.std.specs.Bool.{OnFalse, OnTrue}
use Rattle.mm_desk.specs.Desk.{DeskState}
use Rattle.mm_locks.specs.Calls.{AsksFor, TriesFor, FindsAt, TakesBack, UnlocksFor, CommitsOrHandsOver, RollsBack, HandsPortionOver}
use Rattle.mm_locks.specs.declared.history.Event.{Event}
use Rattle.mm_locks.specs.declared.history.Event.TheVariants.{Asked, Tried, Looked, TookBack, Unlocked, Ended, RolledBack}

-- the call with this answer leads from this desk to that
abbrev pub Makes : DeskState → Event → DeskState → Type 0
Makes old (Asked at name answer) new = AsksFor old at name answer new
Makes old (Tried at name answer) new = TriesFor old at name answer new
Makes old (Looked at name answer) new = FindsAt old at name answer × (new ≡ old)
Makes old (TookBack at name answer) new = TakesBack old at name answer new
Makes old (Unlocked at name answer) new = UnlocksFor old at name (Some answer) new
Makes old (Ended at answer) new = CommitsOrHandsOver old at answer new
Makes old (RolledBack at is_over) new = OnTrue is_over (RollsBack old at new) × OnFalse is_over (HandsPortionOver old at new)
