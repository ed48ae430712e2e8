use Rattle.std.specs.Prelude.{[], ◌∷◌}
use Rattle.mm_locks.specs.declared.history.Event.TheVariants as event
use Rattle.mm_locks.proofs.session.Session.roll_back_portion.Given as goal

abbrev pub ghosts-put : goal.ghosts-put
ghosts-put g a = record { events = event.RolledBack a.about.now.0 a.about.now.1 ∷ [] }
