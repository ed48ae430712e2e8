use Rattle.std.specs.Prelude.{[], ◌∷◌}
use Rattle.mm_locks.specs.declared.history.Event.TheVariants as event
use Rattle.mm_locks.proofs.session.Session.commit_portion.Given as goal

abbrev pub ghosts-put : goal.ghosts-put
ghosts-put g a = record { events = event.Ended a.about.now.0 a.about.now.1.now ∷ [] }
