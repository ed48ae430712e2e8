use Rattle.std.specs.Prelude.{[], ◌∷◌}
use Rattle.mm_locks.specs.Calls.{done_of}
use Rattle.mm_locks.specs.declared.history.Event.TheVariants as event
use Rattle.mm_locks.proofs.session.Session.take_back.Given as goal

abbrev pub ghosts-put : goal.ghosts-put
ghosts-put g a = record { events = event.TookBack a.about.now.0 a.about.now.1.now (done_of a.about.now.2.now) ∷ [] }
