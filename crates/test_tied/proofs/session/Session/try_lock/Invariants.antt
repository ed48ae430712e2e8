use Rattle.std.specs.Prelude.{[], ◌∷◌}
use Rattle.test_tied.proofs.session.Session.try_lock.Given as goal

abbrev pub ghosts-put : goal.ghosts-put
ghosts-put g a = record { events = a.about.now ∷ [] }
