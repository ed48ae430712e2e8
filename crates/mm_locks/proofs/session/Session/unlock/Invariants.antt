use Rattle.mm_locks.specs.Told.{unlocked}
use Rattle.mm_locks.proofs.session.Session.unlock.Given as goal

abbrev pub ghosts-put : goal.ghosts-put
ghosts-put g a = record { events = unlocked a.about.now.0 a.about.now.1.now a.about.now.2.now }
