use Rattle.mm_tied.specs.Rule.{Noted}
use Rattle.mm_tied.proofs.lock.TiedMutex.put.Given as goal

abbrev pub ghosts-put_told : goal.ghosts-put_told
ghosts-put_told g a = record { tells = λ before now. Noted g.Y.Story.makes (g.Y.Story.state a.self.now.table.shared.key.value) a.pass.now.id g.N.Events.events before now }
