use Rattle.std.specs.Prelude.{◌≡◌, List, All}
use Rattle.test_tied.specs.Told.{IsSame, TellsAll}
use Rattle.test_tied.specs.declared.manager.Answer.TheVariants.{Taken}
use Rattle.test_tied.specs.declared.manager.Asked.{Asked}
use Rattle.test_tied.proofs.session.Session.lock.Given as goal

abbrev pub invariant-loop : goal.invariant-loop
invariant-loop g l =
    (goal.iterator-loop g).can_next l.iterator' × (goal.iterator-loop g).is_finite l.iterator'
    × IsSame l.fn.self l.self
    × ((es : List Asked) × All (λ e. e ≡ record { at = l.fn.self.at; name = l.fn.name; answer = Taken }) es × TellsAll l.fn.self es l.self)
