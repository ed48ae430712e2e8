-- What a call tells.
use Rattle.std.specs.Prelude.{◌≡◌, ℕ, List, [], ◌∷◌, ◌++◌, All}
use Rattle.mm_tied.specs.History.{Extends, Goes}
use Rattle.mm_tied.specs.Mutex.{opened}
use Rattle.test_tied.specs.ToyManager.{Asks}
use Rattle.test_tied.specs.declared.manager.Answer.{Answer}
use Rattle.test_tied.specs.declared.manager.Answer.TheVariants.{Taken}
use Rattle.test_tied.specs.declared.manager.Asked.{Asked}
use Rattle.test_tied.specs.declared.session.Session.{Session}

-- of the same transaction, locks and pass
abbrev pub IsSame : Session → Session → Type 0
IsSame old new = (new.at ≡ old.at) × (new.locks ≡ old.locks) × (new.pass.id ≡ old.pass.id)

-- the session's history is extended by this event alone
abbrev pub Tells : Session → Asked → Session → Type 0
Tells old e new = Extends Asks ((opened old.locks.now.lock).manager) old.pass.id old.pass.me.0 (e ∷ []) new.pass.me.0

-- the session's history has these events more, and no others of the session's
abbrev pub TellsAll : Session → List Asked → Session → Type 0
TellsAll old es new = Goes Asks ((opened old.locks.now.lock).manager) old.pass.id old.pass.me.0 es new.pass.me.0

-- it was answered `Taken` some times, and then this
abbrev pub Waits : Session → ℕ → Answer → Session → Type 0
Waits old name answer new = (es : List Asked) × All (λ e. e ≡ record { at = old.at; name = name; answer = Taken }) es × TellsAll old (es ++ record { at = old.at; name = name; answer = answer } ∷ []) new
