-- Tries one after another.
use Rattle.std.proofs.Common.{◌≡◌, ℕ, List, [], ◌∷◌, ◌++◌, ap, subst}
use Rattle.std.specs.Prelude.{All}
use Rattle.std.proofs.lemmas.List.Elements.{All-push}
use Rattle.mm_tied.specs.History.{Extends}
use Rattle.mm_tied.specs.Mutex.{opened}
use Rattle.mm_tied.proofs.Runs.{goes_on, goes_both}
use Rattle.test_tied.specs.ToyManager.{Asks}
use Rattle.test_tied.specs.declared.manager.Answer.{Answer}
use Rattle.test_tied.specs.declared.manager.Answer.TheVariants.{Taken}
use Rattle.test_tied.specs.declared.manager.Asked.{Asked}
use Rattle.test_tied.specs.declared.session.Session.{Session}
use Rattle.test_tied.specs.Told.{IsSame, Tells, TellsAll, Waits}

abbrev asked : ℕ → ℕ → Answer → Asked
asked at name answer = record { at = at; name = name; answer = answer }

-- so far each was answered `Taken`
abbrev SoFar : Session → ℕ → Session → Type 0
SoFar old name mid = (es : List Asked) × All (λ e. e ≡ asked old.at name Taken) es × TellsAll old es mid

-- one more
one_more : (old mid new : Session) (name : ℕ) (answer : Answer) (es : List Asked) → IsSame old mid → TellsAll old es mid → Tells mid (asked mid.at name answer) new → TellsAll old (es ++ asked old.at name answer ∷ []) new
one_more old mid new name answer es same run told =
    let first = (opened old.locks.now.lock).manager in
    let here = subst (λ (x : List ℕ × ℕ × ℕ). Extends Asks x.0 x.1 mid.pass.me.0 (asked x.2 name answer ∷ []) new.pass.me.0) (λ i. ((opened (same.1 i).now.lock).manager, same.2 i, same.0 i)) told in
    goes_both Asks first old.pass.id old.pass.me.0 mid.pass.me.0 new.pass.me.0 es (asked old.at name answer ∷ []) run (goes_on Asks first old.pass.id mid.pass.me.0 (asked old.at name answer ∷ []) new.pass.me.0 here)

pub once_more : (old mid new : Session) (name : ℕ) (answer : Answer) → IsSame old mid → SoFar old name mid → Tells mid (asked mid.at name answer) new → answer ≡ Taken → SoFar old name new
once_more old mid new name answer same run told taken = (
  run.0 ++ asked old.at name answer ∷ [],
  All-push (λ e. e ≡ asked old.at name Taken) run.0 (asked old.at name answer) run.1 (ap (asked old.at name) taken),
  one_more old mid new name answer run.0 same run.2 told,
)

pub at_last : (old mid new : Session) (name : ℕ) (answer : Answer) → IsSame old mid → SoFar old name mid → Tells mid (asked mid.at name answer) new → Waits old name answer new
at_last old mid new name answer same run told = (run.0, run.1, one_more old mid new name answer run.0 same run.2 told)
