-- What the manager does. Of each name there is 0, or one more than who owns it.
use Rattle.std.specs.Prelude.{◌≡◌, ◌≢◌, ◌+◌, ℕ, List, slice_index, slice_set}
use Rattle.test_tied.specs.declared.manager.Answer.{Answer}
use Rattle.test_tied.specs.declared.manager.Answer.TheVariants.{Granted, Held, Taken, Given, NotOwner}
use Rattle.test_tied.specs.declared.manager.Asked.{Asked}

abbrev pub AnswersSo : Answer → List ℕ → ℕ → ℕ → List ℕ → Type 0
AnswersSo Granted old at name new = (slice_index old name ≡ 0) × (new ≡ slice_set old name (at + 1))
AnswersSo Held old at name new = (slice_index old name ≡ at + 1) × (new ≡ old)
AnswersSo Taken old at name new = (slice_index old name ≢ 0) × (slice_index old name ≢ at + 1) × (new ≡ old)
AnswersSo Given old at name new = (slice_index old name ≡ at + 1) × (new ≡ slice_set old name 0)
AnswersSo NotOwner old at name new = (slice_index old name ≢ at + 1) × (new ≡ old)

-- so the manager answers this
abbrev pub Asks : List ℕ → Asked → List ℕ → Type 0
Asks old q new = AnswersSo q.answer old q.at q.name new
