use Rattle.mm_settle_lemmas.proofs.Lemmas.Shown as Shown
use Rattle.mm_settle_lemmas.proofs.laws.shown_changes_are_told.Goals as goal

pub returns : goal.returns
returns c = Shown.shown_changes_are_told
