use Rattle.std.proofs.Common.{◌≤◌, List, ℕ, length, sym, subst}
use Rattle.mm_connections.proofs.Lemmas.Short.{word_short}
use Rattle.mm_connections.proofs.names.asked_name.Goals as goal

pub returns-in-Begin-clause-short : goal.returns-in-Begin-clause-short
returns-in-Begin-clause-short c = subst (λ (word : List ℕ). length word ≤ length c.args.about.now) (sym c.word_after.ensures) (word_short c.args.about.now 1 c.args.place)

pub returns-in-LockAll-clause-short : goal.returns-in-LockAll-clause-short
returns-in-LockAll-clause-short c = subst (λ (word : List ℕ). length word ≤ length c.args.about.now) (sym c.word_after-in-LockAll.ensures) (word_short c.args.about.now 2 c.args.place)
