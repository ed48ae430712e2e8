use Rattle.std.proofs.Common.{[], inr, refl}
use Rattle.mm_locks.proofs.Telling.{commits_after}
use Rattle.mm_locks.proofs.session.Session.commit.Goals as goal

pub returns-clause-told : goal.returns-clause-told
returns-clause-told g c =
    let old = c.args.self.now in
    inr (commits_after old (record old { worker = c.give_back_all-is_left.new.self }) c.commit_known.new.self [] (c.give_back_all-is_left.ensures.at, refl, refl) refl c.commit_known.result c.commit_known.ensures.told)
