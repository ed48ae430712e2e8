use Rattle.std.proofs.Common.{subst}
use Rattle.mm_manager.specs.LockState.{LockState}
use Rattle.mm_manager.specs.Calls.{Commits}
use Rattle.mm_manager.specs.private.Handed.{seen}
use Rattle.mm_manager.proofs.Lemmas.Told.{commits}
use Rattle.mm_manager.proofs.Lemmas.Counted.{commit_counted, counts_fit}
use Rattle.mm_manager.proofs.Lemmas.CallLabels.{commit_labels}
use Rattle.mm_manager.proofs.manager.LockManager.commit.Goals as goal

pub returns-clause-commits : goal.returns-clause-commits
returns-clause-commits c =
    let i = c.self.inside in
    let done = c.commit-answer in
    subst (λ (m : LockState). Commits m c.args.key done.result (seen done.new.self c.is_ok-self-inside.result c.count_commit.new.self i.names_each)) c.self.view_is
    (commits i.named done.new.self i.tells i.totals c.count_commit.new.self i.names_each c.args.key c.is_at_rest.ensures.laws done.result c.is_ok-self-inside.result c.is_ok-self-inside.ensures.value c.count_commit.ensures done.ensures.handed done.ensures.untouched done.ensures.refused)

pub count_commit-requires : goal.count_commit-requires
count_commit-requires c =
    let i = c.self.inside in
    let done = c.commit-answer in
    counts_fit _ done.new.self.table.table (commit_counted i.totals i.named done.new.self c.args.key c.self.invariant.counted done.result done.ensures.handed done.ensures.untouched) done.ensures.sound.left

pub invariant_of-self : goal.invariant_of-self
invariant_of-self c =
    let i = c.self.inside in
    let done = c.commit-answer in
    record {
      sound = done.ensures.sound;
      counted = rw c.count_commit.ensures (commit_counted i.totals i.named done.new.self c.args.key c.self.invariant.counted done.result done.ensures.handed done.ensures.untouched);
      labels = rw c.count_commit.ensures
          (commit_labels i.totals i.named done.new.self c.args.key c.is_at_rest.ensures.laws c.self.invariant.labels done.result done.ensures.handed done.ensures.untouched);
    }
