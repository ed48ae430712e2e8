use Rattle.std.proofs.Common.{subst}
use Rattle.mm_manager.specs.LockState.{LockState}
use Rattle.mm_manager.specs.Calls.{Aborts}
use Rattle.mm_manager.specs.private.Handed.{seen}
use Rattle.mm_manager.proofs.Lemmas.Told.{aborts}
use Rattle.mm_manager.proofs.Lemmas.Counted.{abort_counted, counts_fit}
use Rattle.mm_manager.proofs.Lemmas.CallLabels.{abort_labels}
use Rattle.mm_manager.proofs.manager.LockManager.abort.Goals as goal

pub returns-clause-aborts : goal.returns-clause-aborts
returns-clause-aborts c =
    let i = c.self.inside in
    let done = c.abort-answer in
    subst (λ (m : LockState). Aborts m c.args.key done.result (seen done.new.self c.is_ok-self-inside.result c.count_abort.new.self i.names_each)) c.self.view_is
    (aborts i.named done.new.self i.tells i.totals c.count_abort.new.self i.names_each c.args.key c.is_at_rest.ensures.laws done.result c.is_ok-self-inside.result c.is_ok-self-inside.ensures.value c.count_abort.ensures done.ensures.ends done.ensures.untouched done.ensures.refused)

pub count_abort-requires : goal.count_abort-requires
count_abort-requires c =
    let i = c.self.inside in
    let done = c.abort-answer in
    counts_fit _ done.new.self.table.table (abort_counted i.totals i.named done.new.self c.args.key c.self.invariant.counted done.result done.ensures.ends done.ensures.untouched) done.ensures.sound.left

pub invariant_of-self : goal.invariant_of-self
invariant_of-self c =
    let i = c.self.inside in
    let done = c.abort-answer in
    record {
      sound = done.ensures.sound;
      counted = rw c.count_abort.ensures (abort_counted i.totals i.named done.new.self c.args.key c.self.invariant.counted done.result done.ensures.ends done.ensures.untouched);
      labels = rw c.count_abort.ensures
          (abort_labels i.totals i.named done.new.self c.args.key c.is_at_rest.ensures.laws c.self.invariant.labels done.result done.ensures.ends done.ensures.untouched);
    }
