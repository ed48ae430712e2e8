use Rattle.std.proofs.Common.{false, subst}
use Rattle.mm_manager.specs.LockState.{LockState}
use Rattle.mm_manager.specs.Calls.{Cancels}
use Rattle.mm_manager.specs.private.Handed.{seen}
use Rattle.mm_manager.proofs.Lemmas.Told.{cancels}
use Rattle.mm_manager.proofs.Lemmas.Counted.{cancel_counted, counts_fit}
use Rattle.mm_manager.proofs.Lemmas.CallLabels.{cancel_labels}
use Rattle.mm_manager.proofs.manager.LockManager.cancel.Goals as goal

pub returns-clause-cancels : goal.returns-clause-cancels
returns-clause-cancels c =
    let i = c.self.inside in
    let done = c.cancel-answer in
    subst (λ (m : LockState). Cancels m c.args.key done.result (seen done.new.self false c.count_cancel.new.self i.names_each)) c.self.view_is
    (cancels i.named done.new.self i.tells i.totals c.count_cancel.new.self i.names_each c.args.key done.result c.count_cancel.ensures done.ensures.made done.ensures.names done.ensures.table done.ensures.refused)

pub count_cancel-requires : goal.count_cancel-requires
count_cancel-requires c =
    let i = c.self.inside in
    let done = c.cancel-answer in
    counts_fit _ done.new.self.table.table (cancel_counted i.totals i.named done.new.self c.args.key c.self.invariant.counted done.result done.ensures.made done.ensures.table) done.ensures.sound.left

pub invariant_of-self : goal.invariant_of-self
invariant_of-self c =
    let i = c.self.inside in
    let done = c.cancel-answer in
    record {
      sound = done.ensures.sound;
      counted = rw c.count_cancel.ensures (cancel_counted i.totals i.named done.new.self c.args.key c.self.invariant.counted done.result done.ensures.made done.ensures.table);
      labels = rw c.count_cancel.ensures (cancel_labels i.totals i.named done.new.self c.args.key c.self.invariant.labels done.result done.ensures.made done.ensures.table);
    }
