use Rattle.std.proofs.Common.{refl, subst}
use Rattle.mm_manager.specs.LockState.{LockState}
use Rattle.mm_manager.specs.Calls.{UnlocksAny}
use Rattle.mm_manager.specs.private.Handed.{seen}
use Rattle.mm_manager.proofs.Lemmas.UnlockAny.{unlocks_any, with_name_of}
use Rattle.mm_manager.proofs.Lemmas.Counted.{unlock_counted}
use Rattle.mm_manager.proofs.Lemmas.CallLabels.{unlock_labels}
use Rattle.mm_manager.proofs.manager.LockManager.unlock_any.Goals as goal

pub returns-clause-unlocks : goal.returns-clause-unlocks
returns-clause-unlocks c =
    let i = c.self.inside in
    let done = c.unlock_any-answer in
    subst (λ (m : LockState). UnlocksAny m c.args.key done.result (seen done.new.self c.is_ok-self-inside.result i.totals i.names_each)) c.self.view_is
    (unlocks_any i.named done.new.self i.tells i.totals i.totals i.names_each c.args.key c.is_at_rest.ensures.laws c.self.invariant.sound.numbered done.result c.is_ok-self-inside.result c.is_ok-self-inside.ensures.value refl done.ensures.distinct done.ensures.handed done.ensures.untouched done.ensures.refused)

pub invariant_of-self : goal.invariant_of-self
invariant_of-self c =
    let i = c.self.inside in
    let done = c.unlock_any-answer in
    let named = with_name_of i.named done.new.self c.args.key done.result c.self.invariant.sound.numbered done.ensures.handed in
    record {
      sound = done.ensures.sound;
      counted = unlock_counted i.totals i.named done.new.self c.args.key c.self.invariant.counted named.0 done.result named.1 done.ensures.untouched;
      labels = unlock_labels i.totals i.named done.new.self c.args.key c.is_at_rest.ensures.laws c.self.invariant.labels named.0 done.result named.1 done.ensures.untouched;
    }
