use Rattle.std.proofs.Common.{false, refl, subst}
use Rattle.mm_manager.specs.LockState.{LockState}
use Rattle.mm_manager.specs.Calls.{AdoptsName}
use Rattle.mm_manager.specs.private.Handed.{seen}
use Rattle.mm_manager.proofs.Lemmas.Told.{adoption_takes}
use Rattle.mm_manager.proofs.Lemmas.Counted.{adoption_counted}
use Rattle.mm_manager.proofs.Lemmas.CallLabels.{adoption_labels}
use Rattle.mm_manager.proofs.manager.LockManager.adopt.Goals as goal

pub returns-clause-adopts : goal.returns-clause-adopts
returns-clause-adopts c =
    let i = c.self.inside in
    let done = c.adopt.ensures in
    let old = seen i.named i.tells i.totals i.names_each in
    let new = seen c.adopt.new.self false i.totals i.names_each in
    subst (λ (m : LockState). AdoptsName m c.args.key c.args.name.now c.adopt.result new) c.self.view_is
    (adoption_takes old new c.args.key c.args.name.now c.adopt.result c.self.invariant.sound.numbered c.is_at_rest.ensures.laws done.adopted done.refused done.table done.names refl refl refl)

pub invariant_of-self : goal.invariant_of-self
invariant_of-self c =
    let i = c.self.inside in
    let now = c.adopt.new in
    let done = c.adopt.ensures in
    record {
      sound = done.sound;
      counted = adoption_counted i.totals i.named.table.table now.self.table.table i.named.names now.self.names c.args.key c.args.name.now c.adopt.result c.self.invariant.counted done.adopted done.table;
      labels = adoption_labels i.totals i.named.table.table now.self.table.table i.named.names now.self.names c.args.key c.args.name.now c.adopt.result c.self.invariant.labels done.adopted done.table;
    }
