use Rattle.std.proofs.Common.{◌∙◌, ap, subst}
use Rattle.mm_manager.specs.LockState.{LockState}
use Rattle.pashkure.specs.Hall.{HallState}
use Rattle.pashkure.specs.Reads.{TellsOwner}
use Rattle.pashkure.proofs.Behind.{kept_desk, lent_hall}
use Rattle.pashkure.proofs.desk_reads.pashkure_desk_owner.Goals as goal

pub returns-clause-same : goal.returns-clause-same
returns-clause-same c = kept_desk _ _ _ c.is_open.ensures.same c.hall.ensures.value

pub returns-clause-owner : goal.returns-clause-owner
returns-clause-owner c = λ _.
    let state = c.manager-2.ensures ∙ ap (λ (h : HallState). h.desk.manager) (c.manager.view_is ∙ lent_hall _ _ _ c.is_open.ensures.same c.hall.ensures.value) in
    subst (λ (m : LockState). TellsOwner m c.args.name.now c.args.owner.now c.tell_owner.result c.tell_owner.new.owner) state c.tell_owner.ensures
