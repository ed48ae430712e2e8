use Rattle.std.proofs.Common.{subst}
use Rattle.mm_manager.specs.LockState.{LockState}
use Rattle.pashkure.specs.Reads.{TellsOwner}
use Rattle.pashkure.proofs.Kept.{kept, lent}
use Rattle.pashkure.proofs.reads.pashkure_owner.Goals as goal

pub returns-clause-same : goal.returns-clause-same
returns-clause-same c = kept _ _ _ c.is_open.ensures.same c.manager.ensures.value

pub returns-clause-owner : goal.returns-clause-owner
returns-clause-owner c = λ _.
    subst (λ (m : LockState). TellsOwner m c.args.name.now c.args.owner.now c.tell_owner.result c.tell_owner.new.owner) (lent _ _ _ c.is_open.ensures.same c.manager.ensures.value) c.tell_owner.ensures
