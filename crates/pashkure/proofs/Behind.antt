-- A handle of a desk or of a worker that was only read, and what lies behind one.
use Rattle.std.proofs.Common.{◌≡◌, ◌∙◌, ap}
use Rattle.mm_thin.specs.Parts.{WorkerState}
use Rattle.pashkure.specs.Hall.{HallState}
use Rattle.pashkure.specs.DeskLending.{with_state as with_hall}
use Rattle.pashkure.specs.WorkerLending.{with_state as with_worker}
use Rattle.pashkure.specs.declared.desk_handle.DeskHandle.{DeskHandle}
use Rattle.pashkure.specs.declared.worker_handle.WorkerHandle.{WorkerHandle}

-- the desk that was lent is the handle's
pub lent_hall : (old mid : DeskHandle) (m : HallState) → mid ≡ old → m ≡ mid.held → m ≡ old.held
lent_hall old mid m same value = value ∙ ap (λ (h : DeskHandle). h.held) same

-- and the handle is as it was
pub kept_desk : (old mid : DeskHandle) (m : HallState) → mid ≡ old → m ≡ mid.held → with_hall mid m ≡ old
kept_desk old mid m same value = ap (with_hall mid) value ∙ same

-- the worker that was lent is the handle's
pub lent_worker : (old mid : WorkerHandle) (w : WorkerState) → mid ≡ old → w ≡ mid.held → w ≡ old.held
lent_worker old mid w same value = value ∙ ap (λ (h : WorkerHandle). h.held) same

-- and the handle is as it was
pub kept_worker : (old mid : WorkerHandle) (w : WorkerState) → mid ≡ old → w ≡ mid.held → with_worker mid w ≡ old
kept_worker old mid w same value = ap (with_worker mid) value ∙ same
