use Rattle.std.proofs.Common.{List, ℕ, ap, sym}
use Rattle.std.proofs.lemmas.Result.{IfOk-from_err}
use Rattle.mm_manager.specs.LockState.{LockState}
use Rattle.mm_connections.specs.Hub.{Hub}
use Rattle.mm_connections.specs.private.Served.{hub_of}
use Rattle.mm_service.proofs.Lemmas.Config.{replies_config}
use Rattle.mm_connections.proofs.Lemmas.Outcomes.{none_fewer}
use Rattle.mm_connections.proofs.served.ServedManager.ask.Goals as goal

pub returns-in_err-effect-clause-replies : goal.returns-in_err-effect-clause-replies
returns-in_err-effect-clause-replies g c =
    let did = c.in_err-effect.ensures.replies in
    let h : Hub = hub_of c.args.self.now in
    let new : LockState = c.make.new.manager in
    let counts = none_fewer h.begun h.counts did.1 did.5 in
    (did.0, did.1, did.2, record { replies = did.3; rest = ap (λ (n : List ℕ). record h { manager = new; counts = n }) (sym counts) }, did.4, IfOk-from_err _ _ c.from_residual.ensures.0)

pub returns-in_err-effect-clause-config : goal.returns-in_err-effect-clause-config
returns-in_err-effect-clause-config g c =
    let did = c.in_err-effect.ensures.replies in
    replies_config c.args.asked.request c.args.asked.name.now did.0 did.1 c.args.self.now.manager c.make.new.manager did.3

pub returns-clause-config : goal.returns-clause-config
returns-clause-config g c =
    let did = c.in_ok-effect.ensures.replies in
    replies_config c.args.asked.request c.args.asked.name.now did.0 did.1 c.args.self.now.manager c.make.new.manager did.3
