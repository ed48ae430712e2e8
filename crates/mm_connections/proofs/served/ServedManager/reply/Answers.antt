use Rattle.std.proofs.Common.{sym, subst, refl}
use Rattle.mm_service.proofs.Lemmas.Config.{keeps_room}
use Rattle.mm_service.specs.declared.effect.Effect.TheVariants.{Nothing}
use Rattle.mm_connections.specs.Reads.{ReadReply}
use Rattle.mm_connections.specs.Text.{RepliesTo}
use Rattle.mm_connections.specs.declared.request.ClientRequest.{ClientRequest}
use Rattle.mm_connections.specs.declared.request.Heard.{Heard}
use Rattle.mm_connections.specs.declared.request.ReadRequest.{ReadRequest}
use Rattle.mm_connections.specs.private.Served.{hub_of}
use Rattle.mm_connections.proofs.Lemmas.Outcomes.{came_to}
use Rattle.mm_connections.proofs.served.ServedManager.reply.Goals as goal

pub returns-in-Read-clause-replies : goal.returns-in-Read-clause-replies
returns-in-Read-clause-replies g c =
    let did = c.read-outcome.ensures.read in
    let R = λ (request : ClientRequest). RepliesTo c.args.heard.connection request c.args.heard.name.now (hub_of c.args.self.now) did.0 Nothing (hub_of c.args.self.now) in
    let H = λ (h : Heard ReadRequest). ReadReply h.connection h.request h.name.now (hub_of c.args.self.now) did.0 in
    (did.0, Nothing, did.1, subst R (sym c.in-Read.is) (subst H c.reading.ensures did.2, refl, refl), did.3, rw c.and.ensures (came_to _ Nothing _ did.4))

pub returns-in-Begin-clause-numbers : goal.returns-in-Begin-clause-numbers
returns-in-Begin-clause-numbers g c = keeps_room c.args.self.now.manager c.begin.new.self.manager c.args.numbers.now c.begin.ensures.config c.requires.numbers

pub returns-in-LockAll-clause-numbers : goal.returns-in-LockAll-clause-numbers
returns-in-LockAll-clause-numbers g c = keeps_room c.args.self.now.manager c.lock_all.new.self.manager c.args.numbers.now c.lock_all.ensures.config c.requires.numbers
