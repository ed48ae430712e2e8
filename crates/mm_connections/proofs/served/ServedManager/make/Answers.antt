use Rattle.std.proofs.Common.{subst, ◌++◌}
use Rattle.mm_lines.specs.Output.{Writes}
use Rattle.mm_service.specs.declared.effect.Effect.{Effect}
use Rattle.mm_connections.specs.Hub.{Hub}
use Rattle.mm_connections.specs.Text.{events_text}
use Rattle.mm_connections.specs.private.Served.{hub_of}
use Rattle.mm_connections.proofs.Lemmas.Lines.{lost_on, writes_caused}
use Rattle.mm_connections.proofs.served.ServedManager.make.Goals as goal

pub returns-in-Ok-clause-makes : goal.returns-in-Ok-clause-makes
returns-in-Ok-clause-makes g c =
    let did = c.in-Ok.ensures.replies in
    let heard = c.args.heard in
    let new : Hub = hub_of c.reply-outcome.new.self in
    let written = c.write_events.ensures.written in
    let items = c.reply-outcome.new.output.items in
    let E = λ (e : Effect). Writes (g.W.Write.contents c.reply-outcome.new.writer) (g.W.Write.contents c.write_events.new.writer) (items ++ events_text heard.connection heard.request heard.name.now new e) written.0 in (
      did.0,
      did.1,
      written.0,
      did.3,
      record { manager = c.keeps_laws.ensures; lists = c.keeps_laws-2.ensures },
      writes_caused _ _ _ c.args.output.now.items did.0 (events_text heard.connection heard.request heard.name.now new did.1) did.2 items written.0 did.4 did.5.1 (subst E did.5.0 written.1),
      written.2,
    )

pub returns-in-Err-clause-makes : goal.returns-in-Err-clause-makes
returns-in-Err-clause-makes g c =
    let did = c.in-Err.ensures.replies in
    let heard = c.args.heard in
    let new : Hub = hub_of c.reply-outcome.new.self in
    let caused = events_text heard.connection heard.request heard.name.now new did.1 in (
      did.0,
      did.1,
      did.2 ++ caused,
      did.3,
      record { manager = c.keeps_laws.ensures; lists = c.keeps_laws-2.ensures },
      lost_on _ _ c.args.output.now.items did.0 did.2 caused did.4,
      tt,
    )
