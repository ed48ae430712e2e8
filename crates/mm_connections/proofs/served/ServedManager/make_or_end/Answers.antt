use Rattle.std.proofs.Common.{◌∙◌, sym, subst, refl, codes, decimal, List, ℕ, ◌++◌, Option, append_assoc}
use Rattle.mm_arena.specs.declared.key.Key.{Key}
use Rattle.mm_lines.specs.Output.{Writes}
use Rattle.mm_service.proofs.Lemmas.Pieces.{writes_after}
use Rattle.mm_connections.specs.Hub.{Hub, to}
use Rattle.mm_connections.specs.Text.{MakesBy, events_text}
use Rattle.mm_connections.specs.private.Served.{hub_of}
use Rattle.mm_connections.proofs.served.ServedManager.make_or_end.Goals as goal

pub returns-in-Some-clause-makes : goal.returns-in-Some-clause-makes
returns-in-Some-clause-makes g c =
    let becomes = sym c.in-Some.is ∙ c.part_of.ensures in
    let n = c.args.heard.connection in
    let did = c.end_by_part.ensures.ends in
    let P = λ (o : Option Key). MakesBy o n c.args.heard.request c.args.heard.name.now (hub_of c.args.self.now) did.0 (hub_of c.end_by_part.new.self) in
    (did.0, did.1, subst P becomes did.2, did.3, did.4)

pub returns-in-None-clause-makes : goal.returns-in-None-clause-makes
returns-in-None-clause-makes g c =
    let becomes = sym c.in-None.is ∙ c.part_of.ensures in
    let n = c.args.heard.connection in
    let did = c.make.ensures.makes in
    let new : Hub = hub_of c.make.new.self in
    let kept = c.args.output.now.items in
    let head = decimal n ++ codes " " in
    let caused = events_text n c.args.heard.request c.args.heard.name.now new did.1 in
    let text = to n did.0 ++ caused in
    let P = λ (o : Option Key). MakesBy o n c.args.heard.request c.args.heard.name.now (hub_of c.args.self.now) text new in
    let W = λ (l : List ℕ). Writes (g.W.Write.contents c.args.writer.now) (g.W.Write.contents c.make.new.writer) (kept ++ l) did.2 in
    let written = writes_after _ _ kept head c.print_to.new.output.items (did.0 ++ caused) did.2 c.print_to.ensures.added did.5 in (
      text,
      did.2,
      subst P becomes (record { reply = did.0; effect = did.1; replies = did.3; lawful = did.4; text = refl }),
      subst W (sym (append_assoc head did.0 caused)) written,
      did.6,
    )
