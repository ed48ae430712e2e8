use Rattle.std.proofs.Common.{◌∙◌, sym, subst, refl, codes, ◌++◌}
use Rattle.mm_manager.specs.declared.refusal.Refusal.TheVariants as refusal
use Rattle.mm_service.specs.Reply.{line_text, refusal_word}
use Rattle.mm_service.proofs.Lemmas.Pieces.{writes_printed}
use Rattle.mm_connections.specs.Hub.{Hub, to}
use Rattle.mm_connections.specs.Text.{ServesBy}
use Rattle.mm_connections.specs.declared.permission.Permission.{Permission}
use Rattle.mm_connections.specs.private.Served.{hub_of}
use Rattle.mm_connections.proofs.served.ServedManager.serve.Goals as goal

pub returns-in-Make-clause-serves : goal.returns-in-Make-clause-serves
returns-in-Make-clause-serves g c =
    let becomes = sym c.in-Make.is ∙ c.permission_of.ensures in
    let n = c.args.heard.connection in
    let did = c.make_or_end.ensures.makes in
    let new : Hub = hub_of c.make_or_end.new.self in
    let P = λ (p : Permission). ServesBy p n c.args.heard.request c.args.heard.name.now (hub_of c.args.self.now) did.0 new in
    (did.0, did.1, record { manager = c.keeps_laws.ensures; lists = c.keeps_laws-2.ensures }, subst P becomes did.2, did.3, did.4)

pub returns-in-NoTransaction-clause-serves : goal.returns-in-NoTransaction-clause-serves
returns-in-NoTransaction-clause-serves g c =
    let becomes = sym c.in-NoTransaction.is ∙ c.permission_of.ensures in
    let n = c.args.heard.connection in
    let h : Hub = hub_of c.args.self.now in
    let kept = c.args.output.now.items in
    let text = to n (line_text (codes "refused " ++ refusal_word refusal.NoTransaction)) in
    let P = λ (p : Permission). ServesBy p n c.args.heard.request c.args.heard.name.now h text h in (
      text,
      c.print_line_to.new.output.items,
      record { manager = c.keeps_laws.ensures; lists = c.keeps_laws-2.ensures },
      subst P becomes (refl, refl),
      writes_printed _ kept text c.print_line_to.new.output.items c.print_line_to.ensures,
      refl,
    )

pub returns-in-Operator-clause-serves : goal.returns-in-Operator-clause-serves
returns-in-Operator-clause-serves g c =
    let becomes = sym c.in-Operator.is ∙ c.permission_of.ensures in
    let n = c.args.heard.connection in
    let h : Hub = hub_of c.args.self.now in
    let kept = c.args.output.now.items in
    let text = to n (line_text (codes "refused operator")) in
    let P = λ (p : Permission). ServesBy p n c.args.heard.request c.args.heard.name.now h text h in (
      text,
      c.print_line_to-in-Operator.new.output.items,
      record { manager = c.keeps_laws.ensures; lists = c.keeps_laws-2.ensures },
      subst P becomes (refl, refl),
      writes_printed _ kept text c.print_line_to-in-Operator.new.output.items c.print_line_to-in-Operator.ensures,
      refl,
    )
