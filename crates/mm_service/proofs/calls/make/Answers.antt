use Rattle.std.proofs.Common.{sym, subst, refl}
use Rattle.std.proofs.lemmas.Result.{MatchResult-from_err}
use Rattle.mm_service.specs.Text.{Replies, graph_text}
use Rattle.mm_service.specs.declared.effect.Effect.TheVariants.{Nothing}
use Rattle.mm_service.specs.declared.line.Request.{Request}
use Rattle.mm_service.proofs.Lemmas.Config.{begins_config, keeps_room, key_config, name_config}
use Rattle.mm_service.proofs.Lemmas.Pieces.{writes_printed}
use Rattle.mm_service.proofs.calls.make.Goals as goal

pub returns-in-OfName-clause-replies : goal.returns-in-OfName-clause-replies
returns-in-OfName-clause-replies g c =
    let did = c.write_of_name.ensures.replies in
    let R = λ (r : Request). Replies r c.args.asked.name.now c.args.manager.now did.0 did.1 c.write_of_name.new.manager in
    (did.0, did.1, did.2, subst R (sym c.in-OfName.is) did.3, did.4, did.5)

pub returns-in-OfKey-clause-replies : goal.returns-in-OfKey-clause-replies
returns-in-OfKey-clause-replies g c =
    let did = c.reply_of_key.ensures in
    let R = λ (r : Request). Replies r c.args.asked.name.now c.args.manager.now did.0 c.reply_of_key.result c.reply_of_key.new.manager in
    (did.0, c.reply_of_key.result, c.reply_of_key.new.output.items, subst R (sym c.in-OfKey.is) did.1, writes_printed _ c.args.output.now.items did.0 c.reply_of_key.new.output.items did.2, (refl, refl))

pub returns-in_err-write_holds-in-Holds-clause-replies : goal.returns-in_err-write_holds-in-Holds-clause-replies
returns-in_err-write_holds-in-Holds-clause-replies g c =
    let did = c.in_err-write_holds-in-Holds.ensures.written in
    let R = λ (r : Request). Replies r c.args.asked.name.now c.args.manager.now did.0 Nothing c.args.manager.now in
    (did.0, Nothing, did.1, subst R (sym c.in-Holds.is) (did.2, refl, refl), did.3, MatchResult-from_err _ _ _ c.from_residual.ensures.0 (λ _. tt))

pub returns-in_err-write_graph-in-Graph-clause-replies : goal.returns-in_err-write_graph-in-Graph-clause-replies
returns-in_err-write_graph-in-Graph-clause-replies g c =
    let did = c.in_err-write_graph-in-Graph.ensures.written in
    let R = λ (r : Request). Replies r c.args.asked.name.now c.args.manager.now (graph_text c.args.manager.now) Nothing c.args.manager.now in
    (graph_text c.args.manager.now, Nothing, did.0, subst R (sym c.in-Graph.is) (refl, refl, refl), did.1, MatchResult-from_err _ _ _ c.from_residual-in_err-write_graph-in-Graph.ensures.0 (λ _. tt))

pub returns-in-Begin-clause-numbers : goal.returns-in-Begin-clause-numbers
returns-in-Begin-clause-numbers g c =
    keeps_room c.args.manager.now c.begin.new.self c.args.numbers.now (begins_config c.args.manager.now c.begin.new.self c.begin.result c.begin.ensures.begins) c.requires.numbers

pub returns-in-OfName-clause-numbers : goal.returns-in-OfName-clause-numbers
returns-in-OfName-clause-numbers g c =
    let did = c.write_of_name.ensures.replies in
    let same = name_config c.in-OfName.request c.in-OfName.key c.args.asked.name.now did.0 did.1 c.args.manager.now c.write_of_name.new.manager did.3 in
    keeps_room c.args.manager.now c.write_of_name.new.manager c.args.numbers.now same c.requires.numbers

pub returns-in-OfKey-clause-numbers : goal.returns-in-OfKey-clause-numbers
returns-in-OfKey-clause-numbers g c =
    let did = c.reply_of_key.ensures in
    let same = key_config c.in-OfKey.request c.in-OfKey.key did.0 c.reply_of_key.result c.args.manager.now c.reply_of_key.new.manager did.1 in
    keeps_room c.args.manager.now c.reply_of_key.new.manager c.args.numbers.now same c.requires.numbers
