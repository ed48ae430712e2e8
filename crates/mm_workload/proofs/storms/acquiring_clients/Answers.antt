use Rattle.std.proofs.Common.{◌∙◌, ap, sym, arith, map, [], ◌∷◌}
use Rattle.std.proofs.lemmas.List.{map-append}
use Rattle.mm_workload.specs.Shapes.{shape_of}
use Rattle.mm_workload.specs.Storm.{clients_from}
use Rattle.mm_workload.proofs.Lemmas.Storm.{clients-more, clients-last}
use Rattle.mm_workload.proofs.storms.acquiring_clients.Goals as goal

pub clients-preserved : goal.clients-preserved
clients-preserved c =
    let made = map (λ k. k.items) c.clients.clients.items in
    let pushed = ap (map (λ k. k.items)) c.in_ok-push.ensures.items ∙ map-append (λ k. k.items) c.clients.clients.items (c.in_ok-client.field-0 ∷ []) in
    clients-more (shape_of c.args.shape.now) c.args.count c.clients.counter made _ _ c.clients.words _ c.in_ok-client.field-0.items (omega arith)
    c.in_ok-client.ensures.steps c.in_ok-client.ensures.words pushed c.clients.invariant

pub returns : goal.returns
returns c =
    let made = map (λ k. k.items) c.clients.clients.items in
    sym (clients-last (shape_of c.args.shape.now) c.args.count c.clients.counter made c.clients.words (omega arith)) ∙ (c.clients.invariant ∙ ap (clients_from (shape_of c.args.shape.now) c.args.count) c.new-words.ensures)
