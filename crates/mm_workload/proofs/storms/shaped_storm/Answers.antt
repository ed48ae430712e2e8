use Rattle.std.proofs.Common.{◌≡◌, ◌∙◌, ap, sym, subst, arith, length, map, rules}
use Rattle.std.specs.List.{All}
use Rattle.mm_workload.specs.Shapes.{shape_of}
use Rattle.mm_workload.specs.Work.{IsShort}
use Rattle.mm_workload.specs.Storm.{generator}
use Rattle.mm_workload.proofs.Lemmas.Storm.{clients-length, clients-are_short}
use Rattle.mm_workload.proofs.storms.shaped_storm.Goals as goal

pub of-requires : goal.of-requires
of-requires c =
    let is = c.in_ok-clients.ensures in
    let shape = shape_of c.args.options.now.shape in
    let count : length (map (λ k. k.items) c.in_ok-clients.clients.items) ≡ c.args.options.now.clients =
    ap length is ∙ clients-length shape c.args.options.now.clients (generator c.args.options.now.seed) in
    record {
      transmitters = omega arith;
      some_turns = omega arith;
      turns = omega arith;
      some_clients = omega (arith, count);
      clients = omega (arith, count);
      steps = subst (All IsShort) (sym is) (clients-are_short shape c.args.options.now.clients (generator c.args.options.now.seed) (search rules) (search rules));
    }
