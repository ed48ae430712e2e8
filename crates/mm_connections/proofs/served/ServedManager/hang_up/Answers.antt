use Rattle.std.proofs.Common.{ap, Bool, ◌++◌}
use Rattle.mm_connections.specs.Hub.{Hub}
use Rattle.mm_connections.specs.Text.{hang_up_text}
use Rattle.mm_connections.specs.private.Served.{hub_of}
use Rattle.mm_connections.proofs.Lemmas.Lines.{writes_told}
use Rattle.mm_connections.proofs.served.ServedManager.hang_up.Goals as goal

pub returns-clause-hangs_up : goal.returns-clause-hangs_up
returns-clause-hangs_up g c =
    let ends = c.end_part-outcome.ensures.ends in
    let aside : Hub = hub_of c.set_part_aside.new.self in
    let last : Hub = hub_of c.end_part-outcome.new.self in
    let n = c.args.connection in
    let end = hang_up_text c.close-has_more.result n in
    let written =
    writes_told _ _ _ c.args.output.now.items ends.0 ends.1 c.end_part-outcome.new.output.items end c.write_part_after.new.output.items c.end_part-outcome.result c.write_part_after.result ends.3 ends.4
    c.write_part_after.ensures.part in (
      ends.0 ++ end,
      written.0,
      record { manager = c.keeps_laws.ensures; lists = c.keeps_laws-2.ensures },
      record {
        aside = aside;
        sets = c.set_part_aside.ensures.sets;
        told = ends.0;
        last = last;
        ends = ends.2;
        rest = c.close-has_more.ensures.closed;
        lawful = record { manager = c.keeps_laws-3.ensures; lists = c.keeps_laws-4.ensures };
        text = ap (λ (b : Bool). ends.0 ++ hang_up_text b n) c.close-has_more.ensures.more;
      },
      written.1,
      written.2,
    )
