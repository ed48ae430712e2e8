use Rattle.mm_board.proofs.Rising.{reads_rise}
use Rattle.mm_board.proofs.hint.hint_of.Goals as goal

pub returns-then-lt-clause-rises : goal.returns-then-lt-clause-rises
returns-then-lt-clause-rises g c =
    let own = c.read_label-own in
    let its = c.read_label-its in
    reads_rise c.args.reader.now own.new.self its.new.self _ _ _ _ own.ensures.seen own.ensures.label own.ensures.rises its.ensures.seen its.ensures.label its.ensures.rises

pub returns-then-eq-clause-rises : goal.returns-then-eq-clause-rises
returns-then-eq-clause-rises g c =
    let own = c.read_label-own in
    let its = c.read_label-its in
    reads_rise c.args.reader.now own.new.self its.new.self _ _ _ _ own.ensures.seen own.ensures.label own.ensures.rises its.ensures.seen its.ensures.label its.ensures.rises

pub returns-clause-rises : goal.returns-clause-rises
returns-clause-rises g c =
    let own = c.read_label-own in
    let its = c.read_label-its in
    reads_rise c.args.reader.now own.new.self its.new.self _ _ _ _ own.ensures.seen own.ensures.label own.ensures.rises its.ensures.seen its.ensures.label its.ensures.rises
