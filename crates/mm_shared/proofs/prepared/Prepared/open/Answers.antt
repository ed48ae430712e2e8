use Rattle.std.proofs.Common.{◌∙◌}
use Rattle.mm_board.specs.Views.{processes_of}
use Rattle.mm_shared.proofs.Opening.{opening_is_published}
use Rattle.mm_shared.proofs.prepared.Prepared.open.Goals as goal

pub new-inside-requires-clause-published : goal.new-inside-requires-clause-published
new-inside-requires-clause-published g c =
    let raw = c.args.self in
    opening_is_published c.open-board.result.1 (processes_of raw.board) raw.table raw.table.config c.open-board.ensures.publisher (raw.as_many ∙ raw.sized) raw.opened
