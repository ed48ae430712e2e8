use Rattle.std.proofs.Common.{◌++◌, codes, decimal}
use Rattle.mm_service.specs.Reply.{line_text}
use Rattle.mm_connections.proofs.Lemmas.Lines.{printed_both}
use Rattle.mm_connections.proofs.served.print_line_to.Goals as goal

pub returns : goal.returns
returns c =
    let kept = c.args.output.now.items in
    let last = c.print_line.new.output.items in
    printed_both kept (decimal c.args.connection ++ codes " ") c.print_to.new.output.items (line_text c.args.text.now) last c.print_to.ensures.added c.print_line.ensures
