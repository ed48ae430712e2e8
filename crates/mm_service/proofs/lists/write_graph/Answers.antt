use Rattle.std.proofs.Common.{◌≡◌, ◌∙◌, ap, ◌++◌, length, codes, decimal, append_assoc}
use Rattle.mm_manager.specs.Reads.{waits_of}
use Rattle.mm_service.specs.Reply.{line_text}
use Rattle.mm_service.proofs.Lemmas.Pieces.{writes_after}
use Rattle.mm_service.proofs.lists.write_graph.Goals as goal

pub returns-clause-written : goal.returns-clause-written
returns-clause-written g c =
    let written = c.write_edges.ensures.written in
    let old = c.args.output.now.items in
    let count = c.count_waits.ensures in
    let number : c.print_number.new.output.items ≡ old ++ (codes "graph " ++ decimal (length (waits_of c.args.manager.now.table))) =
    c.print_number.ensures.added ∙ ap (λ n. old ++ (codes "graph " ++ decimal n)) count in
    let line : c.end_line.new.output.items ≡ old ++ line_text (codes "graph " ++ decimal (length (waits_of c.args.manager.now.table))) =
    c.end_line.ensures ∙ (ap (λ l. l ++ codes "\n") number ∙ append_assoc old (codes "graph " ++ decimal (length (waits_of c.args.manager.now.table))) (codes "\n")) in
    (written.0, writes_after _ _ _ _ _ _ _ line written.1, written.2)
