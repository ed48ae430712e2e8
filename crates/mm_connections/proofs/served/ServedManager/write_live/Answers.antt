use Rattle.std.proofs.Common.{◌≡◌, ◌∙◌, ap, ◌++◌, length, codes, decimal, append_assoc}
use Rattle.mm_manager.specs.Reads.{live_of}
use Rattle.mm_service.specs.Reply.{line_text}
use Rattle.mm_service.proofs.Lemmas.Pieces.{writes_after}
use Rattle.mm_connections.proofs.served.ServedManager.write_live.Goals as goal

pub returns-clause-written : goal.returns-clause-written
returns-clause-written g c =
    let written = c.write_live_lines.ensures.written in
    let old = c.args.output.now.items in
    let count = length (live_of c.args.self.now.manager.table) in
    let number : c.print_number.new.output.items ≡ old ++ (codes "list " ++ decimal count) = c.print_number.ensures.added ∙ ap (λ k. old ++ (codes "list " ++ decimal k)) c.count_live.ensures in
    let line : c.end_line.new.output.items ≡ old ++ line_text (codes "list " ++ decimal count) = c.end_line.ensures ∙ ap (λ l. l ++ codes "\n") number ∙ append_assoc old (codes "list " ++ decimal count) (codes "\n") in
    (written.0, writes_after _ _ old _ _ _ _ line written.1, written.2)
