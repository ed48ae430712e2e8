use Rattle.std.proofs.Common.{◌<◌, length, arith}
use Rattle.std.proofs.lemmas.Grind.{common_steps}
use Rattle.mm_lines.proofs.Lemmas.Leads.{text_open}
use Rattle.mm_lines.proofs.server.answer_open.Goals as goal

pub returns-clause-answered : goal.returns-clause-answered
returns-clause-answered g c =
    let some : 0 < length c.args.line.now = grind (arith, common_steps) in
    let a = c.answer.ensures.answered in
    (a.0, a.1, a.2, text_open _ _ _ _ _ _ c.requires.open some a.3, a.4, a.5)
