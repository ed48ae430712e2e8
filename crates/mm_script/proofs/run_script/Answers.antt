use Rattle.std.proofs.Common.{Option, subst}
use Rattle.mm_lines.specs.Text.{Ends}
use Rattle.mm_table.specs.TableState.{TableState}
use Rattle.mm_script.specs.Script.{input_limit}
use Rattle.mm_script.specs.Text.{Answers}
use Rattle.mm_script.proofs.Lemmas.Text.{script_ends, script_bounded}
use Rattle.mm_script.proofs.run_script.Goals as goal

pub returns-clause-ends : goal.returns-clause-ends
returns-clause-ends g c =
    let ends = c.serve-outcome.ensures.ends in
    let E : Option TableState → Type 0 = λ t. Ends Answers input_limit t c.serve-outcome.result ends.0 ends.1 c.serve-outcome.new.answerer in
    (ends.0, ends.1, ends.2, ends.3, script_ends _ _ _ _ (subst E c.new-script.ensures ends.4))

pub returns-clause-limit : goal.returns-clause-limit
returns-clause-limit g c =
    let ends = c.serve-outcome.ensures.ends in
    (ends.0, ends.2, script_bounded _ _ _ _ _ ends.4)
