use Rattle.std.proofs.Common.{subst}
use Rattle.mm_rules.specs.Laws.{HasSoundVerdicts}
use Rattle.mm_rules.proofs.States.SoundVerdicts.{verdicts_are_sound}
use Rattle.mm_table.proofs.table.Table.verdicts_are_sound.Goals as goal

pub returns : goal.returns
returns c = subst HasSoundVerdicts c.self.view_is (verdicts_are_sound c.self.inside.records c.self.invariant.laws)
