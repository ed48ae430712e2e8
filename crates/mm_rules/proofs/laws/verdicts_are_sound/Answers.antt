use Rattle.mm_rules.proofs.States.SoundVerdicts.{verdicts_are_sound}
use Rattle.mm_rules.proofs.laws.verdicts_are_sound.Goals as goal

pub returns : goal.returns
returns c = verdicts_are_sound
