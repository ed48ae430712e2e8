use Rattle.mm_rules.proofs.States.TakeBack.{closes_where_led_back}
use Rattle.mm_rules.proofs.laws.closes_where_led_back.Goals as goal

pub returns : goal.returns
returns c = closes_where_led_back
