use Rattle.std.proofs.Common.{◌≡◌, length}
use Rattle.test_rows.proofs.tests.keys.a_later_key_takes_the_place.Given as goal

abbrev pub invariant-loop-step : goal.invariant-loop-step
invariant-loop-step g l = length l.shelf ≡ 2
