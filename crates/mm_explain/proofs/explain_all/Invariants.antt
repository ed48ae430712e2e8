use Rattle.std.proofs.Common.{◌+◌, ◌-◌, ◌≤◌}
use Rattle.mm_explain.proofs.explain_all.Given as goal

abbrev pub invariant-loop-session : goal.invariant-loop-session
invariant-loop-session g l = l.input.taken ≤ l.input.limits.input

-- how many bytes may still come
abbrev pub decreases-loop-session : goal.decreases-loop-session
decreases-loop-session g l = l.input.limits.input + 1 - l.input.taken
