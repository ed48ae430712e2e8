use Rattle.std.specs.Io.{WritesAtMost}
use Rattle.mm_detect.proofs.patient.PatientWrite.write.Given as goal

abbrev pub invariant-loop : goal.invariant-loop
invariant-loop g l = WritesAtMost l.outcome l.fn.buf
