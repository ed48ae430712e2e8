use Rattle.std.specs.Io.{ReadsAtMost}
use Rattle.mm_detect.proofs.patient.PatientRead.read.Given as goal

abbrev pub invariant-loop : goal.invariant-loop
invariant-loop g l = ReadsAtMost l.outcome l.buf
