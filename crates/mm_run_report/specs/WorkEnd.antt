-- The status after a workload.
use Rattle.std.specs.Prelude.{◌≡◌, if◌then◌else◌, ℕ, Bool, true, false, Err, length, vec_len}
use Rattle.std.specs.List.{list_all}
use Rattle.mm_rules.specs.Event.{Opens}
use Rattle.mm_rules.specs.declared.refusal.Refusal.TheVariants as refusals
use Rattle.mm_clients.specs.declared.end.End.{End}
use Rattle.mm_clients.specs.declared.end.End.TheVariants.{Finished, Aborted}
use Rattle.mm_workload.specs.Work.{Work}
use Rattle.mm_workload.specs.declared.fault.WorkFault.{WorkFault}
use Rattle.mm_workload.specs.declared.fault.WorkFault.TheVariants as faults
use Rattle.mm_run_report.specs.declared.work_end.WorkEnd.{WorkEnd}
use Rattle.mm_run_report.specs.declared.work_end.WorkEnd.TheVariants.{Ran, Malformed, Refused}

-- the client finished or was aborted
abbrev pub has_ended : End → Bool
has_ended Finished = true
has_ended Aborted = true
has_ended _ = false

abbrev pub work_status : WorkEnd → ℕ
work_status (Ran ran) = if list_all has_ended ran.outcome.ends.items then 0 else 5
work_status (Malformed place) = 1
work_status (Refused refusal) = 4

-- what it comes to that no workload could be made
abbrev pub end_after : WorkFault → WorkEnd
end_after (faults.Malformed place) = Malformed place
end_after faults.Memory = Refused refusals.Memory

-- a workload is run, with an end for each client, or refused as its table is
abbrev pub EndsAs : Work → WorkEnd → Type 0
EndsAs work (Ran ran) = vec_len ran.outcome.ends ≡ length work.clients
EndsAs work (Refused refusal) = Opens work.config (Err refusal)
EndsAs work (Malformed place) = ⊥
