-- What a report holds of the outcome of a run.
use Rattle.std.specs.Prelude.{◌≡◌, ◌+◌, List, length, count_by}
use Rattle.mm_clients.specs.declared.earlier.EarlierEnds.{EarlierEnds}
use Rattle.mm_clients.specs.declared.end.End.{End}
use Rattle.mm_clients.specs.End.{is_finished, is_aborted, is_spent, is_refused}
use Rattle.mm_workload.specs.Work.{Work}
use Rattle.mm_clients.specs.declared.outcome.EndCounts.{EndCounts}
use Rattle.mm_run_report.specs.declared.report.Numbers.{Numbers}

-- how many of the last ends of clients, and of those before them, are of each kind
pub record AreEnds (last : List End) (earlier : EarlierEnds) (ends : EndCounts) : Type 0 where
  pub finished : ends.finished ≡ count_by is_finished last + earlier.finished
  pub aborted : ends.aborted ≡ count_by is_aborted last + earlier.aborted
  pub spent : ends.spent ≡ count_by is_spent last
  pub refused : ends.refused ≡ count_by is_refused last

-- the numbers of a workload
pub record AreNumbers (w : Work) (numbers : Numbers) : Type 0 where
  pub clients : numbers.clients ≡ length w.clients
  pub transmitters : numbers.transmitters ≡ w.transmitters
  pub turns : numbers.turns ≡ w.turns
  pub processes : numbers.processes ≡ w.config.processes
  pub resources : numbers.resources ≡ w.config.resources
  pub label_limit : numbers.label_limit ≡ w.config.label_limit
  pub generation_limit : numbers.generation_limit ≡ w.config.generation_limit
