-- How many labels sweeps raise at most, however many sweeps there are.
use Rattle.std.proofs.Common.{ℕ, zero, suc, ◌≤◌, ◌*◌, length, refl, arith}
use Rattle.std.proofs.Math.Nat.{mul-le-mul_left}
use Rattle.mm_lists.proofs.Lemmas.Range.{length_filter_range}
use Rattle.mm_rules.specs.TableState.{TableState, is_waiting, waiting_processes, graph_of}
use Rattle.mm_rules.specs.Change.{sweep_raises, swept, total_raises}
use Rattle.mm_rules.specs.Laws.{Laws, most_raises}
use Rattle.mm_rules.proofs.Graph.RaiseRun.{RaiseRun, runs_join}
use Rattle.mm_rules.proofs.Graph.Settle.{sweep_runs}
use Rattle.mm_rules.proofs.Graph.RaiseBound.{raises_bound}
use Rattle.mm_rules.proofs.States.Laws.{graph_lawful}
use Rattle.mm_rules.proofs.States.Sweep.{waiting_among, swept_keeps, transmits_sweep}

sweeps_run : (s : TableState) (n : ℕ) → Laws s → RaiseRun (graph_of s) (total_raises s n) (graph_of (swept s n))
sweeps_run s zero laws = refl
sweeps_run s (suc n) laws =
    let t : TableState = swept s n in
    runs_join (graph_of s) (graph_of t) (graph_of (swept s (suc n))) (total_raises s n) (sweep_raises t) (sweeps_run s n laws)
    (sweep_runs (graph_of t) (waiting_processes t) (sweep_raises t) (graph_of (swept s (suc n))) (transmits_sweep t (waiting_processes t) (swept_keeps s n laws).laws))

pub sweep_raises_bound : (s : TableState) (n : ℕ) → Laws s → total_raises s n ≤ most_raises s
sweep_raises_bound s n laws =
    raises_bound (graph_of s) (total_raises s n) (graph_of (swept s n)) (waiting_processes s) (graph_lawful s laws).within (waiting_among s laws.lawful.well_formed) (sweeps_run s n laws)

pub waiting_bound : (s : TableState) → length (waiting_processes s) ≤ s.config.processes
waiting_bound s = length_filter_range (is_waiting s) s.config.processes

-- there are at most 65,536 processes
pub most_raises_bound : (s : TableState) → Laws s → most_raises s ≤ 65536 * 65536
most_raises_bound s laws =
    let processes = laws.lawful.well_formed.config.processes.1 in
    let waiting = length (waiting_processes s) in
    let first : waiting * s.config.processes ≤ waiting * 65536 = mul-le-mul_left waiting processes in
    let fewer : waiting ≤ 65536 = omega (arith, waiting_bound s) in
    omega arith
