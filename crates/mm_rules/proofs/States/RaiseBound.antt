-- Along transmits and detects, each raise that is told is a raise of the graph, of which there are so many at most.
use Rattle.std.proofs.Common.{◌≡◌, ◌+◌, ◌≤◌, ℕ, suc, List, [], ◌∷◌, Option, Result, Ok, Err, if◌then◌else◌, inl, inr, refl, sym, ap, subst, ◌∙◌, ◌⊎◌, arith, zero-add}
use Rattle.std.specs.Option.{option_map_or}
use Rattle.mm_label.specs.Label.{Label}
use Rattle.mm_arena.specs.declared.key.Key.{Key}
use Rattle.mm_rules.specs.declared.refusal.Refusal.{Refusal}
use Rattle.mm_rules.specs.declared.reply.Transmitted.{Transmitted}
use Rattle.mm_rules.specs.declared.reply.Transmitted.TheVariants.{Raised, Still}
use Rattle.mm_rules.specs.Graph.{Graph}
use Rattle.mm_rules.specs.declared.reply.Detected.TheVariants.{Deadlock, Standing, Clear}
use Rattle.mm_rules.specs.TableState.{TableState, has_verdict, waiting_processes, private_of, graph_of}
use Rattle.mm_rules.specs.Change.{greater_label, transmit, can_detect, detect}
use Rattle.mm_rules.specs.Event.{Event, Begin, Acquire, Release, Finish, Transmit, Detect, Abort, Settle, GiveUp, Run, decided, allowed, waiting_tests, detected}
use Rattle.mm_rules.specs.Laws.{Laws, TransmitsAndDetects, raise_told, raises_told, most_raises}
use Rattle.mm_rules.proofs.Graph.Change.{Raises}
use Rattle.mm_rules.proofs.Graph.RaiseRun.{RaiseRun}
use Rattle.mm_rules.proofs.Graph.RaiseBound.{raises_bound}
use Rattle.mm_rules.proofs.States.Laws.{graph_lawful}
use Rattle.mm_rules.proofs.States.Outcome.{outcome_keeps}
use Rattle.mm_rules.proofs.States.Transmit.{transmit_cases, transmit_still}
use Rattle.mm_rules.proofs.States.Sweep.{waiting_among, transmit_raises}
use Rattle.mm_rules.proofs.States.DetectAll.{detect_graph}
use Rattle.mm_rules.proofs.States.EventsKeepLaws.{event_keeps}

-- the reply tells of no raise, and the graph is the same; or it tells of one, and the graph is raised so
abbrev Tells : TableState → Key → Result Transmitted Refusal → TableState → Type 0
Tells s k reply new = ((raise_told (Transmit k) reply ≡ 0) × (graph_of new ≡ graph_of s))
    ⊎ ((h : ℕ) × (raise_told (Transmit k) reply ≡ 1) × Raises (graph_of s) k.process h (graph_of new))

transmit_tells : (s : TableState) (k : Key) → Laws s → (r : Result (Unit {0}) Refusal)
    → Tells s k (decided r s (option_map_or Raised (greater_label s k.process) Still) (transmit s k.process)).reply
    (decided r s (option_map_or Raised (greater_label s k.process) Still) (transmit s k.process)).state
transmit_tells s k laws (Err refusal) = inl (refl, refl)
transmit_tells s k laws (Ok u) = elim (transmit_cases s laws k.process) [
  | inl still ↦ inl (ap (λ (o : Option Label). raise_told (Transmit k) (Ok (option_map_or Raised o Still))) still.0, ap graph_of (transmit_still s laws k.process still.0))
  | inr raised ↦ inr (raised.0, ap (λ (o : Option Label). raise_told (Transmit k) (Ok (option_map_or Raised o Still))) raised.1.greater, transmit_raises s k.process raised.0 laws raised.1)
]

detected_graph : (s : TableState) (k : Key) → graph_of (detected s k).state ≡ graph_of s
detected_graph s k = outcome_keeps (λ t. graph_of t ≡ graph_of s) (λ t n same. same) s
    (if has_verdict s k.process then Standing else if can_detect s k.process then Deadlock (private_of s k.process) else Clear) (detect s k.process) (waiting_tests s k) refl
    (λ passed. detect_graph s k.process)

-- a run of raises from one graph, and so many as this number tells
abbrev RunOf : Graph → ℕ → Type 0
RunOf start raises = (g : Graph) × RaiseRun start raises g

one_told : (s mid : TableState) (k : Key) (reply : Result Transmitted Refusal) (more : ℕ) → Tells s k reply mid → RunOf (graph_of mid) more → RunOf (graph_of s) (raise_told (Transmit k) reply + more)
one_told s mid k reply more (inl (none, same)) later =
    let count : raise_told (Transmit k) reply + more ≡ more = omega arith in
    subst (λ (m : ℕ). RunOf (graph_of s) m) (sym count) (subst (λ (g : Graph). RunOf g more) same later)
one_told s mid k reply more (inr (h, one, raises)) (g, run) =
    let count : raise_told (Transmit k) reply + more ≡ suc more = omega arith in
    subst (λ (m : ℕ). RunOf (graph_of s) m) (sym count) (g, (k.process, h, graph_of mid, raises, run))

-- a run of raises, so many as are told
told_run : (es : List Event) → TransmitsAndDetects es → (s new : TableState) (run : Run s es new) → Laws s → RunOf (graph_of s) (raises_told es s new run)
told_run [] only s new run laws = (graph_of s, refl)
told_run (Transmit k ∷ es) only s new (mid, reply, step, rest) laws =
    let told : Tells s k reply mid = rw (step.0, step.1) (transmit_tells s k laws (allowed (waiting_tests s k))) in
    one_told s mid k reply (raises_told es mid new rest) told (told_run es only mid new rest (event_keeps (Transmit k) s mid reply step laws).laws)
told_run (Detect k ∷ es) only s new (mid, reply, step, rest) laws =
    let same : graph_of mid ≡ graph_of s = ap graph_of step.1 ∙ detected_graph s k in
    let later : RunOf (graph_of mid) (raises_told es mid new rest) = told_run es only mid new rest (event_keeps (Detect k) s mid reply step laws).laws in
    rw zero-add (subst (λ (g : Graph). RunOf g (raises_told es mid new rest)) same later)
told_run (Begin ∷ es) only s new run laws = absurd only
told_run (Acquire k r ∷ es) only s new run laws = absurd only
told_run (Release k r ∷ es) only s new run laws = absurd only
told_run (Finish k ∷ es) only s new run laws = absurd only
told_run (Abort k ∷ es) only s new run laws = absurd only
told_run (Settle ∷ es) only s new run laws = absurd only
told_run (GiveUp k ∷ es) only s new run laws = absurd only

pub raises_told_bound : (old new : TableState) (es : List Event) → TransmitsAndDetects es → (run : Run old es new) → Laws old → raises_told es old new run ≤ most_raises old
raises_told_bound old new es only run laws =
    let raises : RunOf (graph_of old) (raises_told es old new run) = told_run es only old new run laws in
    raises_bound (graph_of old) (raises_told es old new run) raises.0 (waiting_processes old) (graph_lawful old laws).within (waiting_among old laws.lawful.well_formed) raises.1
