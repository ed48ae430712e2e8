use Rattle.std.proofs.Common.{arith, rules, ◌≡◌, Option, Some, None, Result, Ok, Err, IfErr}
use Rattle.std.proofs.lemmas.List.{length-map}
use Rattle.serde_json.specs.Data.{Data}
use Rattle.serde_json.specs.View.{view}
use Rattle.mm_workload.specs.Work.{Work}
use Rattle.mm_workload.specs.Json.{SaysWork}
use Rattle.mm_workload.specs.declared.fault.WorkFault.{WorkFault}
use Rattle.mm_workload.specs.declared.fault.WorkFault.TheVariants.{Memory}
use Rattle.mm_workload.proofs.reading.work.Goals as goal

-- a value that says no workload
says_none : {W : Type 0} → (r : Result W WorkFault) (d : Data) → ((w : Work) → ¬ SaysWork d w) → IfErr r (λ e. ¬ (e ≡ Memory) → (w : Work) → ¬ SaysWork d w)
says_none (Ok w) d none = tt
says_none (Err e) d none = λ other. none

never : {X : Type 0} → (o : Option X) (x : X) → o ≡ None → ¬ (o ≡ Some x)
never o x none some = cc

pub returns-in_err-config-clause-malformed : goal.returns-in_err-config-clause-malformed
returns-in_err-config-clause-malformed c = says_none c.from_residual.result (view c.args.value.now) (λ w says. c.in_err-config.ensures w.config says.config)

pub returns-in_err-transmitters-clause-malformed : goal.returns-in_err-transmitters-clause-malformed
returns-in_err-transmitters-clause-malformed c =
    says_none c.from_residual-in_err-transmitters.result (view c.args.value.now) (λ w says. never _ w.transmitters c.in_err-transmitters.ensures says.transmitters)

pub returns-in_err-turns-clause-malformed : goal.returns-in_err-turns-clause-malformed
returns-in_err-turns-clause-malformed c =
    says_none c.from_residual-in_err-turns.result (view c.args.value.now) (λ w says. never _ w.turns c.in_err-turns.ensures says.turns)

pub of-requires : goal.of-requires
of-requires c = record {
  transmitters = search rules;
  some_turns = search rules;
  turns = search rules;
  some_clients = omega (arith, length-map c.in_ok-clients.clients.items (λ k. k.items), c.in_ok-clients.ensures.few.0);
  clients = omega (arith, length-map c.in_ok-clients.clients.items (λ k. k.items), c.in_ok-clients.ensures.few.1);
  steps = c.in_ok-clients.ensures.short;
}
