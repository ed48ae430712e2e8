use Rattle.std.proofs.Common.{◌≡◌, sym, subst, Option, Some, None, Result, Err, MatchResult}
use Rattle.std.proofs.lemmas.Result.{err_from_is_err_and}
use Rattle.serde_json.specs.Data.{Data}
use Rattle.serde_json.specs.View.{view}
use Rattle.mm_rules.specs.declared.config.Config.{Config}
use Rattle.mm_workload.specs.Json.{SaysConfig}
use Rattle.mm_workload.specs.declared.fault.FaultPlace.{FaultPlace}
use Rattle.mm_workload.proofs.reading.config.Goals as goal

never : {X : Type 0} → (o : Option X) (x : X) → o ≡ None → ¬ (o ≡ Some x)
never o x none some = cc

-- a value that says no table
says_none : (r : Result Config FaultPlace) (place : FaultPlace) (d : Data) → r ≡ Err place → ((c : Config) → ¬ SaysConfig d c) →
    MatchResult r (λ c. SaysConfig d c) (λ _. (c : Config) → ¬ SaysConfig d c)
says_none r place d is none = subst (λ r. MatchResult r (λ c. SaysConfig d c) (λ _. (c : Config) → ¬ SaysConfig d c)) (sym is) none

pub returns-in_err-processes : goal.returns-in_err-processes
returns-in_err-processes c =
    let exit = err_from_is_err_and c.from_residual.result c.from_residual.ensures.1 in
    says_none c.from_residual.result exit.0 (view c.args.value.now) exit.1 (λ w says. never _ w.processes c.in_err-processes.ensures says.processes)

pub returns-in_err-resources : goal.returns-in_err-resources
returns-in_err-resources c =
    let exit = err_from_is_err_and c.from_residual-in_err-resources.result c.from_residual-in_err-resources.ensures.1 in
    says_none c.from_residual-in_err-resources.result exit.0 (view c.args.value.now) exit.1 (λ w says. never _ w.resources c.in_err-resources.ensures says.resources)

pub returns-in_err-label_limit : goal.returns-in_err-label_limit
returns-in_err-label_limit c =
    let exit = err_from_is_err_and c.from_residual-in_err-label_limit.result c.from_residual-in_err-label_limit.ensures.1 in
    says_none c.from_residual-in_err-label_limit.result exit.0 (view c.args.value.now) exit.1 (λ w says. never _ w.label_limit c.in_err-label_limit.ensures says.label_limit)

pub returns-in_err-generation_limit : goal.returns-in_err-generation_limit
returns-in_err-generation_limit c =
    let exit = err_from_is_err_and c.from_residual-in_err-generation_limit.result c.from_residual-in_err-generation_limit.ensures.1 in
    says_none c.from_residual-in_err-generation_limit.result exit.0 (view c.args.value.now) exit.1
    (λ w says. never _ w.generation_limit c.in_err-generation_limit.ensures says.generation_limit)
