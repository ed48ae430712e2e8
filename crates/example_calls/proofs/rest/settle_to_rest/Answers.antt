use Rattle.example_calls.proofs.AtRest.{at_rest, few_raises}
use Rattle.example_calls.proofs.rest.settle_to_rest.Goals as goal

pub returns-clause-rest : goal.returns-clause-rest
returns-clause-rest c = at_rest c.settle_gives_rest.ensures c.args.table.now c.settle.new.self c.keeps_laws.ensures c.settle.result c.settle.ensures

pub returns-clause-raises : goal.returns-clause-raises
returns-clause-raises c = few_raises c.settle_gives_rest.ensures c.args.table.now c.settle.new.self c.keeps_laws.ensures c.settle.result c.settle.ensures
