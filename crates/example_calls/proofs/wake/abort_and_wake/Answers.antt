use Rattle.std.proofs.Common.{length, subst, sym, ap, ◌∙◌, arith}
use Rattle.mm_lists.specs.Members.{Among}
use Rattle.example_calls.specs.Wake.{active_keys}
use Rattle.example_calls.proofs.Woken.{changed_fit, all_woken}
use Rattle.example_calls.proofs.wake.abort_and_wake.Goals as goal

-- src/wake.rt:34:5
pub list_active-requires : goal.list_active-requires
list_active-requires c =
    let listed = ap length (c.deref.ensures.value ∙ c.abort_waking-answer.ensures.woken) in
    omega (arith, changed_fit c.args.table.now c.abort_waking-answer.new.self)

pub returns-clause-all : goal.returns-clause-all
returns-clause-all c = λ n k waited active.
    let t = c.abort_waking-answer.new.self in
    let woken = c.list_active.ensures.keys ∙ ap (active_keys t) (c.deref.ensures.value ∙ c.abort_waking-answer.ensures.woken) in
    subst (Among k) (sym woken) (all_woken c.args.table.now t n k active c.keeps_laws.ensures waited)
