use Rattle.std.proofs.Common.{◌≡◌, Ok, inl, refl, sym, ap, ◌∙◌}
use Rattle.mm_rules.specs.TableState.{TableState}
use Rattle.mm_manager.specs.Permit.{first_refusal, may_ask, may_count, may_name}
use Rattle.mm_manager.specs.Calls.{Tries}
use Rattle.mm_manager.specs.private.Requests.{TryRefusedByNames}
use Rattle.mm_manager.specs.declared.refusal.Refusal.{Refusal}
use Rattle.mm_manager.specs.declared.reply.TryLock.{TryLock}
use Rattle.mm_manager.specs.private.Numbers.{bare}
use Rattle.mm_manager.proofs.Lemmas.Asked.{MayRequest, RequestKeeps, try_keeps}
use Rattle.mm_manager.proofs.Lemmas.May.{counted}
use Rattle.mm_manager.proofs.Lemmas.Requests.{if_refused, if_ok_refused, on_ok_refused, on_ok_so, on_refused, name_decides}
use Rattle.mm_manager.proofs.named.NamedTable.try_lock.Goals as goal

may : (c : goal.After-try_request) → MayRequest c.args.self.now.table.table
may c = record { laws = c.is_at_rest.ensures.laws; room = c.requires.left; below = counted c.args.self.now.table.table (ap may_count (sym c.table-2.ensures) ∙ sym c.in_ok-may_count.ensures) }

keeps : (c : goal.After-try_request) → RequestKeeps c.args.self.now.table.table c.try_request.new.self.table.table
keeps c =
    try_keeps c.args.self.now.table.table c.try_request.new.self.table.table c.args.self.now.names c.try_request.new.self.names c.args.key c.args.name.now c.try_request.result (may c)
    (λ answer is. rw is at c.try_request.ensures.tried) (λ e is. rw is at c.try_request.ensures.table)

pub returns-clause-sound : goal.returns-clause-sound
returns-clause-sound c = record { numbered = c.try_request.ensures.numbered; left = (keeps c).room }

-- ---- it is refused

pub returns-in_err-may_ask-clause-refused : goal.returns-in_err-may_ask-clause-refused
returns-in_err-may_ask-clause-refused c =
    let s = c.args.self.now.table.table in
    let t = c.args.self.now.names in
    if_refused c.from_residual.result c.in_err-may_ask.field-0.0 (λ (refusal : Refusal). TryRefusedByNames (bare s t) c.args.key c.args.name.now refusal) c.from_residual.ensures
    (inl (ap (λ a. first_refusal a (first_refusal (may_count s) (may_name t.name_bytes c.args.name.now))) (ap (λ (v : TableState). may_ask v c.args.key) (sym c.table.ensures) ∙ sym c.in_err-may_ask.ensures)))

pub returns-in_err-may_count-clause-refused : goal.returns-in_err-may_count-clause-refused
returns-in_err-may_count-clause-refused c =
    let s = c.args.self.now.table.table in
    let t = c.args.self.now.names in
    let asked : may_ask s c.args.key ≡ Ok tt = ap (λ (v : TableState). may_ask v c.args.key) (sym c.table.ensures) ∙ sym c.in_ok-may_ask.ensures in
    if_refused c.from_residual-in_err-may_count.result c.in_err-may_count.field-0.0 (λ (refusal : Refusal). TryRefusedByNames (bare s t) c.args.key c.args.name.now refusal) c.from_residual-in_err-may_count.ensures
    (inl (ap (λ a. first_refusal a (first_refusal (may_count s) (may_name t.name_bytes c.args.name.now))) asked
    ∙ ap (λ a. first_refusal a (may_name t.name_bytes c.args.name.now)) (ap may_count (sym c.table-2.ensures) ∙ sym c.in_err-may_count.ensures)))

pub returns-in_err-may_ask-clause-tried : goal.returns-in_err-may_ask-clause-tried
returns-in_err-may_ask-clause-tried c =
    let s = c.args.self.now.table.table in
    let t = c.args.self.now.names in
    if_ok_refused c.from_residual.result (λ (answer : TryLock). Tries s t c.args.key c.args.name.now answer s t) c.from_residual.ensures.0

pub returns-in_err-may_ask-clause-may : goal.returns-in_err-may_ask-clause-may
returns-in_err-may_ask-clause-may c = on_ok_refused c.from_residual.result _ c.from_residual.ensures.0

pub returns-in_err-may_ask-clause-table : goal.returns-in_err-may_ask-clause-table
returns-in_err-may_ask-clause-table c = on_refused c.from_residual.result _ refl

pub returns-in_err-may_ask-clause-names : goal.returns-in_err-may_ask-clause-names
returns-in_err-may_ask-clause-names c = on_refused c.from_residual.result _ refl

pub returns-in_err-may_count-clause-tried : goal.returns-in_err-may_count-clause-tried
returns-in_err-may_count-clause-tried c =
    let s = c.args.self.now.table.table in
    let t = c.args.self.now.names in
    if_ok_refused c.from_residual-in_err-may_count.result (λ (answer : TryLock). Tries s t c.args.key c.args.name.now answer s t) c.from_residual-in_err-may_count.ensures.0

pub returns-in_err-may_count-clause-may : goal.returns-in_err-may_count-clause-may
returns-in_err-may_count-clause-may c = on_ok_refused c.from_residual-in_err-may_count.result _ c.from_residual-in_err-may_count.ensures.0

pub returns-in_err-may_count-clause-table : goal.returns-in_err-may_count-clause-table
returns-in_err-may_count-clause-table c = on_refused c.from_residual-in_err-may_count.result _ refl

pub returns-in_err-may_count-clause-names : goal.returns-in_err-may_count-clause-names
returns-in_err-may_count-clause-names c = on_refused c.from_residual-in_err-may_count.result _ refl

-- ---- it is answered

pub returns-clause-may : goal.returns-clause-may
returns-clause-may c =
    let s = c.args.self.now.table.table in
    let asked : may_ask s c.args.key ≡ Ok tt = ap (λ (t : TableState). may_ask t c.args.key) (sym c.table.ensures) ∙ sym c.in_ok-may_ask.ensures in
    on_ok_so c.try_request.result _ _ (λ is. name_decides s c.args.self.now.names.name_bytes c.args.key c.args.name.now asked (may c).below ∙ is) c.try_request.ensures.named

pub returns-clause-tried : goal.returns-clause-tried
returns-clause-tried c = c.try_request.ensures.tried

pub returns-clause-refused : goal.returns-clause-refused
returns-clause-refused c = c.try_request.ensures.refused

pub returns-clause-table : goal.returns-clause-table
returns-clause-table c = c.try_request.ensures.table

pub returns-clause-names : goal.returns-clause-names
returns-clause-names c = c.try_request.ensures.names
