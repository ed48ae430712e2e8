use Rattle.std.proofs.Common.{◌≡◌, Ok, inl, refl, sym, ap, ◌∙◌}
use Rattle.mm_rules.specs.TableState.{TableState}
use Rattle.mm_manager.specs.Permit.{first_refusal, may_name, may_own}
use Rattle.mm_manager.specs.Calls.{AdoptsNumber}
use Rattle.mm_manager.specs.Refused.{AdoptRefused}
use Rattle.mm_manager.specs.declared.refusal.Refusal.{Refusal}
use Rattle.mm_manager.specs.declared.reply.TryLock.{TryLock}
use Rattle.mm_manager.specs.private.Numbers.{bare}
use Rattle.mm_manager.proofs.Lemmas.Adopted.{adoption_keeps}
use Rattle.mm_manager.proofs.Lemmas.Asked.{RequestKeeps}
use Rattle.mm_manager.proofs.Lemmas.May.{may_own_is}
use Rattle.mm_manager.proofs.Lemmas.Requests.{if_refused, if_ok_refused, on_ok_refused, on_ok_so, on_refused, adoption_decides}
use Rattle.mm_manager.proofs.named.NamedTable.adopt.Goals as goal

-- ---- it is refused

pub returns-in_err-may_own-clause-refused : goal.returns-in_err-may_own-clause-refused
returns-in_err-may_own-clause-refused c =
    let s = c.args.self.now.table.table in
    let t = c.args.self.now.names in
    if_refused c.from_residual.result c.in_err-may_own.field-0.0 (λ (refusal : Refusal). AdoptRefused (bare s t) c.args.key c.args.name.now refusal) c.from_residual.ensures
    (inl (ap (λ a. first_refusal a (may_name t.name_bytes c.args.name.now)) (ap (λ (v : TableState). may_own v c.args.key) (sym c.table.ensures) ∙ sym c.in_err-may_own.ensures)))

pub returns-in_err-may_own-clause-adopted : goal.returns-in_err-may_own-clause-adopted
returns-in_err-may_own-clause-adopted c =
    let s = c.args.self.now.table.table in
    let t = c.args.self.now.names in
    if_ok_refused c.from_residual.result (λ (answer : TryLock). AdoptsNumber s t c.args.key c.args.name.now answer s t) c.from_residual.ensures.0

pub returns-in_err-may_own-clause-may : goal.returns-in_err-may_own-clause-may
returns-in_err-may_own-clause-may c = on_ok_refused c.from_residual.result _ c.from_residual.ensures.0

pub returns-in_err-may_own-clause-table : goal.returns-in_err-may_own-clause-table
returns-in_err-may_own-clause-table c = on_refused c.from_residual.result _ refl

pub returns-in_err-may_own-clause-names : goal.returns-in_err-may_own-clause-names
returns-in_err-may_own-clause-names c = on_refused c.from_residual.result _ refl

-- ---- it is answered

may : (c : goal.After-adopt_live) → may_own c.args.self.now.table.table c.args.key ≡ Ok tt
may c = ap (λ (t : TableState). may_own t c.args.key) (sym c.table.ensures) ∙ sym c.in_ok-may_own.ensures

keeps : (c : goal.After-adopt_live) → RequestKeeps c.args.self.now.table.table c.adopt_live.new.self.table.table
keeps c =
    let s = c.args.self.now.table.table in
    adoption_keeps s c.adopt_live.new.self.table.table c.args.self.now.names c.adopt_live.new.self.names c.args.key c.args.name.now c.adopt_live.result
    (record { laws = c.is_at_rest.ensures.laws; room = c.requires.left; below = (may_own_is s c.args.key (may c)).1 })
    (λ answer is. rw is at c.adopt_live.ensures.adopted) (λ e is. rw is at c.adopt_live.ensures.table)

pub returns-clause-sound : goal.returns-clause-sound
returns-clause-sound c = record { numbered = c.adopt_live.ensures.numbered; left = (keeps c).room }

pub returns-clause-may : goal.returns-clause-may
returns-clause-may c =
    on_ok_so c.adopt_live.result _ _ (λ is. adoption_decides c.args.self.now.table.table c.args.self.now.names.name_bytes c.args.key c.args.name.now (may c) ∙ is) c.adopt_live.ensures.named

pub returns-clause-adopted : goal.returns-clause-adopted
returns-clause-adopted c = c.adopt_live.ensures.adopted

pub returns-clause-refused : goal.returns-clause-refused
returns-clause-refused c = c.adopt_live.ensures.refused

pub returns-clause-table : goal.returns-clause-table
returns-clause-table c = c.adopt_live.ensures.table

pub returns-clause-names : goal.returns-clause-names
returns-clause-names c = c.adopt_live.ensures.names
