use Rattle.std.proofs.Common.{◌≡◌, Ok, Err, refl, sym, ap, subst, ◌∙◌}
use Rattle.mm_rules.specs.TableState.{TableState}
use Rattle.mm_rules.specs.Laws.{AtRest}
use Rattle.mm_rules.specs.Withdraw.{Withdraws}
use Rattle.mm_settled.specs.private.Lists.{ComesToRest}
use Rattle.mm_settled.proofs.Lemmas.Fits.{fits_again}
use Rattle.mm_settled.proofs.Lemmas.Quiet.{same_is_quiet}
use Rattle.mm_settled.proofs.Lemmas.Withdrawn.{withdraw_refused, refuses_withdrawal, withdrawal_as, withdrawal_carried, withdrawn_at_rest, withdrawn_verdicts, withdrawn_config, made_withdrawal}
use Rattle.mm_settled.proofs.parts.Parts.withdraw.Goals as goal

-- ---- the table refuses

is_refused : (c : goal.After-from_residual) → Withdraws c.args.key c.args.self.now.table (Err c.in_err-withdraw_waking.field-0.0) c.withdraw_waking.new.self
is_refused c = rw c.in_err-withdraw_waking.was at c.withdraw_waking.ensures.step

same : (c : goal.After-from_residual) → c.withdraw_waking.new.self ≡ c.args.self.now.table
same c = withdraw_refused c.args.key c.args.self.now.table c.withdraw_waking.new.self c.in_err-withdraw_waking.field-0.0 (is_refused c)

pub returns-in_err-withdraw_waking-clause-makes : goal.returns-in_err-withdraw_waking-clause-makes
returns-in_err-withdraw_waking-clause-makes c =
    withdrawal_as c.args.key c.args.self.now.table c.withdraw_waking.new.self c.from_residual.result c.in_err-withdraw_waking.field-0.0 c.from_residual.ensures
    (refuses_withdrawal c.args.key c.args.self.now.table c.withdraw_waking.new.self c.in_err-withdraw_waking.field-0.0 (sym c.has_room.ensures ∙ c.if-not-has_room.false) (is_refused c) (same c))

pub returns-in_err-withdraw_waking-clause-others : goal.returns-in_err-withdraw_waking-clause-others
returns-in_err-withdraw_waking-clause-others c = (same_is_quiet c.args.self.now.table c.withdraw_waking.new.self c.keeps_laws.ensures (same c)).verdicts

pub returns-in_err-withdraw_waking-clause-config : goal.returns-in_err-withdraw_waking-clause-config
returns-in_err-withdraw_waking-clause-config c = ap (λ (t : TableState). t.config) (same c)

pub returns-in_err-withdraw_waking-clause-rest : goal.returns-in_err-withdraw_waking-clause-rest
returns-in_err-withdraw_waking-clause-rest c = subst (λ (t : TableState). AtRest t) (sym (same c)) c.requires.rest

pub returns-in_err-withdraw_waking-clause-fits : goal.returns-in_err-withdraw_waking-clause-fits
returns-in_err-withdraw_waking-clause-fits c =
    fits_again c.args.self.now.table.config c.withdraw_waking.new.self.config c.args.self.now.lists (record c.args.self.now.lists { granted = c.clear.new.self; woken = c.withdraw_waking.new.wake })
    (ap (λ (t : TableState). t.config) (same c)) c.requires.fits record { granted = c.clear.ensures.capacity; woken = c.withdraw_waking.ensures.room; owned = refl; resources = refl }

pub returns-in_err-withdraw_waking-clause-carried : goal.returns-in_err-withdraw_waking-clause-carried
returns-in_err-withdraw_waking-clause-carried c =
    withdrawal_carried c.args.key c.args.self.now.table c.withdraw_waking.new.self c.from_residual.result c.keeps_laws.ensures
    (withdrawal_as c.args.key c.args.self.now.table c.withdraw_waking.new.self c.from_residual.result c.in_err-withdraw_waking.field-0.0 c.from_residual.ensures
    (refuses_withdrawal c.args.key c.args.self.now.table c.withdraw_waking.new.self c.in_err-withdraw_waking.field-0.0 (sym c.has_room.ensures ∙ c.if-not-has_room.false) (is_refused c) (same c)))

-- ---- it is accepted

is_accepted : (c : goal.After-come_to_rest) → Withdraws c.args.key c.args.self.now.table (Ok tt) c.withdraw_waking.new.self
is_accepted c = rw c.in_ok-withdraw_waking.was at c.withdraw_waking.ensures.step

rests : (c : goal.After-come_to_rest) → ComesToRest c.withdraw_waking.new.self c.withdraw_waking.new.wake.items c.come_to_rest.new.table
rests c = subst (λ ns. ComesToRest c.withdraw_waking.new.self ns c.come_to_rest.new.table) c.deref.ensures.value c.come_to_rest.ensures

pub returns-clause-makes : goal.returns-clause-makes
returns-clause-makes c =
    made_withdrawal c.args.key c.args.self.now.table c.withdraw_waking.new.self c.come_to_rest.new.table c.keeps_laws.ensures c.requires.rest (is_accepted c)
    c.withdraw_waking.new.wake.items c.withdraw_waking.ensures.woken (rests c) (sym c.has_room.ensures ∙ c.if-not-has_room.false)

pub returns-clause-others : goal.returns-clause-others
returns-clause-others c =
    withdrawn_verdicts c.args.key c.args.self.now.table c.withdraw_waking.new.self c.come_to_rest.new.table c.keeps_laws.ensures c.requires.rest (is_accepted c)
    c.withdraw_waking.new.wake.items c.withdraw_waking.ensures.woken (rests c)

pub returns-clause-config : goal.returns-clause-config
returns-clause-config c =
    withdrawn_config c.args.key c.args.self.now.table c.withdraw_waking.new.self c.come_to_rest.new.table c.keeps_laws.ensures c.requires.rest (is_accepted c)
    c.withdraw_waking.new.wake.items c.withdraw_waking.ensures.woken (rests c)

pub returns-clause-rest : goal.returns-clause-rest
returns-clause-rest c =
    withdrawn_at_rest c.args.key c.args.self.now.table c.withdraw_waking.new.self c.come_to_rest.new.table c.keeps_laws.ensures c.requires.rest (is_accepted c)
    c.withdraw_waking.new.wake.items c.withdraw_waking.ensures.woken (rests c)

pub returns-clause-fits : goal.returns-clause-fits
returns-clause-fits c =
    fits_again c.args.self.now.table.config c.come_to_rest.new.table.config c.args.self.now.lists (record c.args.self.now.lists { granted = c.clear.new.self; woken = c.withdraw_waking.new.wake })
    (withdrawn_config c.args.key c.args.self.now.table c.withdraw_waking.new.self c.come_to_rest.new.table c.keeps_laws.ensures c.requires.rest (is_accepted c) c.withdraw_waking.new.wake.items c.withdraw_waking.ensures.woken (rests c))
    c.requires.fits record { granted = c.clear.ensures.capacity; woken = c.withdraw_waking.ensures.room; owned = refl; resources = refl }
