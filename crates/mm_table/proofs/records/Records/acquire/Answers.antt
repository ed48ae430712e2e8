use Rattle.std.proofs.Common.{◌≡◌, ◌+◌, Some, ap, sym, subst, ◌∙◌, Err, arith, rules}
use Rattle.mm_rules.specs.TableState.{TableState, owner_of}
use Rattle.mm_rules.specs.Event.{resource_tests, acquire_tests, acquire_answer, acquire_change}
use Rattle.mm_rules.proofs.States.Outcome.{refused_first, counting}
use Rattle.mm_settle_lemmas.specs.Touched.{Touches}
use Rattle.mm_settle_lemmas.proofs.Lemmas.Acquired.{touches_grant, touches_wait}
use Rattle.mm_settle_lemmas.proofs.Lemmas.Told.{touches_counted}
use Rattle.mm_settle_lemmas.proofs.Lemmas.Touched.{unchanged, touches_nobody}
use Rattle.mm_table.specs.private.LabelLimit.{waiting}
use Rattle.mm_table.proofs.Fields.Gives.{gives_refused, gives_granted, gives_owned, gives_exhausted, gives_waits}
use Rattle.mm_table.proofs.records.Records.acquire.Goals as goal

-- ---- it is refused at first

pub returns-in_err-may_use-clause-step : goal.returns-in_err-may_use-clause-step
returns-in_err-may_use-clause-step c =
    let told : c.from_residual.result ≡ Err c.in_err-may_use.field-0.0 = search rules in
    let s = c.args.self.now in
    let k = c.args.key in
    let r = c.args.resource in
    let refused = refused_first (resource_tests s k r) _ c.in_err-may_use.field-0.0 (sym c.may_use.ensures.tests ∙ c.in_err-may_use.was) in
    let gives = gives_refused (acquire_tests s k r) c.in_err-may_use.field-0.0 s (acquire_answer s k (owner_of s r)) (acquire_change s k r (owner_of s r)) refused in
    (told ∙ gives.0, gives.1)

pub returns-in_err-may_use-clause-touched : goal.returns-in_err-may_use-clause-touched
returns-in_err-may_use-clause-touched c = touches_nobody c.args.self.now c.args.self.now c.args.touched.now (λ n. unchanged c.args.self.now n)

-- ---- nobody owns the resource

pub returns-in_default-clause-step : goal.returns-in_default-clause-step
returns-in_default-clause-step c =
    let passed = sym c.may_use.ensures.tests ∙ c.in_ok-may_use.was in
    let owned = sym c.owner_of.ensures.owner in
    let gives = gives_granted c.args.self.now c.args.key c.args.resource passed (owned ∙ c.in_default.is) in
    (gives.0, c.count.ensures ∙ ap (λ (t : TableState). counting t (t.totals.accepted + 1)) c.grant.ensures ∙ gives.1)

pub returns-in_default-clause-touched : goal.returns-in_default-clause-touched
returns-in_default-clause-touched c =
    let owned = sym c.owner_of.ensures.owner in
    let s = c.args.self.now in
    let set = c.args.touched.now in
    subst (λ (t : TableState). Touches s t set set) (sym c.count.ensures)
    (touches_counted s c.grant.new.self set set _
    (subst (λ (t : TableState). Touches s t set set) (sym c.grant.ensures) (touches_grant s c.args.key c.args.resource set c.requires.laws.lawful.well_formed (owned ∙ c.in_default.is))))

-- ---- the key owns it

pub returns-then-holder-key-clause-step : goal.returns-then-holder-key-clause-step
returns-then-holder-key-clause-step c =
    let passed = sym c.may_use.ensures.tests ∙ c.in_ok-may_use.was in
    let owned = sym c.owner_of.ensures.owner in
    gives_owned c.args.self.now c.args.key c.args.resource passed c.in-Some.holder (owned ∙ c.in-Some.is) c.if-holder-key.true

pub returns-then-holder-key-clause-touched : goal.returns-then-holder-key-clause-touched
returns-then-holder-key-clause-touched c = touches_nobody c.args.self.now c.args.self.now c.args.touched.now (λ n. unchanged c.args.self.now n)

-- ---- another owns it

pub returns-in_default-wait-clause-step : goal.returns-in_default-wait-clause-step
returns-in_default-wait-clause-step c =
    let passed = sym c.may_use.ensures.tests ∙ c.in_ok-may_use.was in
    let owned = sym c.owner_of.ensures.owner in
    let waits = c.in_default-wait.ensures.state in
    let gives = gives_exhausted c.args.self.now c.args.key c.args.resource passed c.in-Some.holder (owned ∙ c.in-Some.is) c.if-holder-key.false waits.0 in
    (gives.0, waits.1 ∙ gives.1)

pub returns-in_default-wait-clause-touched : goal.returns-in_default-wait-clause-touched
returns-in_default-wait-clause-touched c =
    let s = c.args.self.now in
    let old = c.args.touched.now in
    subst (λ (t : TableState). Touches s t old c.wait.new.touched) (sym c.in_default-wait.ensures.state.1)
    (subst (Touches s s old) (sym c.in_default-wait.ensures.touched) (touches_nobody s s old (λ n. unchanged s n)))

pub returns-clause-step : goal.returns-clause-step
returns-clause-step c =
    let passed = sym c.may_use.ensures.tests ∙ c.in_ok-may_use.was in
    let owned = sym c.owner_of.ensures.owner in
    let waits = c.in-Some-wait.ensures.state in
    gives_waits c.args.self.now c.args.key c.args.resource passed c.in-Some.holder c.in-Some-wait.label c.wait.new.self (owned ∙ c.in-Some.is) c.if-holder-key.false waits.0 waits.1 waits.2

pub returns-clause-touched : goal.returns-clause-touched
returns-clause-touched c =
    let s = c.args.self.now in
    let k = c.args.key in
    let r = c.args.resource in
    let h = c.in-Some.holder in
    let waited = c.in-Some-wait.ensures in
    let old = c.args.touched.now in
    let new = c.wait.new.touched in
    subst (λ (t : TableState). Touches s t old new) (sym (waited.state.2 ∙ ap (waiting s k r) waited.state.1))
    (touches_counted s (acquire_change s k r (Some h)) old new _
    (touches_wait s k h r old new (omega (arith, c.requires.laws.lawful.well_formed.sizes.public, c.in_ok-may_use.ensures.in_range)) waited.touched))
