use Rattle.std.proofs.Common.{◌≡◌, ◌+◌, ◌<◌, rules, ℕ, Ok, Err, true, false, Option, Some, None, is_some, refl, ap, sym, subst, ◌∙◌, arith, IsTrue}
use Rattle.std.proofs.lemmas.Grind.{common_steps}
use Rattle.mm_rules.specs.TableState.{TableState, is_live, wait_of}
use Rattle.mm_rules.specs.Change.{abort, vacate, vacate_fits, take_back}
use Rattle.mm_rules.specs.Event.{abort_tests, allowed, decided}
use Rattle.mm_rules.specs.Laws.{Laws}
use Rattle.mm_rules.proofs.States.Activate.{waits_no_longer}
use Rattle.mm_rules.proofs.States.GiveUp.{take_back_keeps}
use Rattle.mm_rules.proofs.States.Abort.{fits_still}
use Rattle.mm_rules.proofs.States.Totals.{vacate_totals}
use Rattle.mm_rules.proofs.States.Lookups.{waiting_is_some, live_within}
use Rattle.mm_settle_lemmas.specs.Touched.{Touches}
use Rattle.mm_settle_lemmas.specs.Steps.Vacating.{IsVacating}
use Rattle.mm_settle_lemmas.proofs.Lemmas.Added.{adds_set}
use Rattle.mm_settle_lemmas.proofs.Lemmas.Told.{touches_counted}
use Rattle.mm_settle_lemmas.proofs.Lemmas.Touched.{unchanged, touches_nobody}
use Rattle.mm_settle_lemmas.proofs.Lemmas.Vacated.{abort_touches}
use Rattle.mm_table.proofs.Fields.Gives.{gives_refused}
use Rattle.mm_table.proofs.records.Records.abort.Goals as goal

pub returns-in_err-may_abort-clause-step : goal.returns-in_err-may_abort-clause-step
returns-in_err-may_abort-clause-step c =
    let told : c.from_residual.result ≡ Err c.in_err-may_abort.field-0.0 = search rules in
    let s = c.args.self.now in
    let gives = gives_refused (abort_tests s c.args.key) c.in_err-may_abort.field-0.0 s tt (abort s c.args.key.process) (sym c.may_abort.ensures.tests ∙ c.in_err-may_abort.was) in
    (told ∙ gives.0, gives.1)

pub returns-in_err-may_abort-clause-touched : goal.returns-in_err-may_abort-clause-touched
returns-in_err-may_abort-clause-touched c = touches_nobody c.args.self.now c.args.self.now c.args.touched.now (λ n. unchanged c.args.self.now n)

pub take_back-requires-clause-live : goal.take_back-requires-clause-live
take_back-requires-clause-live c = c.in_ok-may_abort.ensures.live

pub take_back-requires-clause-waiting : goal.take_back-requires-clause-waiting
take_back-requires-clause-waiting c =
    waiting_is_some c.args.self.now c.args.key.process _ (c.requires.laws.convicted c.args.key.process c.in_ok-may_abort.ensures.verdict).1.waits

pub vacate-requires-clause-live : goal.vacate-requires-clause-live
vacate-requires-clause-live c = subst (λ (s : TableState). IsTrue (is_live s c.args.key)) (sym c.take_back.ensures) c.in_ok-may_abort.ensures.live

pub vacate-requires-clause-laws : goal.vacate-requires-clause-laws
vacate-requires-clause-laws c = subst Laws (sym c.take_back.ensures) (take_back_keeps c.args.self.now c.args.key.process c.requires.laws c.in_ok-may_abort.ensures.verdict).laws

pub vacate-requires-clause-active : goal.vacate-requires-clause-active
vacate-requires-clause-active c = ap (λ s. wait_of s c.args.key.process) c.take_back.ensures ∙ waits_no_longer c.args.self.now c.args.key.process

pub vacate-requires-clause-fits : goal.vacate-requires-clause-fits
vacate-requires-clause-fits c =
    subst (λ (s : TableState). IsTrue (vacate_fits s c.args.key.process)) (sym c.take_back.ensures) (fits_still c.args.self.now c.args.key.process c.requires.laws c.in_ok-may_abort.ensures.fits)

pub count-requires : goal.count-requires
count-requires c =
    let same = ap (λ s. s.totals.accepted) c.vacate.ensures.state ∙ ap (λ t. t.accepted) (vacate_totals c.take_back.new.self c.args.key.process) ∙ ap (λ s. s.totals.accepted) c.take_back.ensures in
    subst (λ n. n < 4611686018427387904) (sym same) (search rules)

resource : (o : Option ℕ) → is_some o ≡ true → (r : ℕ) × (o ≡ Some r)
resource None waits = (let never : false ≡ true = waits in absurd (cc))
resource (Some r) waits = (r, refl)

pub returns-clause-touched : goal.returns-clause-touched
returns-clause-touched c =
    let s = c.args.self.now in
    let n = c.args.key.process in
    let old = c.args.touched.now in
    let mid = c.add.new.self in
    let new = c.vacate.new.touched in
    let u = c.vacate.new.self in
    let waits = resource (wait_of s n) (waiting_is_some s n _ (c.requires.laws.convicted n c.in_ok-may_abort.ensures.verdict).1.waits) in
    let vacated : IsVacating (take_back s n) n u mid new = subst (λ (t : TableState). IsVacating t n u mid new) c.take_back.ensures c.vacate.ensures.touched in
    subst (λ (t : TableState). Touches s t old new) (sym c.count.ensures)
    (touches_counted s u old new _ (abort_touches s u n waits.0 old mid new waits.1 (adds_set old mid n (omega (arith, live_within s c.args.key c.requires.laws.lawful.well_formed.sizes c.in_ok-may_abort.ensures.live, c.requires.sized)) c.add.ensures) vacated))

pub returns-clause-step : goal.returns-clause-step
returns-clause-step c =
    let s = c.args.self.now in
    let n = c.args.key.process in
    let passed : allowed (abort_tests s c.args.key) ≡ Ok tt = sym c.may_abort.ensures.tests ∙ c.in_ok-may_abort.was in
    let given = sym (ap (λ v. decided v s tt (abort s n)) passed) in
    let vacated : c.vacate.new.self ≡ abort s n = c.vacate.ensures.state ∙ ap (λ (t : TableState). vacate t n) c.take_back.ensures in (
      ap (λ o. o.reply) given,
      c.count.ensures ∙ ap (λ (t : TableState). record t { totals = record t.totals { accepted = t.totals.accepted + 1 } }) vacated ∙ ap (λ o. o.state) given,
    )

pub add-requires : goal.add-requires
add-requires c = grind (arith, common_steps)
