use Rattle.std.proofs.Common.{◌≡◌, ℕ, Option, Some, None, true, false, is_some, refl, sym, subst, arith}
use Rattle.mm_rules.specs.TableState.{TableState, wait_of}
use Rattle.mm_rules.proofs.States.Lookups.{waiting_is_some, live_within}
use Rattle.mm_rules.proofs.States.GiveUp.{aborts_below}
use Rattle.mm_settle_lemmas.specs.Touched.{Touches}
use Rattle.mm_settle_lemmas.proofs.Lemmas.Added.{adds_set}
use Rattle.mm_settle_lemmas.proofs.Lemmas.Vacated.{touches_withdraw}
use Rattle.mm_table.proofs.records.Records.let_go_on.Goals as goal

pub take_back-requires-clause-waiting : goal.take_back-requires-clause-waiting
take_back-requires-clause-waiting c = waiting_is_some c.args.self.now c.args.key.process _ (c.requires.laws.convicted c.args.key.process c.requires.verdict).1.waits

pub take_back-requires-clause-count : goal.take_back-requires-clause-count
take_back-requires-clause-count c = omega (arith, aborts_below c.args.self.now c.args.key.process c.requires.laws c.requires.verdict, c.requires.count)

resource : (o : Option ℕ) → is_some o ≡ true → (r : ℕ) × (o ≡ Some r)
resource None waits = (let never : false ≡ true = waits in absurd (cc))
resource (Some r) waits = (r, refl)

pub returns-clause-touched : goal.returns-clause-touched
returns-clause-touched c =
    let s = c.args.self.now in
    let n = c.args.key.process in
    let old = c.args.touched.now in
    let new = c.add.new.self in
    let waits = resource (wait_of s n) (waiting_is_some s n _ (c.requires.laws.convicted n c.requires.verdict).1.waits) in
    subst (λ (t : TableState). Touches s t old new) (sym c.take_back.ensures)
    (touches_withdraw s n waits.0 old new waits.1 (adds_set old new n (omega (arith, live_within s c.args.key c.requires.laws.lawful.well_formed.sizes c.requires.live, c.requires.sized)) c.add.ensures))
