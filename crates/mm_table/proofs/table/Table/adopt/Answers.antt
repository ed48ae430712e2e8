use Rattle.std.proofs.Common.{◌≡◌, ◌∙◌, ◌<◌, None, IsTrue, sym, subst, ap}
use Rattle.mm_rules.specs.TableState.{TableState, is_live, owner_of}
use Rattle.mm_rules.specs.Adopt.{Adopts}
use Rattle.mm_rules.proofs.States.Adopt.{adopt_keeps_laws}
use Rattle.mm_rules.proofs.States.Lookups.{live_within}
use Rattle.mm_settle_lemmas.specs.Touched.{Touches}
use Rattle.mm_settle_lemmas.proofs.Lemmas.Acquired.{touches_grant}
use Rattle.mm_table.proofs.Fields.Table.{touch_keeps_lawful}
use Rattle.mm_table.proofs.table.Table.adopt.Goals as goal

live : (c : goal.After-grant) → IsTrue (is_live c.self.inside.records c.args.key)
live c = subst (λ (s : TableState). IsTrue (is_live s c.args.key)) (sym c.self.view_is) c.requires.live

free : (c : goal.After-grant) → owner_of c.self.inside.records c.args.resource ≡ None
free c = ap (λ (s : TableState). owner_of s c.args.resource) c.self.view_is ∙ c.requires.free

adopts : (c : goal.After-grant) → Adopts c.args.key c.args.resource c.self.inside.records c.grant.new.self
adopts c = record { live = live c; free = free c; state = c.grant.ensures }

pub grant-requires-clause-key : goal.grant-requires-clause-key
grant-requires-clause-key c =
    subst (λ (s : TableState). c.args.key.process < s.config.processes) (sym c.self.view_is)
    (live_within c.args.self.now c.args.key c.keeps_laws.ensures.lawful.well_formed.sizes c.requires.live)

pub invariant_of-self : goal.invariant_of-self
invariant_of-self c =
    let s = c.self.inside.records in
    let set = c.self.inside.sets.changed in
    touch_keeps_lawful c.self.inside c.grant.new.self (adopt_keeps_laws c.args.key c.args.resource s c.grant.new.self (adopts c) c.self.invariant.laws)
    (ap (λ (t : TableState). t.config) c.grant.ensures) c.self.invariant set
    (subst (λ (t : TableState). Touches s t set set) (sym c.grant.ensures) (touches_grant s c.args.key c.args.resource set c.self.invariant.laws.lawful.well_formed (free c)))

pub returns : goal.returns
returns c = subst (λ (s : TableState). Adopts c.args.key c.args.resource s c.grant.new.self) c.self.view_is (adopts c)
