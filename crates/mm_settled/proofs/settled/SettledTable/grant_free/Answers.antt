use Rattle.std.proofs.Common.{◌≡◌, ◌+◌, Ok, inl, sym, subst, ◌∙◌, arith}
use Rattle.mm_rules.specs.declared.config.Config.{Config}
use Rattle.mm_rules.specs.declared.reply.Acquired.TheVariants.{Granted}
use Rattle.mm_rules.specs.Event.{Acquire}
use Rattle.mm_rules.proofs.States.Config.{event_config}
use Rattle.mm_rules.proofs.States.Counts.{event_counts}
use Rattle.mm_settled.specs.private.Lists.{Fits}
use Rattle.mm_settled.specs.private.Told.{GrantsNothing}
use Rattle.mm_settled.proofs.Lemmas.Quiet.{GrantsNow, granted_quiet, quiet_rests}
use Rattle.mm_settled.proofs.Lemmas.Told.{tells_nothing, stamped_before}
use Rattle.mm_settled.proofs.settled.SettledTable.grant_free.Goals as goal

grants : (c : goal.After-grant_free) → GrantsNow c.self.inside.parts.table c.args.key c.grant_free.new.self
grants c = granted_quiet c.self.inside.parts.table c.grant_free.new.self c.args.key c.args.resource c.keeps_laws.ensures c.grant_free.ensures

nothing : (c : goal.After-grant_free) → GrantsNothing c.self.inside.parts.table c.grant_free.new.self c.self.inside.parts.lists.granted.items
nothing c =
    let s = c.self.inside.parts.table in
    let t = c.grant_free.new.self in
    let counted : t.totals.accepted ≡ s.totals.accepted + 1 = (event_counts (Acquire c.args.key c.args.resource) s t (Ok Granted) c.grant_free.ensures).0 in
    record { none = (grants c).quiet.granted; silent = inl (omega (arith, counted)) }

pub returns-clause-told : goal.returns-clause-told
returns-clause-told c =
    tells_nothing c.self.inside.told_at c.self.inside.parts.table c.grant_free.new.self c.self.inside.parts.lists.granted.items c.self.invariant.told_at (nothing c) ∙ (nothing c).none

pub invariant_of-self : goal.invariant_of-self
invariant_of-self c =
    let s = c.self.inside.parts.table in
    let t = c.grant_free.new.self in
    let now = event_config (Acquire c.args.key c.args.resource) s t (Ok Granted) c.grant_free.ensures in
    record {
      rest = quiet_rests (Acquire c.args.key c.args.resource) s t (Ok Granted) c.grant_free.ensures c.keeps_laws.ensures c.self.invariant.rest (grants c).quiet;
      none = λ v. (grants c).quiet.verdicts v ∙ c.self.invariant.none v;
      fits = subst (λ (f : Config). Fits f c.self.inside.parts.lists) (sym now) c.self.invariant.fits;
      told_at = stamped_before c.self.inside.told_at s t c.self.inside.parts.lists.granted.items c.self.invariant.told_at (nothing c);
    }
