use Rattle.std.proofs.Common.{◌≡◌, ◌≤◌, ◌+◌, Ok, Err, inl, inr, refl, sym, ap, subst, ◌∙◌, arith}
use Rattle.mm_rules.specs.declared.config.Config.{Config}
use Rattle.mm_rules.specs.Event.{Begin, Step}
use Rattle.mm_rules.specs.Laws.{AtRest}
use Rattle.mm_rules.specs.TakeBack.{HasNoVictim}
use Rattle.mm_rules.specs.TableState.{TableState}
use Rattle.mm_rules.proofs.States.Config.{event_config}
use Rattle.mm_rules.proofs.States.Counts.{event_counts}
use Rattle.mm_settled.specs.SettledState.{SettledState}
use Rattle.mm_settled.specs.private.Lists.{Fits}
use Rattle.mm_settled.specs.private.Told.{GrantsNothing}
use Rattle.mm_settled.proofs.Lemmas.Fits.{fits_again}
use Rattle.mm_settled.proofs.Lemmas.Quiet.{begin_quiet, quiet_rests, same_is_quiet}
use Rattle.mm_settled.proofs.Lemmas.Refused.{begin_refused}
use Rattle.mm_settled.proofs.Lemmas.Told.{tells_nothing, stamped_before}
use Rattle.mm_settled.proofs.settled.SettledTable.begin.Goals as goal

-- ---- it is accepted

is_accepted : (c : goal.In-Ok) → Step Begin c.self.inside.parts.table (Ok c.in-Ok.key) c.begin.new.self
is_accepted c = rw c.in-Ok.is at c.begin.ensures

nothing : (c : goal.In-Ok) → GrantsNothing c.self.inside.parts.table c.begin.new.self c.self.inside.parts.lists.granted.items
nothing c =
    let s = c.self.inside.parts.table in
    let t = c.begin.new.self in
    let counted : t.totals.accepted ≡ s.totals.accepted + 1 = (event_counts Begin s t (Ok c.in-Ok.key) (is_accepted c)).0 in
    record { none = (begin_quiet s t c.begin.result c.keeps_laws.ensures c.begin.ensures).granted; silent = inl (omega (arith, counted)) }

pub invariant_of-self : goal.invariant_of-self
invariant_of-self c =
    let s = c.self.inside.parts.table in
    let quiet = begin_quiet s c.begin.new.self c.begin.result c.keeps_laws.ensures c.begin.ensures in
    record {
      rest = quiet_rests Begin s c.begin.new.self c.begin.result c.begin.ensures c.keeps_laws.ensures c.self.invariant.rest quiet;
      none = λ v. quiet.verdicts v ∙ c.self.invariant.none v;
      fits = subst (λ (f : Config). Fits f c.self.inside.parts.lists) (sym (event_config Begin s c.begin.new.self c.begin.result c.begin.ensures)) c.self.invariant.fits;
      told_at = stamped_before c.self.inside.told_at s c.begin.new.self c.self.inside.parts.lists.granted.items c.self.invariant.told_at (nothing c);
    }

pub returns-in-Ok-clause-step : goal.returns-in-Ok-clause-step
returns-in-Ok-clause-step c = subst (λ (old : SettledState). Step Begin old.table (Ok c.in-Ok.key) c.begin.new.self) c.self.view_is (is_accepted c)

pub returns-in-Ok-clause-told : goal.returns-in-Ok-clause-told
returns-in-Ok-clause-told c =
    tells_nothing c.self.inside.told_at c.self.inside.parts.table c.begin.new.self c.self.inside.parts.lists.granted.items c.self.invariant.told_at (nothing c) ∙ (nothing c).none

-- ---- it is refused

is_refused : (c : goal.After-clear) → Step Begin c.self.inside.parts.table (Err c.in-Err.refusal) c.begin.new.self
is_refused c = rw c.in-Err.is at c.begin.ensures

same : (c : goal.After-clear) → c.begin.new.self ≡ c.self.inside.parts.table
same c = begin_refused c.self.inside.parts.table c.begin.new.self c.in-Err.refusal (is_refused c)

pub invariant_of-self-in-Err : goal.invariant_of-self-in-Err
invariant_of-self-in-Err c =
    let s = c.self.inside.parts.table in
    let t = c.begin.new.self in
    let config = ap (λ (u : TableState). u.config) (same c) in
    record {
      rest = subst (λ (u : TableState). AtRest u) (sym (same c)) c.self.invariant.rest;
      none = subst (λ (u : TableState). HasNoVictim u) (sym (same c)) c.self.invariant.none;
      fits = fits_again s.config t.config c.self.inside.parts.lists (record c.self.inside.parts.lists { granted = c.clear.new.self }) config c.self.invariant.fits
          record { granted = c.clear.ensures.capacity; woken = refl; owned = refl; resources = refl };
      told_at = subst (λ (u : TableState). c.self.inside.told_at ≤ u.totals.accepted) (sym (same c)) c.self.invariant.told_at;
    }

pub returns-in-Err-clause-step : goal.returns-in-Err-clause-step
returns-in-Err-clause-step c = subst (λ (old : SettledState). Step Begin old.table (Err c.in-Err.refusal) c.begin.new.self) c.self.view_is (is_refused c)

pub returns-in-Err-clause-told : goal.returns-in-Err-clause-told
returns-in-Err-clause-told c =
    let s = c.self.inside.parts.table in
    let granted = c.clear.new.self.items in
    let nothing : GrantsNothing s c.begin.new.self granted = record { none = (same_is_quiet s c.begin.new.self c.keeps_laws.ensures (same c)).granted; silent = inr (same c, c.clear.ensures.items) } in
    tells_nothing c.self.inside.told_at s c.begin.new.self granted c.self.invariant.told_at nothing ∙ nothing.none
