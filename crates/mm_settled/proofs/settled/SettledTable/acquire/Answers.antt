use Rattle.std.proofs.Common.{refl, ◌∙◌, subst}
use Rattle.std.specs.Prelude.{OnOk, ◌↔◌, IsTrue}
use Rattle.mm_rules.specs.TakeBack.{WouldClose}
use Rattle.mm_settled.specs.Calls.{IsDeadlock}
use Rattle.mm_settled.specs.SettledState.{SettledState}
use Rattle.mm_settled.proofs.Lemmas.Fits.{fits_again}
use Rattle.mm_settled.proofs.Lemmas.Lock.{deadlock_iff}
use Rattle.mm_settled.proofs.Lemmas.Told.{tells_nothing, stamped_before}
use Rattle.mm_settled.proofs.settled.SettledTable.acquire.Goals as goal

pub returns-clause-deadlock : goal.returns-clause-deadlock
returns-clause-deadlock c = subst (λ (old : SettledState). OnOk c.acquire.result (IsTrue (IsDeadlock c.acquire.result) ↔ WouldClose old.table c.args.key c.args.resource)) c.self.view_is
    (deadlock_iff c.self.inside.parts.table c.acquire.new.table c.args.key c.args.resource c.acquire.result c.acquire.ensures.locks)

pub returns-clause-told : goal.returns-clause-told
returns-clause-told c =
    tells_nothing c.self.inside.told_at c.self.inside.parts.table c.acquire.new.table c.acquire.new.granted.items c.self.invariant.told_at c.acquire.ensures.nothing ∙ c.acquire.ensures.nothing.none

pub invariant_of-self : goal.invariant_of-self
invariant_of-self c =
    let s = c.self.inside.parts.table in
    let t = c.acquire.new.table in
    record {
      rest = c.acquire.ensures.rest;
      none = c.acquire.ensures.none;
      fits = fits_again s.config t.config c.self.inside.parts.lists (record c.self.inside.parts.lists { granted = c.acquire.new.granted }) c.acquire.ensures.config c.self.invariant.fits
          record { granted = c.acquire.ensures.room; woken = refl; owned = refl; resources = refl };
      told_at = stamped_before c.self.inside.told_at s t c.acquire.new.granted.items c.self.invariant.told_at c.acquire.ensures.nothing;
    }
