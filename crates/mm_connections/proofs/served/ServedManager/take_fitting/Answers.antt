use Rattle.std.proofs.Common.{◌<◌, ◌≤◌, ℕ, ap, subst, sym, refl}
use Rattle.mm_tagged_lists.specs.TaggedLists.{Listing, list_at}
use Rattle.mm_connections.specs.Begun.{aside_list}
use Rattle.mm_connections.specs.Hub.{Hub}
use Rattle.mm_connections.specs.private.Fits.{NoneFits}
use Rattle.mm_connections.specs.private.Served.{hub_of}
use Rattle.mm_connections.proofs.Lemmas.Drops.{too_long}
use Rattle.mm_connections.proofs.served.ServedManager.take_fitting.Goals as goal

pub returns-in_err-key-clause-taken : goal.returns-in_err-key-clause-taken
returns-in_err-key-clause-taken c =
    let none = sym c.in_err-key.ensures.first in
    rw c.from_residual.ensures (refl, subst (NoneFits c.args.left (hub_of c.args.self.now)) none tt)

pub returns-then-owned_len-left-clause-taken : goal.returns-then-owned_len-left-clause-taken
returns-then-owned_len-left-clause-taken c =
    let h : Hub = hub_of c.args.self.now in
    let n = aside_list c.args.connection in
    let key = c.in_ok-key.key in
    let first = c.in_ok-key.ensures.first in
    let more = subst (λ (m : ℕ). c.args.left < m) c.owned_len.ensures c.if-owned_len-left.true in
    (refl, too_long h key.process key.generation n first.1 c.args.left (list_at h.begun n) first.0 more)

pub returns-clause-taken : goal.returns-clause-taken
returns-clause-taken c =
    let old : Hub = hub_of c.args.self.now in
    let first = c.in_ok-key.ensures.first in
    let with_begun : Listing → Hub = λ b. record { manager = old.manager; begun = b; counts = old.counts; options = old.options } in
    (ap with_begun c.free.ensures.freed, first.0, first.1, subst (λ (m : ℕ). m ≤ c.args.left) c.owned_len.ensures c.if-owned_len-left.false)
