use Rattle.std.proofs.Common.{◌≡◌, ◌<◌, ℕ, Option, None, Some, IfSome, refl, ap, sym, ◌∙◌, arith}
use Rattle.mm_transactions.specs.Transactions.{told}
use Rattle.mm_transactions.proofs.Lemmas.Told.{told_of, resource_of}
use Rattle.mm_transactions.proofs.transactions.Transactions.get.Goals as goal

from_each : (o : Option ℕ) (P : ℕ → Type 0) → ((r : ℕ) → o ≡ Some r → P r) → IfSome o P
from_each None P each = tt
from_each (Some r) P each = each r refl

pub returns-clause-told : goal.returns-clause-told
returns-clause-told c =
    let inside = c.self.inside in
    rw c.get-2.ensures (sym (told_of inside.arrivals.items inside.slots c.args.key c.in_ok-entry.entry.now (sym c.in_ok-entry.ensures) inside.queues inside.latest) ∙ ap (λ t. told t c.args.key) c.self.view_is)

pub returns-clause-in_range : goal.returns-clause-in_range
returns-clause-in_range c =
    let inside = c.self.inside in
    let entry = c.in_ok-entry.entry.now in
    rw c.get-2.ensures (from_each entry.waits_for (λ r. r < c.args.self.now.resources)
    (λ r waits. omega (arith, ap (λ t. t.resources) c.self.view_is, resource_of inside.arrivals.items inside.slots c.args.key entry (sym c.in_ok-entry.ensures) r inside.queues inside.latest inside.waiting waits c.self.invariant)))
