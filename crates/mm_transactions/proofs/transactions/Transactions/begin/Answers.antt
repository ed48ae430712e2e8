use Rattle.std.proofs.Common.{◌≡◌, ℕ, [], ◌∷◌, List, ap, sym, ◌∙◌, slice_index}
use Rattle.std.proofs.lemmas.List.{get_or-map}
use Rattle.mm_arena.specs.declared.key.Key.{Key}
use Rattle.mm_arena.specs.Slots.{never_used}
use Rattle.mm_transactions.specs.Transactions.{key_of, begun}
use Rattle.mm_transactions.specs.private.Layout.{seen}
use Rattle.mm_transactions.proofs.Lemmas.Begin.{taken, begun_seen, begun_consistent}
use Rattle.mm_transactions.proofs.transactions.Transactions.begin.Goals as goal

abbrev key_at : ℕ → ℕ → Key
key_at n g = record { process = n; generation = g }

pub invariant_of-self-2 : goal.invariant_of-self-2
invariant_of-self-2 c =
    let inside = c.self.inside in
    (begun_consistent inside.arrivals.items inside.slots c.insert.new.self c.in-Ok.key c.insert.ensures.slots (taken inside.slots _ c.in-Ok.key c.in-Ok.ensures.key) c.in-Ok.ensures.added inside.queues inside.latest inside.waiting c.self.invariant)

pub returns : goal.returns
returns c =
    let inside = c.self.inside in
    let free = taken inside.slots _ c.in-Ok.key c.in-Ok.ensures.key in
    let process = c.in-Ok.key.process in
    let generation = get_or-map (λ q. q.generation) inside.slots.places process never_used 0 c.in-Ok.ensures.added.within in (
      λ none. let never : [] ≡ process ∷ free.rest = sym none ∙ ap (λ s. s.free) (sym c.self.view_is) ∙ free.free in cc,
      free.key_is ∙ ap (key_at process) (sym generation) ∙ ap (λ (l : List ℕ). key_of (seen inside.arrivals.items inside.slots inside.queues inside.latest) (slice_index l 0)) (sym free.free) ∙ ap (λ s. key_of s (slice_index s.free 0)) c.self.view_is,
      (begun_seen inside.arrivals.items inside.slots c.insert.new.self c.in-Ok.key c.insert.ensures.slots free c.in-Ok.ensures.added inside.queues inside.latest ∙ ap begun c.self.view_is),
    )
