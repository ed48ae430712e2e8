use Rattle.std.proofs.Common.{◌≡◌, ◌∙◌, Some, None, ap, sym, false}
use Rattle.mm_arena.specs.Slots.{lookup}
use Rattle.mm_rules.specs.TableState.{waited_for}
use Rattle.mm_transactions.specs.declared.transaction.Entry.{Entry}
use Rattle.mm_transactions.specs.Transactions.{is_live, verdict_of, freed}
use Rattle.mm_transactions.specs.private.Layout.{seen}
use Rattle.mm_transactions.proofs.Lemmas.Slots.{live_value, live_slot, its_verdict}
use Rattle.mm_transactions.proofs.Lemmas.Consistent.{waited_by_entry}
use Rattle.mm_transactions.proofs.Lemmas.End.{slot_freed, end_consistent}
use Rattle.mm_transactions.proofs.transactions.Transactions.end.Goals as goal

value : (c : goal.After-remove_live) → (e : Entry) × (lookup c.self.inside.slots c.args.key ≡ Some e)
value c =
    let inside = c.self.inside in
    live_value inside.arrivals.items inside.slots inside.queues inside.latest c.args.key (ap (λ t. is_live t c.args.key) c.self.view_is ∙ c.requires.live)

no_wait : (c : goal.After-remove_live) → (value c).0.waits_for ≡ None
no_wait c =
    sym (waited_by_entry c.self.inside.arrivals.items c.self.inside.slots c.args.key (value c).0 (value c).1) ∙ ap (λ t. waited_for t.waits c.args.key.process) c.self.view_is ∙ c.requires.active

pub invariant_of-self : goal.invariant_of-self
invariant_of-self c =
    let inside = c.self.inside in
    end_consistent inside.arrivals.items inside.slots c.args.key (value c).0 (value c).1 (no_wait c) c.remove_live.new.self c.remove_live.ensures.slots inside.queues inside.latest inside.waiting c.self.invariant

pub returns : goal.returns
returns c =
    let inside = c.self.inside in
    let no_verdict : (value c).0.has_verdict ≡ false = sym (its_verdict inside.slots c.args.key (value c).0 (value c).1) ∙ ap (λ t. verdict_of t c.args.key.process) c.self.view_is ∙ c.requires.no_verdict in
    ap (λ slots. seen inside.arrivals.items slots inside.queues inside.latest) c.remove_live.ensures.slots
    ∙ slot_freed inside.arrivals.items inside.slots c.args.key (value c).0 (value c).1 (no_wait c) inside.queues inside.latest no_verdict
    ∙ ap (λ t. freed t c.args.key.process) c.self.view_is

pub remove_live-requires : goal.remove_live-requires
remove_live-requires c =
    let inside = c.self.inside in
    live_slot inside.arrivals.items inside.slots inside.queues inside.latest c.args.key (ap (λ t. is_live t c.args.key) c.self.view_is ∙ c.requires.live)
