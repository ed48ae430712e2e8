use Rattle.std.proofs.Common.{false, Result, Ok, Err, IfOk}
use Rattle.mm_arena.specs.declared.key.Key.{Key}
use Rattle.mm_rules.specs.Event.{Begin, Step}
use Rattle.mm_rules.specs.Laws.{Laws}
use Rattle.mm_rules.specs.TableState.{TableState}
use Rattle.mm_rules.proofs.States.Keys.{keys_are_fresh}
use Rattle.mm_rules.proofs.States.Lookups.{live_within}
use Rattle.mm_manager.specs.LockState.{LockState, HasOwnSlot}
use Rattle.mm_manager.specs.declared.refusal.Refusal.{Refusal}
use Rattle.mm_manager.specs.private.Handed.{seen}
use Rattle.mm_manager.proofs.Lemmas.Requests.{one_key}
use Rattle.mm_manager.proofs.Lemmas.Counted.{begin_counted, counts_fit}
use Rattle.mm_manager.proofs.Lemmas.CallLabels.{begun_labels}
use Rattle.mm_manager.proofs.manager.LockManager.begin.Goals as goal

pub count_begin-requires : goal.count_begin-requires
count_begin-requires c =
    let i = c.self.inside in
    let done = c.begin-answer in
    counts_fit _ done.new.self.table.table (begin_counted i.totals i.named.table.table done.new.self.table.table done.result c.self.invariant.counted done.ensures.begun done.ensures.same) done.ensures.sound.left

pub invariant_of-self : goal.invariant_of-self
invariant_of-self c =
    let i = c.self.inside in
    let done = c.begin-answer in
    record {
      sound = done.ensures.sound;
      counted = rw c.count_begin.ensures (begin_counted i.totals i.named.table.table done.new.self.table.table done.result c.self.invariant.counted done.ensures.begun done.ensures.same);
      labels = rw c.count_begin.ensures (begun_labels i.totals i.named.table.table done.new.self.table.table done.result c.self.invariant.labels done.ensures.begun done.ensures.same);
    }

-- the first free slot is the key's, and no two live keys have one slot
own_slot : (old : TableState) (m : LockState) (answer : Result Key Refusal) → Laws old → Laws m.table → IfOk answer (λ k. Step Begin old (Ok k) m.table) → IfOk answer (λ k. HasOwnSlot m k)
own_slot old m (Ok k) laws new begun =
    let live = (keys_are_fresh old m.table k begun laws).1 in
    (live_within m.table k new.lawful.well_formed.sizes live, λ other is same. one_key m.table other k is live same)
own_slot old m (Err refusal) laws new begun = tt

pub returns-clause-slot : goal.returns-clause-slot
returns-clause-slot c =
    let i = c.self.inside in
    let done = c.begin-answer in
    own_slot i.named.table.table (seen done.new.self false c.count_begin.new.self i.names_each) done.result c.is_at_rest.ensures.laws c.is_at_rest-2.ensures.laws done.ensures.begun
