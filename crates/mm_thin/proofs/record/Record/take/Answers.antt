use Rattle.std.proofs.Common.{[], ◌∷◌, ap, ◌∙◌, refl, arith}
use Rattle.atomic_table.specs.Table.{rest}
use Rattle.mm_thin.specs.declared.views.Part.TheVariants.{Record}
use Rattle.mm_thin.specs.Steps.{SeatState, record_in, text_in}
use Rattle.mm_thin.proofs.Calls.{record_idle, held_rest, exchanged, may_take}
use Rattle.mm_thin.proofs.record.Record.take.Goals as goal

pub slot_mut-text-requires : goal.slot_mut-text-requires
slot_mut-text-requires c =
    let i = c.self.invariant in
    let me = c.self.inside.seat.me in
    let is = record_idle me i.0.0 i.0.1 (ap (λ v. v.1.taken) c.self.view_is ∙ c.requires.idle) in
    let from = c.from-number.ensures in
    let own = i.1 in
    (ap (λ v. v.0) c.self.view_is ∙ c.requires.table, held_rest me.1 (record_in me.0).number c.from-number.result (text_in me.1) (ap (λ (m : SeatState). m.1) is) (omega arith))

pub compare_exchange-requires : goal.compare_exchange-requires
compare_exchange-requires c =
    let i = c.self.invariant in
    let me = c.self.inside.seat.me in
    let idle = ap (λ v. v.1.taken) c.self.view_is ∙ c.requires.idle in
    let is = record_idle me i.0.0 i.0.1 idle in
    let from = c.from-number.ensures in
    let own = i.1 in
    let text = c.set.new.self in
    let now : SeatState = (me.0, (c.from-number.result, text) ∷ rest me.1) in
    let table = ap (λ v. v.0) c.self.view_is ∙ c.requires.table in
    let slots = ap (λ k. k.slots) table in
    let slot = i.0.2 in
    let key = c.requires.key in
    let below = c.requires.bucket in (
      table,
      below,
      may_take c.args.steps.now.key c.args.steps.now.table_id.slots c.self.inside.seat.id c.args.bucket now (record_in me.0) text
          (exchanged me now (Record (record_in me.0) ∷ []) (record_in me.0).number c.from-number.result (text_in me.1) text is (omega arith) refl)
          (omega arith) idle _ (omega arith) (omega arith),
    )
