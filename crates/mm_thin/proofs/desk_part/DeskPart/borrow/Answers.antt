use Rattle.std.proofs.Common.{◌+◌, refl, sym, ap, ◌∙◌, arith}
use Rattle.mm_thin.specs.declared.views.DeskView.{DeskView}
use Rattle.mm_thin.specs.Views.{with_lent}
use Rattle.mm_thin.specs.Steps.{SeatState, desk_in}
use Rattle.mm_thin.specs.Parts.{view_in}
use Rattle.mm_thin.proofs.Calls.{desk_seat, may_borrow, borrowed, held_rest, may_put_back, lent_badge, lent_view}
use Rattle.mm_thin.proofs.desk_part.DeskPart.borrow.Goals as goal

pub compare_exchange-word-requires : goal.compare_exchange-word-requires
compare_exchange-word-requires c =
    let i = c.into_seat-seat.ensures in
    let me = c.into_seat-seat.result.me in
    let badge = c.self.inside.badge.views in
    let seat = desk_seat badge me (ap (λ b. b.views) (sym c.replace-badge.ensures.value) ∙ i.2) i.3 c.self.invariant.0.0 in
    let key = c.requires.key in
    let below = c.requires.bucket in
    let from = c.from-thin.ensures in (
      i.0 ∙ ap (λ b. b.table_id) c.replace-badge.ensures.value ∙ ap (λ v. v.0) c.self.view_is ∙ c.requires.table,
      below,
      may_borrow c.args.steps.now.key c.args.steps.now.table_id.slots c.into_seat-seat.result.id c.args.bucket me (desk_in (view_in badge)) seat (omega arith) c.args.number _ (omega arith) c.self.invariant.0.1,
    )

pub exchange-text-requires : goal.exchange-text-requires
exchange-text-requires c =
    let i = c.into_seat-seat.ensures in
    let me = c.into_seat-seat.result.me in
    let badge = c.self.inside.badge.views in
    let seat = desk_seat badge me (ap (λ b. b.views) (sym c.replace-badge.ensures.value) ∙ i.2) i.3 c.self.invariant.0.0 in
    let x = c.compare_exchange-word.ensures in
    let from = c.from-thin.ensures in
    let got = borrowed c.args.steps.now.table_id.slots c.args.bucket c.args.number (desk_in (view_in badge)) me c.compare_exchange-word.new.seat.me c.compare_exchange-word.result (c.from-thin.result + 4) seat x.2 c.if-word-thin.false (omega arith) in (
      x.0 ∙ i.0 ∙ ap (λ b. b.table_id) c.replace-badge.ensures.value ∙ ap (λ v. v.0) c.self.view_is ∙ c.requires.table,
      held_rest c.compare_exchange-word.new.seat.me.1 c.args.number c.args.number got.0 (ap (λ (m : SeatState). m.1) got.1) refl,
    )

pub store-requires : goal.store-requires
store-requires c =
    let i = c.into_seat-seat.ensures in
    let me = c.into_seat-seat.result.me in
    let badge = c.self.inside.badge.views in
    let d = desk_in (view_in badge) in
    let seat = desk_seat badge me (ap (λ b. b.views) (sym c.replace-badge.ensures.value) ∙ i.2) i.3 c.self.invariant.0.0 in
    let slots = c.args.steps.now.table_id.slots in
    let x = c.compare_exchange-word.ensures in
    let e = c.exchange-text.ensures in
    let f = c.exchange.ensures in
    let from = c.from-thin.ensures in
    let key = c.requires.key in
    let below = c.requires.bucket in (
      f.0 ∙ e.0 ∙ x.0 ∙ i.0 ∙ ap (λ b. b.table_id) c.replace-badge.ensures.value ∙ ap (λ v. v.0) c.self.view_is ∙ c.requires.table,
      below,
      may_put_back slots c.args.bucket c.args.number d me c.compare_exchange-word.new.seat.me c.compare_exchange-word.result (c.from-thin.result + 4) seat x.2 c.if-word-thin.false (omega arith) c.exchange-text.new.seat.me c.exchange.new.seat.me c.exchange.new.seat.me c.exchange-text.result c.none.result e.2 e.3 f.3 c.args.steps.now.key c.exchange.new.seat.id (omega arith),
    )

pub invariant_of-self-2 : goal.invariant_of-self-2
invariant_of-self-2 c =
    let i = c.into_seat-seat.ensures in
    let me = c.into_seat-seat.result.me in
    let badge = c.self.inside.badge.views in
    let d = desk_in (view_in badge) in
    let seat = desk_seat badge me (ap (λ b. b.views) (sym c.replace-badge.ensures.value) ∙ i.2) i.3 c.self.invariant.0.0 in
    let slots = c.args.steps.now.table_id.slots in
    let x = c.compare_exchange-word.ensures in
    let e = c.exchange-text.ensures in
    let f = c.exchange.ensures in
    let from = c.from-thin.ensures in
    let now = lent_badge slots c.args.bucket c.args.number d me c.compare_exchange-word.new.seat.me c.compare_exchange-word.result (c.from-thin.result + 4) seat x.2 c.if-word-thin.false (omega arith) c.exchange-text.new.seat.me c.exchange.new.seat.me c.store.new.seat.me c.exchange-text.result c.none.result e.2 e.3 f.3 c.into_badge-2.result.views c.into_badge-2.ensures.2 c.store.ensures.2 c.self.invariant.0.1 in
    ((now.0, now.1), c.self.invariant.1 ∙ sym (ap (λ (v : DeskView). v.records) now.2))

pub returns-clause-some : goal.returns-clause-some
returns-clause-some c =
    let i = c.into_seat-seat.ensures in
    let me = c.into_seat-seat.result.me in
    let badge = c.self.inside.badge.views in
    let d = desk_in (view_in badge) in
    let seat = desk_seat badge me (ap (λ b. b.views) (sym c.replace-badge.ensures.value) ∙ i.2) i.3 c.self.invariant.0.0 in
    let slots = c.args.steps.now.table_id.slots in
    let x = c.compare_exchange-word.ensures in
    let e = c.exchange-text.ensures in
    let f = c.exchange.ensures in
    let from = c.from-thin.ensures in
    lent_view slots c.args.bucket c.args.number d me c.compare_exchange-word.new.seat.me c.compare_exchange-word.result (c.from-thin.result + 4) seat x.2 c.if-word-thin.false (omega arith) c.exchange-text.new.seat.me c.exchange.new.seat.me c.store.new.seat.me c.exchange-text.result c.none.result e.2 e.3 f.3 c.into_badge-2.result.views c.into_badge-2.ensures.2 c.store.ensures.2 c.self.invariant.0.1 c.copy-name.result c.copy-name.ensures
    ∙ ap (λ (v : DeskView). with_lent v c.args.bucket c.args.number c.copy-name.result) (ap (λ v. v.1) c.self.view_is)
