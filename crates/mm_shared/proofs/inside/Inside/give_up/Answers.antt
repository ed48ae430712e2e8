use Rattle.std.proofs.Common.{refl, subst, sym, arith, ap}
use Rattle.mm_board.specs.declared.views.Published.{Published}
use Rattle.mm_rules.specs.Event.{GiveUp}
use Rattle.mm_shared.specs.Published.{AppendsOnly, IsPublished}
use Rattle.mm_shared.proofs.Counted.{room_stays, refused_booked, accepted_booked}
use Rattle.mm_shared.proofs.Replies.{refused_step, refused_counts, none_done, answered_step, give_up_counts}
use Rattle.mm_shared.proofs.Publishing.{appends_none, given_up_within, given_up_stored, refused_published}
use Rattle.mm_shared.proofs.inside.Inside.give_up.Goals as goal

pub invariant_of-self : goal.invariant_of-self
invariant_of-self g c =
    let e = GiveUp c.args.key in
    let old = c.args.self.now in
    let s = old.table in
    let t = c.give_up.new.self in
    let said = c.give_up.result in
    let step = c.give_up.ensures in
    record {
      room = room_stays e s t said step _ _ refl old.room;
      published = refused_published e old.publisher s t said step c.keeps_laws.ensures old.published _ c.in_err-give_up.was;
      booked = refused_booked e s t said step _ _ _ _ c.in_err-give_up.was old.booked;
    }

pub store_holder-requires-clause-process_in_range : goal.store_holder-requires-clause-process_in_range
store_holder-requires-clause-process_in_range g c =
    let old = c.args.self.now in
    omega (arith, given_up_within old.publisher old.table c.give_up.new.self c.args.key c.keeps_laws.ensures old.published c.give_up.result c.give_up.ensures _ c.in_ok-give_up.was, c.fits.ensures.holders)

pub invariant_of-self-2 : goal.invariant_of-self-2
invariant_of-self-2 g c =
    let e = GiveUp c.args.key in
    let old = c.args.self.now in
    let s = old.table in
    let t = c.give_up.new.self in
    let said = c.give_up.result in
    let step = c.give_up.ensures in
    record {
      room = room_stays e s t said step _ _ refl old.room;
      published = subst (λ (p : Published). IsPublished p t) (sym c.store_holder.ensures.stored) (given_up_stored old.publisher s t c.args.key c.keeps_laws.ensures old.published said step _ c.in_ok-give_up.was);
      booked = accepted_booked e s t said step _ _ _ _ _ _ _ c.in_ok-give_up.was old.booked c.count_accepted.ensures.book (omega arith) (omega arith);
    }

pub returns-clause-appends : goal.returns-clause-appends
returns-clause-appends g c =
    let old = c.args.self.now in
    let t = c.give_up.new.self in
    subst (λ (p : Published). AppendsOnly old.publisher p t) (sym c.store_holder.ensures.stored) (appends_none old.publisher t)

-- ---- where it is refused

pub returns-in_err-give_up-clause-step : goal.returns-in_err-give_up-clause-step
returns-in_err-give_up-clause-step g c = refused_step (GiveUp c.args.key) c.from_residual.result c.in_err-give_up.field-0.0 c.from_residual.ensures c.args.self.now.table c.give_up.new.self c.give_up.result c.give_up.ensures c.in_err-give_up.was

pub returns-in_err-give_up-clause-counts : goal.returns-in_err-give_up-clause-counts
returns-in_err-give_up-clause-counts g c = refused_counts (GiveUp c.args.key) c.from_residual.result c.in_err-give_up.field-0.0 c.from_residual.ensures c.args.pass.now

pub returns-in_err-give_up-clause-appends : goal.returns-in_err-give_up-clause-appends
returns-in_err-give_up-clause-appends g c = appends_none c.args.self.now.publisher c.give_up.new.self

pub returns-in_err-give_up-clause-held : goal.returns-in_err-give_up-clause-held
returns-in_err-give_up-clause-held g c = none_done c.from_residual.result c.in_err-give_up.field-0.0 _ c.from_residual.ensures

-- ---- where it is accepted

pub returns-clause-step : goal.returns-clause-step
returns-clause-step g c = answered_step (GiveUp c.args.key) c.args.self.now.table c.give_up.new.self c.give_up.result tt c.give_up.ensures c.in_ok-give_up.was

pub returns-clause-counts : goal.returns-clause-counts
returns-clause-counts g c = give_up_counts c.args.pass.now c.count_accepted.new.self c.count_accepted.ensures.share c.args.key tt

pub returns-clause-held : goal.returns-clause-held
returns-clause-held g c = ap (λ (p : Published). p.holders_stored) c.store_holder.ensures.stored
