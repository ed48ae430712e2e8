use Rattle.std.proofs.Common.{refl, arith}
use Rattle.mm_rules.specs.Event.{Begin}
use Rattle.mm_shared.proofs.Counted.{room_stays, refused_booked, accepted_booked}
use Rattle.mm_shared.proofs.Replies.{refused_step, refused_counts, answered_step, begin_counts}
use Rattle.mm_shared.proofs.Publishing.{appends_none, all_stored, left_after, refused_published}
use Rattle.mm_shared.proofs.inside.Inside.begin.Goals as goal

pub invariant_of-self : goal.invariant_of-self
invariant_of-self g c =
    let e = Begin in
    let old = c.args.self.now in
    let s = old.table in
    let t = c.begin.new.self in
    let said = c.begin.result in
    let step = c.begin.ensures in
    record {
      room = room_stays e s t said step _ _ refl old.room;
      published = refused_published e old.publisher s t said step c.keeps_laws.ensures old.published _ c.in_err-key.was;
      booked = refused_booked e s t said step _ _ _ _ c.in_err-key.was old.booked;
    }

pub invariant_of-self-2 : goal.invariant_of-self-2
invariant_of-self-2 g c =
    let e = Begin in
    let old = c.args.self.now in
    let s = old.table in
    let t = c.begin.new.self in
    let said = c.begin.result in
    let step = c.begin.ensures in
    record {
      room = room_stays e s t said step _ _ refl old.room;
      published = all_stored old.publisher t (left_after e old.publisher s t said step c.keeps_laws.ensures old.published _ c.in_ok-key.was);
      booked = accepted_booked e s t said step _ _ _ _ _ _ _ c.in_ok-key.was old.booked c.count_accepted.ensures.book (omega arith) (omega arith);
    }

-- ---- where it is refused

pub returns-in_err-key-clause-step : goal.returns-in_err-key-clause-step
returns-in_err-key-clause-step g c = refused_step Begin c.from_residual.result c.in_err-key.field-0.0 c.from_residual.ensures c.args.self.now.table c.begin.new.self c.begin.result c.begin.ensures c.in_err-key.was

pub returns-in_err-key-clause-counts : goal.returns-in_err-key-clause-counts
returns-in_err-key-clause-counts g c = refused_counts Begin c.from_residual.result c.in_err-key.field-0.0 c.from_residual.ensures c.args.pass.now

pub returns-in_err-key-clause-appends : goal.returns-in_err-key-clause-appends
returns-in_err-key-clause-appends g c = appends_none c.args.self.now.publisher c.begin.new.self

-- ---- where it is accepted

pub returns-clause-step : goal.returns-clause-step
returns-clause-step g c = answered_step Begin c.args.self.now.table c.begin.new.self c.begin.result c.in_ok-key.key c.begin.ensures c.in_ok-key.was

pub returns-clause-counts : goal.returns-clause-counts
returns-clause-counts g c = begin_counts c.args.pass.now c.count_accepted.new.self c.count_accepted.ensures.share c.in_ok-key.key

pub returns-clause-appends : goal.returns-clause-appends
returns-clause-appends g c = appends_none c.args.self.now.publisher c.begin.new.self
