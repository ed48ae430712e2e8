use Rattle.std.proofs.Common.{List, ℕ, sym, subst, ◌∙◌, arith, Result}
use Rattle.mm_rules.specs.declared.refusal.Refusal.{Refusal}
use Rattle.mm_rules.specs.Event.{Finish, Step}
use Rattle.mm_shared.specs.private.Publishing.{IsToPublish}
use Rattle.mm_shared.proofs.Counted.{room_stays, refused_booked, accepted_booked}
use Rattle.mm_shared.proofs.Replies.{refused_step, refused_counts, finish_counts}
use Rattle.mm_shared.proofs.Publishing.{appends_none, left_after, known, idle_stand, refused_published}
use Rattle.mm_shared.proofs.inside.Inside.finish.Goals as goal

pub invariant_of-self : goal.invariant_of-self
invariant_of-self g c =
    let e = Finish c.args.key in
    let old = c.args.self.now in
    let s = old.table in
    let t = c.finish_waking.new.self in
    let said = c.finish_waking.result in
    let step = c.finish_waking.ensures.step in
    record {
      room = room_stays e s t said step _ _ c.finish_waking.ensures.room old.room;
      published = refused_published e old.publisher s t said step c.keeps_laws.ensures old.published _ c.in_err-finish_waking.was;
      booked = refused_booked e s t said step _ _ _ _ c.in_err-finish_waking.was old.booked;
    }

pub publish-requires : goal.publish-requires
publish-requires g c =
    let e = Finish c.args.key in
    let old = c.args.self.now in
    let s = old.table in
    let t = c.finish_waking.new.self in
    let said = c.finish_waking.result in
    let step = c.finish_waking.ensures.step in
    record {
      left = subst (λ (ns : List ℕ). IsToPublish ns old.publisher t) (sym (c.deref.ensures.value ∙ c.finish_waking.ensures.woken)) (left_after e old.publisher s t said step c.keeps_laws.ensures old.published _ c.in_ok-finish_waking.was);
      idle = idle_stand e old.publisher s t said step c.keeps_laws.ensures old.published (known e old.publisher s t said step c.keeps_laws.ensures old.published _ c.in_ok-finish_waking.was);
    }

pub invariant_of-self-2 : goal.invariant_of-self-2
invariant_of-self-2 g c =
    let e = Finish c.args.key in
    let old = c.args.self.now in
    let s = old.table in
    let t = c.finish_waking.new.self in
    let said = c.finish_waking.result in
    let step = c.finish_waking.ensures.step in
    record {
      room = room_stays e s t said step _ _ c.finish_waking.ensures.room old.room;
      published = c.publish.ensures.published;
      booked = accepted_booked e s t said step _ _ _ _ _ _ _ c.in_ok-finish_waking.was old.booked c.count_accepted.ensures.book (omega arith) (omega arith);
    }

pub returns-clause-step : goal.returns-clause-step
returns-clause-step g c =
    subst (λ (said : Result (Unit {0}) Refusal). Step (Finish c.args.key) c.args.self.now.table said c.finish_waking.new.self) c.in_ok-finish_waking.was c.finish_waking.ensures.step

pub returns-clause-appends : goal.returns-clause-appends
returns-clause-appends g c = c.publish.ensures.appends

-- ---- where it is refused

pub returns-in_err-finish_waking-clause-step : goal.returns-in_err-finish_waking-clause-step
returns-in_err-finish_waking-clause-step g c = refused_step (Finish c.args.key) c.from_residual.result c.in_err-finish_waking.field-0.0 c.from_residual.ensures c.args.self.now.table c.finish_waking.new.self c.finish_waking.result c.finish_waking.ensures.step c.in_err-finish_waking.was

pub returns-in_err-finish_waking-clause-counts : goal.returns-in_err-finish_waking-clause-counts
returns-in_err-finish_waking-clause-counts g c = refused_counts (Finish c.args.key) c.from_residual.result c.in_err-finish_waking.field-0.0 c.from_residual.ensures c.args.pass.now

pub returns-in_err-finish_waking-clause-appends : goal.returns-in_err-finish_waking-clause-appends
returns-in_err-finish_waking-clause-appends g c = appends_none c.args.self.now.publisher c.finish_waking.new.self

pub returns-in_err-finish_waking-clause-changed : goal.returns-in_err-finish_waking-clause-changed
returns-in_err-finish_waking-clause-changed g c = c.finish_waking.ensures.woken

-- ---- where it is accepted

pub returns-clause-counts : goal.returns-clause-counts
returns-clause-counts g c = finish_counts c.args.pass.now c.count_accepted.new.self c.count_accepted.ensures.share c.args.key tt

pub returns-clause-changed : goal.returns-clause-changed
returns-clause-changed g c = c.finish_waking.ensures.woken
