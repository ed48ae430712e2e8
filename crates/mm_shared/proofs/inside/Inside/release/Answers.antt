use Rattle.std.proofs.Common.{List, ℕ, sym, subst, ◌∙◌, arith, Result}
use Rattle.mm_rules.specs.declared.refusal.Refusal.{Refusal}
use Rattle.mm_rules.specs.declared.reply.Released.{Released}
use Rattle.mm_rules.specs.Event.{Release, Step}
use Rattle.mm_shared.specs.private.Publishing.{IsToPublish}
use Rattle.mm_shared.proofs.Counted.{room_stays, refused_booked, accepted_booked}
use Rattle.mm_shared.proofs.Replies.{refused_step, refused_counts, release_counts}
use Rattle.mm_shared.proofs.Publishing.{appends_none, left_after, known, idle_stand, refused_published}
use Rattle.mm_shared.proofs.inside.Inside.release.Goals as goal

pub invariant_of-self : goal.invariant_of-self
invariant_of-self g c =
    let e = Release c.args.key c.args.resource in
    let old = c.args.self.now in
    let s = old.table in
    let t = c.release_waking.new.self in
    let said = c.release_waking.result in
    let step = c.release_waking.ensures.step in
    record {
      room = room_stays e s t said step _ _ c.release_waking.ensures.room old.room;
      published = refused_published e old.publisher s t said step c.keeps_laws.ensures old.published _ c.in_err-answer.was;
      booked = refused_booked e s t said step _ _ _ _ c.in_err-answer.was old.booked;
    }

pub publish-requires : goal.publish-requires
publish-requires g c =
    let e = Release c.args.key c.args.resource in
    let old = c.args.self.now in
    let s = old.table in
    let t = c.release_waking.new.self in
    let said = c.release_waking.result in
    let step = c.release_waking.ensures.step in
    record {
      left = subst (λ (ns : List ℕ). IsToPublish ns old.publisher t) (sym (c.deref.ensures.value ∙ c.release_waking.ensures.woken)) (left_after e old.publisher s t said step c.keeps_laws.ensures old.published _ c.in_ok-answer.was);
      idle = idle_stand e old.publisher s t said step c.keeps_laws.ensures old.published (known e old.publisher s t said step c.keeps_laws.ensures old.published _ c.in_ok-answer.was);
    }

pub invariant_of-self-2 : goal.invariant_of-self-2
invariant_of-self-2 g c =
    let e = Release c.args.key c.args.resource in
    let old = c.args.self.now in
    let s = old.table in
    let t = c.release_waking.new.self in
    let said = c.release_waking.result in
    let step = c.release_waking.ensures.step in
    record {
      room = room_stays e s t said step _ _ c.release_waking.ensures.room old.room;
      published = c.publish.ensures.published;
      booked = accepted_booked e s t said step _ _ _ _ _ _ _ c.in_ok-answer.was old.booked c.count_accepted.ensures.book (omega arith) (omega arith);
    }

pub returns-clause-step : goal.returns-clause-step
returns-clause-step g c =
    subst (λ (said : Result Released Refusal). Step (Release c.args.key c.args.resource) c.args.self.now.table said c.release_waking.new.self) c.in_ok-answer.was c.release_waking.ensures.step

pub returns-clause-appends : goal.returns-clause-appends
returns-clause-appends g c = c.publish.ensures.appends

-- ---- where it is refused

pub returns-in_err-answer-clause-step : goal.returns-in_err-answer-clause-step
returns-in_err-answer-clause-step g c = refused_step (Release c.args.key c.args.resource) c.from_residual.result c.in_err-answer.field-0.0 c.from_residual.ensures c.args.self.now.table c.release_waking.new.self c.release_waking.result c.release_waking.ensures.step c.in_err-answer.was

pub returns-in_err-answer-clause-counts : goal.returns-in_err-answer-clause-counts
returns-in_err-answer-clause-counts g c = refused_counts (Release c.args.key c.args.resource) c.from_residual.result c.in_err-answer.field-0.0 c.from_residual.ensures c.args.pass.now

pub returns-in_err-answer-clause-appends : goal.returns-in_err-answer-clause-appends
returns-in_err-answer-clause-appends g c = appends_none c.args.self.now.publisher c.release_waking.new.self

pub returns-in_err-answer-clause-changed : goal.returns-in_err-answer-clause-changed
returns-in_err-answer-clause-changed g c = c.release_waking.ensures.woken

-- ---- where it is accepted

pub returns-clause-counts : goal.returns-clause-counts
returns-clause-counts g c = release_counts c.args.pass.now c.count_accepted.new.self c.count_accepted.ensures.share c.args.key c.args.resource c.in_ok-answer.answer

pub returns-clause-changed : goal.returns-clause-changed
returns-clause-changed g c = c.release_waking.ensures.woken
