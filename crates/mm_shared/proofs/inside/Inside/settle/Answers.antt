use Rattle.std.proofs.Common.{List, ℕ, refl, sym, subst, ◌∙◌, arith, Result}
use Rattle.mm_rules.specs.declared.refusal.Refusal.{Refusal}
use Rattle.mm_rules.specs.declared.reply.Settled.{Settled}
use Rattle.mm_rules.specs.Event.{Settle, Step}
use Rattle.mm_shared.specs.private.Publishing.{IsToPublish}
use Rattle.mm_shared.proofs.Counted.{room_stays, refused_booked, accepted_booked}
use Rattle.mm_shared.proofs.Replies.{refused_step, refused_counts, settle_counts}
use Rattle.mm_shared.proofs.Publishing.{appends_none, left_after, known, holders_stand, refused_published}
use Rattle.mm_shared.proofs.inside.Inside.settle.Goals as goal

pub invariant_of-self : goal.invariant_of-self
invariant_of-self g c =
    let e = Settle in
    let old = c.args.self.now in
    let s = old.table in
    let t = c.settle_waking.new.self in
    let said = c.settle_waking.result in
    let step = c.settle_waking.ensures.step in
    record {
      room = room_stays e s t said step _ _ c.settle_waking.ensures.room old.room;
      published = refused_published e old.publisher s t said step c.keeps_laws.ensures old.published _ c.in_err-answer.was;
      booked = refused_booked e s t said step _ _ _ _ c.in_err-answer.was old.booked;
    }

pub publish_labels-requires : goal.publish_labels-requires
publish_labels-requires g c =
    let e = Settle in
    let old = c.args.self.now in
    let s = old.table in
    let t = c.settle_waking.new.self in
    let said = c.settle_waking.result in
    let step = c.settle_waking.ensures.step in
    record {
      labels = subst (λ (ns : List ℕ). IsToPublish ns old.publisher t) (sym (c.deref.ensures.value ∙ c.settle_waking.ensures.woken)) (left_after e old.publisher s t said step c.keeps_laws.ensures old.published _ c.in_ok-answer.was);
      holders = holders_stand e old.publisher s t said step c.keeps_laws.ensures old.published (known e old.publisher s t said step c.keeps_laws.ensures old.published _ c.in_ok-answer.was);
    }

pub invariant_of-self-2 : goal.invariant_of-self-2
invariant_of-self-2 g c =
    let e = Settle in
    let old = c.args.self.now in
    let s = old.table in
    let t = c.settle_waking.new.self in
    let said = c.settle_waking.result in
    let step = c.settle_waking.ensures.step in
    record {
      room = room_stays e s t said step _ _ c.settle_waking.ensures.room old.room;
      published = c.publish_labels.ensures.published;
      booked = accepted_booked e s t said step _ _ _ _ _ _ _ c.in_ok-answer.was old.booked c.count_accepted.ensures.book c.count_verdicts.ensures.book (omega arith);
    }

pub returns-clause-step : goal.returns-clause-step
returns-clause-step g c =
    subst (λ (said : Result Settled Refusal). Step Settle c.args.self.now.table said c.settle_waking.new.self) c.in_ok-answer.was c.settle_waking.ensures.step

pub returns-clause-appends : goal.returns-clause-appends
returns-clause-appends g c = c.publish_labels.ensures.appends

-- ---- where it is refused

pub returns-in_err-answer-clause-step : goal.returns-in_err-answer-clause-step
returns-in_err-answer-clause-step g c = refused_step Settle c.from_residual.result c.in_err-answer.field-0.0 c.from_residual.ensures c.args.self.now.table c.settle_waking.new.self c.settle_waking.result c.settle_waking.ensures.step c.in_err-answer.was

pub returns-in_err-answer-clause-counts : goal.returns-in_err-answer-clause-counts
returns-in_err-answer-clause-counts g c = refused_counts Settle c.from_residual.result c.in_err-answer.field-0.0 c.from_residual.ensures c.args.pass.now

pub returns-in_err-answer-clause-appends : goal.returns-in_err-answer-clause-appends
returns-in_err-answer-clause-appends g c = appends_none c.args.self.now.publisher c.settle_waking.new.self

pub returns-in_err-answer-clause-changed : goal.returns-in_err-answer-clause-changed
returns-in_err-answer-clause-changed g c = c.settle_waking.ensures.woken

-- ---- where it is accepted

pub returns-clause-counts : goal.returns-clause-counts
returns-clause-counts g c = settle_counts c.args.pass.now c.count_accepted.new.self c.count_verdicts.new.self c.count_accepted.ensures.share _ c.count_verdicts.ensures.share c.in_ok-answer.answer refl

pub returns-clause-changed : goal.returns-clause-changed
returns-clause-changed g c = c.settle_waking.ensures.woken
