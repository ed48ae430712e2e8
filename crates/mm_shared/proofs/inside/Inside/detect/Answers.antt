use Rattle.std.proofs.Common.{refl, arith, rules, Result, subst, sym, ap, ◌∙◌}
use Rattle.mm_rules.specs.declared.refusal.Refusal.{Refusal}
use Rattle.mm_rules.specs.declared.reply.Detected.{Detected}
use Rattle.mm_rules.specs.Event.{Detect, Step}
use Rattle.mm_rules.specs.Laws.{verdicts_made}
use Rattle.mm_shared.proofs.Counted.{room_stays, refused_booked, accepted_booked}
use Rattle.mm_shared.proofs.Replies.{refused_step, refused_counts, detect_counts}
use Rattle.mm_shared.proofs.Publishing.{appends_none, all_stored, left_after, refused_published}
use Rattle.mm_shared.proofs.inside.Inside.detect.Goals.{in-Deadlock, in-Standing, in-Clear}
use Rattle.mm_shared.proofs.inside.Inside.detect.Goals as goal

pub invariant_of-self : goal.invariant_of-self
invariant_of-self g c =
    let e = Detect c.args.key in
    let old = c.args.self.now in
    let s = old.table in
    let t = c.detect.new.self in
    let said = c.detect.result in
    let step = c.detect.ensures in
    record {
      room = room_stays e s t said step _ _ refl old.room;
      published = refused_published e old.publisher s t said step c.keeps_laws.ensures old.published _ c.in_err-answer.was;
      booked = refused_booked e s t said step _ _ _ _ c.in_err-answer.was old.booked;
    }

pub invariant_of-self-2 : goal.invariant_of-self-2
invariant_of-self-2 g c =
    let e = Detect c.args.key in
    let old = c.args.self.now in
    let s = old.table in
    let t = c.detect.new.self in
    let said = c.detect.result in
    let step = c.detect.ensures in
    let is = c.in_ok-answer.was in
    let made = c.count_verdicts.ensures.book in
    record {
      room = room_stays e s t said step _ _ refl old.room;
      published = all_stored old.publisher t (left_after e old.publisher s t said step c.keeps_laws.ensures old.published _ is);
      booked = accepted_booked e s t said step c.in_ok-answer.answer _ _ _ _ _ _ is old.booked c.count_accepted.ensures.book (elim c.match-answer.branch [
        | in-Deadlock w ↦ search (rules, made, w.in-Deadlock.is, w.new_verdicts-is)
        | in-Standing w ↦ search (rules, made, w.in-Standing.is, w.new_verdicts-is)
        | in-Clear w ↦ search (rules, made, w.in-Clear.is, w.new_verdicts-is)
      ]) (omega arith);
    }

pub returns-clause-step : goal.returns-clause-step
returns-clause-step g c =
    subst (λ (said : Result Detected Refusal). Step (Detect c.args.key) c.args.self.now.table said c.detect.new.self) c.in_ok-answer.was c.detect.ensures

-- ---- where it is refused

pub returns-in_err-answer-clause-step : goal.returns-in_err-answer-clause-step
returns-in_err-answer-clause-step g c = refused_step (Detect c.args.key) c.from_residual.result c.in_err-answer.field-0.0 c.from_residual.ensures c.args.self.now.table c.detect.new.self c.detect.result c.detect.ensures c.in_err-answer.was

pub returns-in_err-answer-clause-counts : goal.returns-in_err-answer-clause-counts
returns-in_err-answer-clause-counts g c = refused_counts (Detect c.args.key) c.from_residual.result c.in_err-answer.field-0.0 c.from_residual.ensures c.args.pass.now

pub returns-in_err-answer-clause-appends : goal.returns-in_err-answer-clause-appends
returns-in_err-answer-clause-appends g c = appends_none c.args.self.now.publisher c.detect.new.self

-- ---- where it is accepted

pub returns-clause-counts : goal.returns-clause-counts
returns-clause-counts g c =
    let k = c.args.key in
    detect_counts c.args.pass.now c.count_accepted.new.self c.count_verdicts.new.self c.count_accepted.ensures.share _ c.count_verdicts.ensures.share k c.in_ok-answer.answer (elim c.match-answer.branch [
      | in-Deadlock w ↦ w.new_verdicts-is ∙ sym (ap (verdicts_made (Detect k)) w.in-Deadlock.is)
      | in-Standing w ↦ w.new_verdicts-is ∙ sym (ap (verdicts_made (Detect k)) w.in-Standing.is)
      | in-Clear w ↦ w.new_verdicts-is ∙ sym (ap (verdicts_made (Detect k)) w.in-Clear.is)
    ])

pub returns-clause-appends : goal.returns-clause-appends
returns-clause-appends g c = appends_none c.args.self.now.publisher c.detect.new.self
