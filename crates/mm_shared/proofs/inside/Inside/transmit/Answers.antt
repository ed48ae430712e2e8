use Rattle.std.proofs.Common.{List, Ok, ap, refl, sym, subst, ◌∙◌, arith}
use Rattle.mm_board.specs.declared.views.Published.{Published}
use Rattle.mm_board.specs.Views.{new_seen, current_labels, NoneFalls}
use Rattle.mm_label.specs.Label.{Label}
use Rattle.mm_rules.specs.declared.reply.Transmitted.TheVariants.{Raised}
use Rattle.mm_rules.specs.Event.{Transmit}
use Rattle.mm_counts.specs.Shares.{Shares}
use Rattle.mm_shared.proofs.Counted.{room_stays, refused_booked, accepted_booked}
use Rattle.mm_shared.proofs.Replies.{refused_step, refused_counts, refused_not, answered_step, same_answer, transmit_counts, transmit_sees, stored_is_seen, same_raise}
use Rattle.mm_shared.proofs.Publishing.{appends_none, left_after, refused_published, then_shown, unraised_published, raise_stored}
use Rattle.mm_board.proofs.Rising.{none_falls}
use Rattle.mm_shared.proofs.inside.Inside.transmit.Goals as goal

pub invariant_of-self : goal.invariant_of-self
invariant_of-self g c =
    let e = Transmit c.args.key in
    let old = c.args.self.now in
    let s = old.table in
    let t = c.transmit.new.self in
    let said = c.transmit.result in
    let step = c.transmit.ensures in
    record {
      room = room_stays e s t said step _ _ refl old.room;
      published = refused_published e old.publisher s t said step c.keeps_laws.ensures old.published _ c.in_err-answer.was;
      booked = refused_booked e s t said step _ _ _ _ c.in_err-answer.was old.booked;
    }

pub invariant_of-self-in_default : goal.invariant_of-self-in_default
invariant_of-self-in_default g c =
    let e = Transmit c.args.key in
    let old = c.args.self.now in
    let s = old.table in
    let t = c.transmit.new.self in
    let said = c.transmit.result in
    let step = c.transmit.ensures in
    let left = left_after e old.publisher s t said step c.keeps_laws.ensures old.published _ c.in_ok-answer.was in
    record {
      room = room_stays e s t said step _ _ refl old.room;
      published = unraised_published old.publisher s t c.args.key c.in_ok-answer.answer c.in_default.not-Raised left;
      booked = accepted_booked e s t said step _ _ _ _ _ _ _ c.in_ok-answer.was old.booked c.count_accepted.ensures.book (omega arith) (omega arith);
    }

pub store_label-requires-clause-process_in_range : goal.store_label-requires-clause-process_in_range
store_label-requires-clause-process_in_range g c =
    let e = Transmit c.args.key in
    let old = c.args.self.now in
    let s = old.table in
    let t = c.transmit.new.self in
    let said = c.transmit.result in
    let step = c.transmit.ensures in
    omega (arith, (raise_stored old.publisher s t c.args.key c.keeps_laws.ensures old.published said step c.in-Raised.label (c.in_ok-answer.was ∙ ap Ok c.in-Raised.is)).within, c.fits.ensures.histories)

pub store_label-requires-clause-rises : goal.store_label-requires-clause-rises
store_label-requires-clause-rises g c =
    let e = Transmit c.args.key in
    let old = c.args.self.now in
    let s = old.table in
    let t = c.transmit.new.self in
    let said = c.transmit.result in
    let step = c.transmit.ensures in
    (raise_stored old.publisher s t c.args.key c.keeps_laws.ensures old.published said step c.in-Raised.label (c.in_ok-answer.was ∙ ap Ok c.in-Raised.is)).rises

pub invariant_of-self-2 : goal.invariant_of-self-2
invariant_of-self-2 g c =
    let e = Transmit c.args.key in
    let old = c.args.self.now in
    let s = old.table in
    let t = c.transmit.new.self in
    let said = c.transmit.result in
    let step = c.transmit.ensures in
    let stored = c.store_label.ensures.stored in
    let may = raise_stored old.publisher s t c.args.key c.keeps_laws.ensures old.published said step c.in-Raised.label (c.in_ok-answer.was ∙ ap Ok c.in-Raised.is) in
    let shown = then_shown old.publisher _ _ c.show.new.self t c.args.key.process _ stored (ap (λ (q : Published). q.histories) c.show.ensures.met) (ap (λ (q : Published). q.holders) c.show.ensures.met) may in
    record {
      room = room_stays e s t said step _ _ refl old.room;
      published = shown.0;
      booked = accepted_booked e s t said step _ _ _ _ _ _ _ c.in_ok-answer.was old.booked c.count_accepted.ensures.book (omega arith) (omega arith);
    }

pub returns-clause-appends : goal.returns-clause-appends
returns-clause-appends g c =
    let e = Transmit c.args.key in
    let old = c.args.self.now in
    let s = old.table in
    let t = c.transmit.new.self in
    let said = c.transmit.result in
    let step = c.transmit.ensures in
    let stored = c.store_label.ensures.stored in
    let may = raise_stored old.publisher s t c.args.key c.keeps_laws.ensures old.published said step c.in-Raised.label (c.in_ok-answer.was ∙ ap Ok c.in-Raised.is) in
    let shown = then_shown old.publisher _ _ c.show.new.self t c.args.key.process _ stored (ap (λ (q : Published). q.histories) c.show.ensures.met) (ap (λ (q : Published). q.holders) c.show.ensures.met) may in
    shown.1

pub returns-in_err-answer-clause-rises : goal.returns-in_err-answer-clause-rises
returns-in_err-answer-clause-rises g c = none_falls c.args.pass.now.seen.labels c.args.pass.now.seen.labels refl

pub returns-in_default-clause-rises : goal.returns-in_default-clause-rises
returns-in_default-clause-rises g c =
    none_falls c.args.pass.now.seen.labels c.count_accepted.new.self.seen.labels (ap (λ (s : Shares). s.seen.labels) c.count_accepted.ensures.share)

-- ---- where it is refused

pub returns-in_err-answer-clause-step : goal.returns-in_err-answer-clause-step
returns-in_err-answer-clause-step g c = refused_step (Transmit c.args.key) c.from_residual.result c.in_err-answer.field-0.0 c.from_residual.ensures c.args.self.now.table c.transmit.new.self c.transmit.result c.transmit.ensures c.in_err-answer.was

pub returns-in_err-answer-clause-counts : goal.returns-in_err-answer-clause-counts
returns-in_err-answer-clause-counts g c = refused_counts (Transmit c.args.key) c.from_residual.result c.in_err-answer.field-0.0 c.from_residual.ensures c.args.pass.now

pub returns-in_err-answer-clause-seen : goal.returns-in_err-answer-clause-seen
returns-in_err-answer-clause-seen g c = λ label told. absurd (refused_not c.from_residual.result c.in_err-answer.field-0.0 (Raised label) c.from_residual.ensures told)

pub returns-in_err-answer-clause-shown : goal.returns-in_err-answer-clause-shown
returns-in_err-answer-clause-shown g c = λ label told. absurd (refused_not c.from_residual.result c.in_err-answer.field-0.0 (Raised label) c.from_residual.ensures told)

pub returns-in_err-answer-clause-appends : goal.returns-in_err-answer-clause-appends
returns-in_err-answer-clause-appends g c = appends_none c.args.self.now.publisher c.transmit.new.self

-- ---- where it raises no label

pub returns-in_default-clause-step : goal.returns-in_default-clause-step
returns-in_default-clause-step g c = answered_step (Transmit c.args.key) c.args.self.now.table c.transmit.new.self c.transmit.result c.in_ok-answer.answer c.transmit.ensures c.in_ok-answer.was

pub returns-in_default-clause-counts : goal.returns-in_default-clause-counts
returns-in_default-clause-counts g c = transmit_counts c.args.pass.now c.count_accepted.new.self c.count_accepted.ensures.share c.args.key c.in_ok-answer.answer

pub returns-in_default-clause-seen : goal.returns-in_default-clause-seen
returns-in_default-clause-seen g c = λ label told. absurd (c.in_default.not-Raised label (same_answer (Ok c.in_ok-answer.answer) _ _ refl told))

pub returns-in_default-clause-shown : goal.returns-in_default-clause-shown
returns-in_default-clause-shown g c = λ label told. absurd (c.in_default.not-Raised label (same_answer (Ok c.in_ok-answer.answer) _ _ refl told))

pub returns-in_default-clause-appends : goal.returns-in_default-clause-appends
returns-in_default-clause-appends g c = appends_none c.args.self.now.publisher c.transmit.new.self

-- ---- where it raises one

pub returns-clause-step : goal.returns-clause-step
returns-clause-step g c = answered_step (Transmit c.args.key) c.args.self.now.table c.transmit.new.self c.transmit.result (Raised c.in-Raised.label) c.transmit.ensures (c.in_ok-answer.was ∙ ap Ok c.in-Raised.is)

pub returns-clause-counts : goal.returns-clause-counts
returns-clause-counts g c = transmit_sees c.args.pass.now _ (c.pass.view_is ∙ c.count_accepted.ensures.share) c.args.key (Raised c.in-Raised.label) c.show.new.reader

pub returns-clause-shown : goal.returns-clause-shown
returns-clause-shown g c = λ label told. c.show.ensures.shown ∙ sym (ap (λ (p : Published). new_seen (current_labels p)) c.show.ensures.met)

pub returns-clause-rises : goal.returns-clause-rises
returns-clause-rises g c = subst (λ (ls : List Label). NoneFalls ls c.show.new.reader.labels) (ap (λ (s : Shares). s.seen.labels) (c.pass.view_is ∙ c.count_accepted.ensures.share)) c.show.ensures.rises

pub returns-clause-seen : goal.returns-clause-seen
returns-clause-seen g c = λ label told.
    let old = c.args.self.now in
    let is = c.in_ok-answer.was ∙ ap Ok c.in-Raised.is in
    let may = raise_stored old.publisher old.table c.transmit.new.self c.args.key c.keeps_laws.ensures old.published c.transmit.result c.transmit.ensures c.in-Raised.label is in
    stored_is_seen old.publisher c.store_label.new.self c.store_label.new.self c.show.new.reader c.args.key.process c.in-Raised.label label may.within c.store_label.ensures.stored
    refl c.show.ensures.shown (same_raise (Ok (Raised c.in-Raised.label)) _ _ refl told)
