use Rattle.std.proofs.Common.{◌+◌, List, Ok, Some, ap, refl, sym, subst, ◌∙◌, arith}
use Rattle.mm_board.specs.declared.views.Published.{Published}
use Rattle.mm_board.specs.Views.{with_holder, new_seen, current_labels, NoneFalls}
use Rattle.mm_label.specs.Label.{Label}
use Rattle.mm_rules.specs.declared.reply.Acquired.TheVariants.{Waits}
use Rattle.mm_rules.specs.Event.{Acquire}
use Rattle.mm_counts.specs.Shares.{Shares}
use Rattle.mm_shared.proofs.Counted.{room_stays, refused_booked, accepted_booked}
use Rattle.mm_shared.proofs.Replies.{refused_step, refused_counts, refused_not, none_answered, answered_step, same_answer, none_held, acquire_counts, acquire_sees, stored_is_seen, same_wait}
use Rattle.mm_shared.proofs.Publishing.{appends_none, left_after, refused_published, then_shown, granted_published, wait_stored, waits_for_another}
use Rattle.mm_board.proofs.Rising.{none_falls}
use Rattle.mm_shared.proofs.inside.Inside.acquire.Goals as goal

pub invariant_of-self : goal.invariant_of-self
invariant_of-self g c =
    let e = Acquire c.args.key c.args.resource in
    let old = c.args.self.now in
    let s = old.table in
    let t = c.acquire.new.self in
    let said = c.acquire.result in
    let step = c.acquire.ensures in
    record {
      room = room_stays e s t said step _ _ refl old.room;
      published = refused_published e old.publisher s t said step c.keeps_laws.ensures old.published _ c.in_err-answer.was;
      booked = refused_booked e s t said step _ _ _ _ c.in_err-answer.was old.booked;
    }

pub invariant_of-self-in_default : goal.invariant_of-self-in_default
invariant_of-self-in_default g c =
    let e = Acquire c.args.key c.args.resource in
    let old = c.args.self.now in
    let s = old.table in
    let t = c.acquire.new.self in
    let said = c.acquire.result in
    let step = c.acquire.ensures in
    let left = left_after e old.publisher s t said step c.keeps_laws.ensures old.published _ c.in_ok-answer.was in
    record {
      room = room_stays e s t said step _ _ refl old.room;
      published = granted_published old.publisher s t c.args.key c.args.resource c.in_ok-answer.answer c.in_default.not-Waits left;
      booked = accepted_booked e s t said step _ _ _ _ _ _ _ c.in_ok-answer.was old.booked c.count_accepted.ensures.book (omega arith) (omega arith);
    }

pub store_label-requires-clause-process_in_range : goal.store_label-requires-clause-process_in_range
store_label-requires-clause-process_in_range g c =
    let e = Acquire c.args.key c.args.resource in
    let old = c.args.self.now in
    let s = old.table in
    let t = c.acquire.new.self in
    let said = c.acquire.result in
    let step = c.acquire.ensures in
    omega (arith, (wait_stored old.publisher s t c.args.key c.keeps_laws.ensures old.published c.args.resource said step c.in-Waits.holder c.in-Waits.label (c.in_ok-answer.was ∙ ap Ok c.in-Waits.is)).within, c.fits.ensures.histories)

pub store_label-requires-clause-rises : goal.store_label-requires-clause-rises
store_label-requires-clause-rises g c =
    let e = Acquire c.args.key c.args.resource in
    let old = c.args.self.now in
    let s = old.table in
    let t = c.acquire.new.self in
    let said = c.acquire.result in
    let step = c.acquire.ensures in
    (wait_stored old.publisher s t c.args.key c.keeps_laws.ensures old.published c.args.resource said step c.in-Waits.holder c.in-Waits.label (c.in_ok-answer.was ∙ ap Ok c.in-Waits.is)).rises

pub store_holder-requires-clause-process_in_range : goal.store_holder-requires-clause-process_in_range
store_holder-requires-clause-process_in_range g c =
    let e = Acquire c.args.key c.args.resource in
    let old = c.args.self.now in
    let s = old.table in
    let t = c.acquire.new.self in
    let said = c.acquire.result in
    let step = c.acquire.ensures in
    omega (arith, (wait_stored old.publisher s t c.args.key c.keeps_laws.ensures old.published c.args.resource said step c.in-Waits.holder c.in-Waits.label (c.in_ok-answer.was ∙ ap Ok c.in-Waits.is)).within, c.fits.ensures.histories)

pub store_holder-requires-clause-another : goal.store_holder-requires-clause-another
store_holder-requires-clause-another g c =
    let e = Acquire c.args.key c.args.resource in
    let old = c.args.self.now in
    let s = old.table in
    let t = c.acquire.new.self in
    let said = c.acquire.result in
    let step = c.acquire.ensures in
    let another = waits_for_another old.publisher s t c.args.key c.keeps_laws.ensures old.published c.args.resource said step c.in-Waits.holder c.in-Waits.label (c.in_ok-answer.was ∙ ap Ok c.in-Waits.is) in (omega (arith, another.0, c.fits.ensures.histories), another.1)

pub invariant_of-self-2 : goal.invariant_of-self-2
invariant_of-self-2 g c =
    let e = Acquire c.args.key c.args.resource in
    let old = c.args.self.now in
    let s = old.table in
    let t = c.acquire.new.self in
    let said = c.acquire.result in
    let step = c.acquire.ensures in
    let stored = c.store_holder.ensures.stored ∙ ap (λ (q : Published). with_holder q c.args.key.process (Some c.in-Waits.holder.process)) c.store_label.ensures.stored in
    let may = wait_stored old.publisher s t c.args.key c.keeps_laws.ensures old.published c.args.resource said step c.in-Waits.holder c.in-Waits.label (c.in_ok-answer.was ∙ ap Ok c.in-Waits.is) in
    let shown = then_shown old.publisher _ _ c.show.new.self t c.args.key.process _ stored (ap (λ (q : Published). q.histories) c.show.ensures.met) (ap (λ (q : Published). q.holders) c.show.ensures.met) may in
    record {
      room = room_stays e s t said step _ _ refl old.room;
      published = shown.0;
      booked = accepted_booked e s t said step _ _ _ _ _ _ _ c.in_ok-answer.was old.booked c.count_accepted.ensures.book (omega arith) (omega arith);
    }

pub returns-clause-appends : goal.returns-clause-appends
returns-clause-appends g c =
    let e = Acquire c.args.key c.args.resource in
    let old = c.args.self.now in
    let s = old.table in
    let t = c.acquire.new.self in
    let said = c.acquire.result in
    let step = c.acquire.ensures in
    let stored = c.store_holder.ensures.stored ∙ ap (λ (q : Published). with_holder q c.args.key.process (Some c.in-Waits.holder.process)) c.store_label.ensures.stored in
    let may = wait_stored old.publisher s t c.args.key c.keeps_laws.ensures old.published c.args.resource said step c.in-Waits.holder c.in-Waits.label (c.in_ok-answer.was ∙ ap Ok c.in-Waits.is) in
    let shown = then_shown old.publisher _ _ c.show.new.self t c.args.key.process _ stored (ap (λ (q : Published). q.histories) c.show.ensures.met) (ap (λ (q : Published). q.holders) c.show.ensures.met) may in
    shown.1

pub returns-in_err-answer-clause-rises : goal.returns-in_err-answer-clause-rises
returns-in_err-answer-clause-rises g c = none_falls c.args.pass.now.seen.labels c.args.pass.now.seen.labels refl

pub returns-in_default-clause-rises : goal.returns-in_default-clause-rises
returns-in_default-clause-rises g c =
    none_falls c.args.pass.now.seen.labels c.count_accepted.new.self.seen.labels (ap (λ (s : Shares). s.seen.labels) c.count_accepted.ensures.share)

-- ---- where it is refused

pub returns-in_err-answer-clause-step : goal.returns-in_err-answer-clause-step
returns-in_err-answer-clause-step g c = refused_step (Acquire c.args.key c.args.resource) c.from_residual.result c.in_err-answer.field-0.0 c.from_residual.ensures c.args.self.now.table c.acquire.new.self c.acquire.result c.acquire.ensures c.in_err-answer.was

pub returns-in_err-answer-clause-counts : goal.returns-in_err-answer-clause-counts
returns-in_err-answer-clause-counts g c = refused_counts (Acquire c.args.key c.args.resource) c.from_residual.result c.in_err-answer.field-0.0 c.from_residual.ensures c.args.pass.now

pub returns-in_err-answer-clause-seen : goal.returns-in_err-answer-clause-seen
returns-in_err-answer-clause-seen g c = λ holder label told. absurd (refused_not c.from_residual.result c.in_err-answer.field-0.0 (Waits holder label) c.from_residual.ensures told)

pub returns-in_err-answer-clause-shown : goal.returns-in_err-answer-clause-shown
returns-in_err-answer-clause-shown g c = λ holder label told. absurd (refused_not c.from_residual.result c.in_err-answer.field-0.0 (Waits holder label) c.from_residual.ensures told)

pub returns-in_err-answer-clause-appends : goal.returns-in_err-answer-clause-appends
returns-in_err-answer-clause-appends g c = appends_none c.args.self.now.publisher c.acquire.new.self

pub returns-in_err-answer-clause-held : goal.returns-in_err-answer-clause-held
returns-in_err-answer-clause-held g c = none_answered c.from_residual.result c.in_err-answer.field-0.0 _ c.from_residual.ensures

-- ---- where it is granted

pub returns-in_default-clause-step : goal.returns-in_default-clause-step
returns-in_default-clause-step g c = answered_step (Acquire c.args.key c.args.resource) c.args.self.now.table c.acquire.new.self c.acquire.result c.in_ok-answer.answer c.acquire.ensures c.in_ok-answer.was

pub returns-in_default-clause-counts : goal.returns-in_default-clause-counts
returns-in_default-clause-counts g c = acquire_counts c.args.pass.now c.count_accepted.new.self c.count_accepted.ensures.share c.args.key c.args.resource c.in_ok-answer.answer

pub returns-in_default-clause-seen : goal.returns-in_default-clause-seen
returns-in_default-clause-seen g c = λ holder label told. absurd (c.in_default.not-Waits holder label (same_answer (Ok c.in_ok-answer.answer) _ _ refl told))

pub returns-in_default-clause-shown : goal.returns-in_default-clause-shown
returns-in_default-clause-shown g c = λ holder label told. absurd (c.in_default.not-Waits holder label (same_answer (Ok c.in_ok-answer.answer) _ _ refl told))

pub returns-in_default-clause-appends : goal.returns-in_default-clause-appends
returns-in_default-clause-appends g c = appends_none c.args.self.now.publisher c.acquire.new.self

pub returns-in_default-clause-held : goal.returns-in_default-clause-held
returns-in_default-clause-held g c = none_held c.in_ok-answer.answer c.args.self.now.publisher.holders_stored c.in_default.not-Waits

-- ---- where it waits

pub returns-clause-step : goal.returns-clause-step
returns-clause-step g c = answered_step (Acquire c.args.key c.args.resource) c.args.self.now.table c.acquire.new.self c.acquire.result (Waits c.in-Waits.holder c.in-Waits.label) c.acquire.ensures (c.in_ok-answer.was ∙ ap Ok c.in-Waits.is)

pub returns-clause-counts : goal.returns-clause-counts
returns-clause-counts g c = acquire_sees c.args.pass.now _ (c.pass.view_is ∙ c.count_accepted.ensures.share) c.args.key c.args.resource (Waits c.in-Waits.holder c.in-Waits.label) c.show.new.reader

pub returns-clause-shown : goal.returns-clause-shown
returns-clause-shown g c = λ holder label told. c.show.ensures.shown ∙ sym (ap (λ (p : Published). new_seen (current_labels p)) c.show.ensures.met)

pub returns-clause-rises : goal.returns-clause-rises
returns-clause-rises g c = subst (λ (ls : List Label). NoneFalls ls c.show.new.reader.labels) (ap (λ (s : Shares). s.seen.labels) (c.pass.view_is ∙ c.count_accepted.ensures.share)) c.show.ensures.rises

pub returns-clause-held : goal.returns-clause-held
returns-clause-held g c =
    let count = λ (p : Published). p.holders_stored in
    ap count c.show.ensures.met ∙ ap count c.store_holder.ensures.stored ∙ ap (λ (p : Published). p.holders_stored + 1) c.store_label.ensures.stored

pub returns-clause-seen : goal.returns-clause-seen
returns-clause-seen g c = λ holder label told.
    let old = c.args.self.now in
    let is = c.in_ok-answer.was ∙ ap Ok c.in-Waits.is in
    let may = wait_stored old.publisher old.table c.acquire.new.self c.args.key c.keeps_laws.ensures old.published c.args.resource c.acquire.result c.acquire.ensures c.in-Waits.holder c.in-Waits.label is in
    stored_is_seen old.publisher c.store_label.new.self c.store_holder.new.self c.show.new.reader c.args.key.process c.in-Waits.label label may.within c.store_label.ensures.stored
    (ap (λ (q : Published). q.histories) c.store_holder.ensures.stored) c.show.ensures.shown (same_wait (Ok (Waits c.in-Waits.holder c.in-Waits.label)) c.in-Waits.holder holder _ _ refl told)
