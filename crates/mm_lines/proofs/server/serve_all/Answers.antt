use Rattle.std.proofs.Common.{◌+◌, ap, refl, sym, inl, inr, [], ◌++◌, length, length-drop, arith}
use Rattle.std.proofs.lemmas.Bool.{cases_lt}
use Rattle.mm_lines.proofs.Lemmas.Output.{writes_none, writes_on, writes_reply}
use Rattle.mm_lines.proofs.Lemmas.Reached.{reached_first, reached_line, reached_read, few_read, at_end, line_within, counts, told, told_fault, served_read, served_too_long, served_write, served_lost, served_ok}
use Rattle.mm_lines.proofs.server.serve_all.Goals as goal

pub loop-input-init : goal.loop-input-init
loop-input-init g c = rw (c.requires.input, c.requires.output) (record {
  replies = [];
  so_far = reached_first g.A.Answerer.answers _ _ _;
  writes = writes_none _ [];
  none_kept = refl;
  few = omega arith;
  within = omega arith;
  open_line = refl;
})

pub returns-in_err-read-clause-ends : goal.returns-in_err-read-clause-ends
returns-in_err-read-clause-ends g c =
    let i = c.loop-input.invariant in
    let read = c.in_err-read.ensures in
    told_fault _ (served_read i.so_far i.within _ i.writes i.open_line read.err) read.fault c.from_residual.ensures.1

pub loop-line-init : goal.loop-line-init
loop-line-init g c =
    let i = c.loop-input.invariant in
    let read = c.in_ok-read.ensures.ok in
    record {
      replies = i.replies;
      so_far = reached_read i.so_far i.within i.open_line g.met.A.Answerer.long read;
      writes = rw i.none_kept i.writes;
      few = few_read i.so_far i.within i.open_line g.met.A.Answerer.long read i.few;
      taken = refl;
    }

pub returns-in_err-make_room-clause-ends : goal.returns-in_err-make_room-clause-ends
returns-in_err-make_room-clause-ends g c =
    let l = c.loop-line.invariant in
    let room = c.in_err-make_room.ensures in
    told_fault _ (served_write l.so_far (writes_on l.writes refl room.written.1)) room.fault c.from_residual-in_err-make_room.ensures.1

pub returns-in_err-answer-clause-ends : goal.returns-in_err-answer-clause-ends
returns-in_err-answer-clause-ends g c =
    let l = c.loop-line.invariant in
    let line = c.in-Some.ensures in
    let room = c.in_ok-make_room.ensures.written in
    let a = c.in_err-answer.ensures in
    let reached = reached_line l.so_far c.held.ensures line.some line.before a.answered.3 _ refl in
    told_fault _ (served_write reached (writes_reply _ (writes_on l.writes refl room.1) room.2 a.answered.4)) a.fault c.from_residual-in_err-answer.ensures.1

pub loop-line-preserved : goal.loop-line-preserved
loop-line-preserved g c =
    let l = c.loop-line.invariant in
    let line = c.in-Some.ensures in
    let room = c.in_ok-make_room.ensures.written in
    let a = c.in_ok-answer.ensures.answered in
    let one = counts _ _ _ a.5.0 c.from.ensures in
    rw (c.drop_front.ensures, ← a.5.1) (record {
      replies = l.replies ++ a.0;
      so_far = reached_line l.so_far c.held.ensures line.some line.before a.3 _ (ap (λ n. c.loop-line.malformed + n) one.0);
      writes = writes_reply _ (writes_on l.writes refl room.1) room.2 a.4;
      few = omega (arith, l.few, one.1, line_within c.held.ensures line.some line.before, length-drop (length c.in-Some.line.now + 1) c.loop-line.input.held);
      taken = l.taken;
    })

pub returns-in_err-write_output-clause-ends : goal.returns-in_err-write_output-clause-ends
returns-in_err-write_output-clause-ends g c =
    let l = c.loop-line.invariant in
    let w = c.in_err-write_output.ensures in
    told_fault _ (served_write l.so_far (writes_on l.writes refl w.written.1)) w.fault c.from_residual-in_err-write_output.ensures.1

pub returns-then-is_past_limit-clause-ends : goal.returns-then-is_past_limit-clause-ends
returns-then-is_past_limit-clause-ends g c =
    let l = c.loop-line.invariant in
    let w = c.in_ok-write_output.ensures.written in
    let past = rw l.so_far.same_limits at (c.if-is_past_limit.ensures.0 refl) in
    told (served_too_long l.so_far (rw w.2 at (writes_on l.writes refl w.1)) (rw c.held.ensures at c.in_default.ensures.none) past)

pub loop-input-preserved : goal.loop-input-preserved
loop-input-preserved g c =
    let l = c.loop-line.invariant in
    let w = c.in_ok-write_output.ensures in
    record {
      replies = l.replies;
      so_far = l.so_far;
      writes = rw w.written.2 at (writes_on l.writes refl w.written.1);
      none_kept = w.output;
      few = l.few;
      within = elim (cases_lt c.loop-line.input.limits.input c.loop-line.input.taken) [
        | inl past ↦ let over = c.if-is_past_limit.ensures.1 past in cc
        | inr within ↦ omega (arith, within, ap (λ k. k.input) l.so_far.same_limits)
      ];
      open_line = rw c.held.ensures at c.in_default.ensures.none;
    }

pub answer_open-requires-clause-open : goal.answer_open-requires-clause-open
answer_open-requires-clause-open g c =
    let i = c.loop-input.invariant in
    rw c.held-2.ensures (at_end i.so_far i.within i.open_line g.met.A.Answerer.long c.in_ok-read.ensures.ok c.if-branch.false).1

pub returns-in_err-answer_open-clause-ends : goal.returns-in_err-answer_open-clause-ends
returns-in_err-answer_open-clause-ends g c =
    let i = c.loop-input.invariant in
    let read = c.in_ok-read.ensures.ok in
    let so_far = reached_read i.so_far i.within i.open_line g.met.A.Answerer.long read in
    let end = at_end i.so_far i.within i.open_line g.met.A.Answerer.long read c.if-branch.false in
    let a = c.in_err-answer_open.ensures in
    told_fault _ (served_lost so_far end.0 c.held-2.ensures _ _ _ a.answered.3 (writes_reply _ i.writes (sym i.none_kept) a.answered.4)) a.fault c.from_residual-in_err-answer_open.ensures.1

pub returns-in_err-flush_output-clause-ends : goal.returns-in_err-flush_output-clause-ends
returns-in_err-flush_output-clause-ends g c =
    let i = c.loop-input.invariant in
    let read = c.in_ok-read.ensures.ok in
    let so_far = reached_read i.so_far i.within i.open_line g.met.A.Answerer.long read in
    let end = at_end i.so_far i.within i.open_line g.met.A.Answerer.long read c.if-branch.false in
    let a = c.in_ok-answer_open.ensures.answered in
    let w = c.in_err-flush_output.ensures in
    told_fault _ (served_lost so_far end.0 c.held-2.ensures _ _ _ a.3 (writes_on (writes_reply _ i.writes (sym i.none_kept) a.4) a.5.1 w.written.1)) w.fault c.from_residual-in_err-flush_output.ensures.1

pub returns-clause-ends : goal.returns-clause-ends
returns-clause-ends g c =
    let i = c.loop-input.invariant in
    let read = c.in_ok-read.ensures.ok in
    let so_far = reached_read i.so_far i.within i.open_line g.met.A.Answerer.long read in
    let end = at_end i.so_far i.within i.open_line g.met.A.Answerer.long read c.if-branch.false in
    let a = c.in_ok-answer_open.ensures.answered in
    let one = counts _ _ _ a.5.0 c.from-2.ensures in
    let w = c.in_ok-flush_output.ensures.written in
    told (served_ok so_far end.0 c.held-2.ensures _ _ _ a.3 (rw w.2 at (writes_on (writes_reply _ i.writes (sym i.none_kept) a.4) a.5.1 w.1)) _ (ap (λ n. c.loop-input.malformed + n) one.0))
