use Rattle.std.proofs.Common.{sym, subst, refl}
use Rattle.mm_service.specs.declared.requests.KeyRequest.{KeyRequest}
use Rattle.mm_service.specs.declared.effect.Effect.TheVariants.{Nothing}
use Rattle.mm_manager.specs.Made.{Committed, Aborted, Cancelled}
use Rattle.mm_service.specs.Reply.{line_text, answer_text, committed_text, abort_text, cancel_text, status_text}
use Rattle.mm_service.specs.Text.{RepliesKey}
use Rattle.mm_service.proofs.calls.reply_of_key.Goals as goal

pub returns-in-Commit : goal.returns-in-Commit
returns-in-Commit c =
    let answer = c.commit-answer.result in
    let text = line_text (answer_text committed_text answer) in
    let Answer = λ (r : KeyRequest). RepliesKey r c.args.key c.args.manager.now text c.end_effect.result c.commit-answer.new.self in
    let made : Committed c.args.manager.now c.args.key answer c.commit-answer.new.self = record { commits = c.commit-answer.ensures.commits; totals = c.commit-answer.ensures.totals } in
    (text, subst Answer (sym c.in-Commit.is) (answer, made, refl, c.end_effect.ensures), c.print_committed.ensures.added)

pub returns-in-Abort : goal.returns-in-Abort
returns-in-Abort c =
    let answer = c.abort-answer.result in
    let text = line_text (answer_text abort_text answer) in
    let Answer = λ (r : KeyRequest). RepliesKey r c.args.key c.args.manager.now text c.end_effect-in-Abort.result c.abort-answer.new.self in
    let made : Aborted c.args.manager.now c.args.key answer c.abort-answer.new.self = record { aborts = c.abort-answer.ensures.aborts; totals = c.abort-answer.ensures.totals } in
    (text, subst Answer (sym c.in-Abort.is) (answer, made, refl, c.end_effect-in-Abort.ensures), c.print_abort.ensures.added)

pub returns-in-Cancel : goal.returns-in-Cancel
returns-in-Cancel c =
    let answer = c.cancel.result in
    let text = line_text (answer_text cancel_text answer) in
    let Answer = λ (r : KeyRequest). RepliesKey r c.args.key c.args.manager.now text Nothing c.cancel.new.self in
    let made : Cancelled c.args.manager.now c.args.key answer c.cancel.new.self = record { cancels = c.cancel.ensures.cancels; totals = c.cancel.ensures.totals } in
    (text, subst Answer (sym c.in-Cancel.is) (answer, made, refl, refl), c.print_cancel.ensures.added)

pub returns-in-Status : goal.returns-in-Status
returns-in-Status c =
    let answer = c.status.result in
    let text = line_text (answer_text (status_text c.args.manager.now) answer) in
    let Answer = λ (r : KeyRequest). RepliesKey r c.args.key c.args.manager.now text Nothing c.args.manager.now in
    (text, subst Answer (sym c.in-Status.is) (answer, c.status.ensures, refl, refl, refl), c.print_status.ensures.added)
