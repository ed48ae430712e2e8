use Rattle.std.proofs.Common.{◌≡◌, sym, subst, refl, Result, Ok, Err, OnOk}
use Rattle.std.specs.Result.{MatchResult, result_and}
use Rattle.mm_arena.specs.declared.key.Key.{Key}
use Rattle.mm_manager.specs.Made.{Locked, Tried, Unlocked}
use Rattle.mm_manager.specs.declared.refusal.Refusal.{Refusal}
use Rattle.mm_manager.specs.declared.reply.Lock.{Lock}
use Rattle.mm_manager.specs.declared.reply.Lock.TheVariants as lock
use Rattle.mm_service.specs.Cycle.{lock_text}
use Rattle.mm_service.specs.Reply.{line_text, answer_text, try_text, unlocked_text}
use Rattle.mm_service.specs.Text.{EndsNobody, RepliesName, lock_effect}
use Rattle.mm_service.specs.declared.effect.Effect.{Effect}
use Rattle.mm_service.specs.declared.effect.Effect.TheVariants.{Nothing, EndedWaits}
use Rattle.mm_service.specs.declared.requests.NameRequest.{NameRequest}
use Rattle.mm_service.proofs.Lemmas.Pieces.{writes_printed}
use Rattle.mm_service.proofs.calls.write_of_name.Goals as goal

-- a lock ends nobody, whatever comes of it
lock_ends_nobody : (k : Key) (answer : Result Lock Refusal) → EndsNobody (lock_effect k answer)
lock_ends_nobody k (Ok lock.Granted) = tt
lock_ends_nobody k (Ok lock.Held) = tt
lock_ends_nobody k (Ok (lock.Waits h)) = tt
lock_ends_nobody k (Ok (lock.Deadlock h)) = tt
lock_ends_nobody k (Err refusal) = tt

-- it comes to that, whether its reply is written or not
came_to : {T E : Type 0} (P : Type 0) (effect : Effect) (outcome : Result T E) → EndsNobody effect → OnOk outcome P → MatchResult (result_and outcome (Ok effect)) (λ (it : Effect). (it ≡ effect) × P) (λ _. EndsNobody effect)
came_to P effect (Ok done) quiet kept = (refl, kept)
came_to P effect (Err fault) quiet kept = quiet

pub returns-in-Lock-clause-replies : goal.returns-in-Lock-clause-replies
returns-in-Lock-clause-replies g c =
    let answer = c.lock-answer.result in
    let did = c.lock-answer.ensures in
    let m = c.lock-answer.new.self in
    let text = line_text (answer_text (lock_text m c.args.key) answer) in
    let effect = c.lock_effect.result in
    let written = c.write_lock-outcome.ensures.written in
    let R = λ (r : NameRequest). RepliesName r c.args.key c.args.name.now c.args.manager.now text effect m in
    let made : Locked c.args.manager.now c.args.key c.args.name.now answer m = record { locks = did.locks; may = did.may; room = did.room; step = did.step; granted = did.granted; totals = did.totals } in
    let quiet = subst EndsNobody (sym c.lock_effect.ensures) (lock_ends_nobody c.args.key answer) in
    (text, effect, written.0, subst R (sym c.in-Lock.is) (answer, made, refl, c.lock_effect.ensures), written.1, rw c.and.ensures (came_to _ effect _ quiet written.2))

pub returns-in-Try-clause-replies : goal.returns-in-Try-clause-replies
returns-in-Try-clause-replies g c =
    let answer = c.try_lock.result in
    let text = line_text (answer_text try_text answer) in
    let did = c.try_lock.ensures in
    let items = c.print_try.new.output.items in
    let R = λ (r : NameRequest). RepliesName r c.args.key c.args.name.now c.args.manager.now text Nothing c.try_lock.new.self in
    let made : Tried c.args.manager.now c.args.key c.args.name.now answer c.try_lock.new.self = record { tries = did.tries; may = did.may; room = did.room; step = did.step; granted = did.granted; totals = did.totals } in
    (text, Nothing, items, subst R (sym c.in-Try.is) (answer, made, refl, refl), writes_printed _ c.args.output.now.items text items c.print_try.ensures.added, (refl, refl))

pub returns-in-Unlock-clause-replies : goal.returns-in-Unlock-clause-replies
returns-in-Unlock-clause-replies g c =
    let answer = c.unlock.result in
    let text = line_text (answer_text unlocked_text answer) in
    let items = c.print_unlocked.new.output.items in
    let R = λ (r : NameRequest). RepliesName r c.args.key c.args.name.now c.args.manager.now text EndedWaits c.unlock.new.self in
    let made : Unlocked c.args.manager.now c.args.key c.args.name.now answer c.unlock.new.self = record { unlocks = c.unlock.ensures.unlocks; totals = c.unlock.ensures.totals } in
    (text, EndedWaits, items, subst R (sym c.in-Unlock.is) (answer, made, refl, refl), writes_printed _ c.args.output.now.items text items c.print_unlocked.ensures.added, (refl, refl))
