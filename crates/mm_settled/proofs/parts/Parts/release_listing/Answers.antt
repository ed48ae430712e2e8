use Rattle.std.proofs.Common.{◌++◌, ◌∷◌, [], Ok, Err, sym, ap, ◌∙◌}
use Rattle.mm_rules.specs.declared.reply.Released.TheVariants.{Free, To}
use Rattle.mm_rules.specs.Event.{Release, Step}
use Rattle.mm_settled.proofs.Lemmas.Quiet.{same_is_quiet}
use Rattle.mm_settled.proofs.Lemmas.Refused.{release_refused}
use Rattle.mm_settled.proofs.Lemmas.Released.{free_grants, to_grants}
use Rattle.mm_settled.proofs.parts.Parts.release_listing.Goals as goal

pub returns-in_err-answer-clause-granted : goal.returns-in_err-answer-clause-granted
returns-in_err-answer-clause-granted c =
    let s = c.args.self.now.table in
    let t = c.release_waking.new.self in
    let is : Step (Release c.args.key c.args.resource) s (Err c.in_err-answer.field-0.0) t = rw c.in_err-answer.was at c.release_waking.ensures.step in
    c.clear.ensures.items ∙ sym (same_is_quiet s t c.requires.laws (release_refused s t c.args.key c.args.resource c.in_err-answer.field-0.0 is)).granted

pub returns-in-To-clause-granted : goal.returns-in-To-clause-granted
returns-in-To-clause-granted c =
    let s = c.args.self.now.table in
    let t = c.release_waking.new.self in
    let is : Step (Release c.args.key c.args.resource) s (Ok (To c.in-To.key)) t = rw (c.in_ok-answer.was, c.in-To.is) at c.release_waking.ensures.step in
    c.push_reserved.ensures.items ∙ ap (λ gs. gs ++ record { key = c.in-To.key; resource = c.args.resource } ∷ []) c.clear.ensures.items
    ∙ sym (to_grants s t c.args.key c.args.resource c.in-To.key c.requires.laws is)

pub returns-in_default-clause-granted : goal.returns-in_default-clause-granted
returns-in_default-clause-granted c =
    let s = c.args.self.now.table in
    let t = c.release_waking.new.self in
    let is : Step (Release c.args.key c.args.resource) s (Ok Free) t = rw (c.in_ok-answer.was, c.in_default.is) at c.release_waking.ensures.step in
    c.clear.ensures.items ∙ sym (free_grants s t c.args.key c.args.resource c.requires.laws is)
