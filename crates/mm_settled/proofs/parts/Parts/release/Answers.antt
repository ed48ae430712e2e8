use Rattle.std.proofs.Common.{◌≡◌, Ok, Err, nat_eq, refl, sym, subst, ◌∙◌}
use Rattle.mm_rules.specs.Event.{Release, Step}
use Rattle.mm_settle_lemmas.proofs.Lemmas.Shown.{shown_changes_are_told}
use Rattle.mm_settled.specs.private.Lists.{ComesToRest}
use Rattle.mm_settled.proofs.Lemmas.Ends.{release_hands_on}
use Rattle.mm_settled.proofs.Lemmas.EndsAs.{refused_for_room, ends_refused, ends_cleared, makes_as, hands_over_made, hands_over_ends}
use Rattle.mm_settled.proofs.Lemmas.Refused.{release_refused, refuses}
use Rattle.mm_settled.proofs.Lemmas.Rest.{room_left}
use Rattle.mm_settled.proofs.parts.Parts.release.Goals as goal

pub returns-then-not-has_room-clause-makes : goal.returns-then-not-has_room-clause-makes
returns-then-not-has_room-clause-makes c = refused_for_room (Release c.args.key c.args.resource) c.args.self.now.table (sym c.has_room.ensures ∙ c.if-not-has_room.true)

pub returns-then-not-has_room-clause-ends : goal.returns-then-not-has_room-clause-ends
returns-then-not-has_room-clause-ends c =
    ends_cleared c.args.self.now.table c.args.key.process c.args.self.now.lists (record c.args.self.now.lists { granted = c.clear.new.self }) c.keeps_laws.ensures c.requires.rest c.requires.fits
    record { granted = c.clear.ensures.capacity; woken = refl; owned = refl; resources = refl } c.clear.ensures.items

-- ---- the table refuses

is_refused : (c : goal.After-from_residual) → Step (Release c.args.key c.args.resource) c.args.self.now.table (Err c.in_err-answer.field-0.0) c.release_listing.new.self.table
is_refused c = rw c.in_err-answer.was at c.release_listing.ensures.step

same : (c : goal.After-from_residual) → c.release_listing.new.self.table ≡ c.args.self.now.table
same c = release_refused c.args.self.now.table c.release_listing.new.self.table c.args.key c.args.resource c.in_err-answer.field-0.0 (is_refused c)

pub returns-in_err-answer-clause-makes : goal.returns-in_err-answer-clause-makes
returns-in_err-answer-clause-makes c =
    let e = Release c.args.key c.args.resource in
    makes_as e c.args.self.now.table c.release_listing.new.self.table c.from_residual.result c.in_err-answer.field-0.0 c.from_residual.ensures
    (refuses e c.args.self.now.table c.release_listing.new.self.table c.in_err-answer.field-0.0 (sym c.has_room.ensures ∙ c.if-not-has_room.false) (is_refused c) (same c))

pub returns-in_err-answer-clause-ends : goal.returns-in_err-answer-clause-ends
returns-in_err-answer-clause-ends c =
    ends_refused c.args.self.now.table c.release_listing.new.self.table c.args.key.process c.release_listing.new.self.lists c.keeps_laws.ensures c.requires.rest (same c)
    c.release_listing.ensures.granted c.release_listing.ensures.fits

-- ---- it is accepted

pub come_to_rest-requires : goal.come_to_rest-requires
come_to_rest-requires c =
    room_left (Release c.args.key c.args.resource) c.args.self.now.table c.release_listing.new.self.table c.in_ok-answer.answer (rw c.in_ok-answer.was at c.release_listing.ensures.step) (λ i. 0)
    (sym c.has_room.ensures ∙ c.if-not-has_room.false)

-- what come_to_rest is lent is the list of the woken
rests : (c : goal.After-come_to_rest) → ComesToRest c.release_listing.new.self.table c.release_listing.new.self.lists.woken.items c.come_to_rest.new.table
rests c = subst (λ ns. ComesToRest c.release_listing.new.self.table ns c.come_to_rest.new.table) c.deref.ensures.value c.come_to_rest.ensures

pub returns-clause-makes : goal.returns-clause-makes
returns-clause-makes c =
    let s = c.args.self.now.table in
    let mid = c.release_listing.new.self.table in
    let e = Release c.args.key c.args.resource in
    let step : Step e s (Ok c.in_ok-answer.answer) mid = rw c.in_ok-answer.was at c.release_listing.ensures.step in
    hands_over_made s mid c.come_to_rest.new.table c.args.key.process (λ q. nat_eq q c.args.resource) c.release_listing.new.self.lists c.keeps_laws.ensures c.requires.rest
    (sym c.has_room.ensures ∙ c.if-not-has_room.false) c.release_listing.ensures.granted c.release_listing.ensures.woken (rests c) c.release_listing.ensures.fits e c.in_ok-answer.answer step (λ never. never)
    (shown_changes_are_told e s mid (Ok c.in_ok-answer.answer) step c.keeps_laws.ensures).shown (release_hands_on s mid c.args.key c.args.resource c.in_ok-answer.answer c.keeps_laws.ensures step)

pub returns-clause-ends : goal.returns-clause-ends
returns-clause-ends c =
    let s = c.args.self.now.table in
    let mid = c.release_listing.new.self.table in
    let e = Release c.args.key c.args.resource in
    let step : Step e s (Ok c.in_ok-answer.answer) mid = rw c.in_ok-answer.was at c.release_listing.ensures.step in
    hands_over_ends s mid c.come_to_rest.new.table c.args.key.process (λ q. nat_eq q c.args.resource) c.release_listing.new.self.lists c.keeps_laws.ensures c.requires.rest
    (sym c.has_room.ensures ∙ c.if-not-has_room.false) c.release_listing.ensures.granted c.release_listing.ensures.woken (rests c) c.release_listing.ensures.fits e c.in_ok-answer.answer step (λ never. never)
    (shown_changes_are_told e s mid (Ok c.in_ok-answer.answer) step c.keeps_laws.ensures).shown (release_hands_on s mid c.args.key c.args.resource c.in_ok-answer.answer c.keeps_laws.ensures step)
