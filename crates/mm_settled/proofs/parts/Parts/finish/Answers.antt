use Rattle.std.proofs.Common.{◌≡◌, Ok, Err, refl, sym, subst, ◌∙◌}
use Rattle.mm_rules.specs.TableState.{owns}
use Rattle.mm_rules.specs.Event.{Finish, Step}
use Rattle.mm_settle_lemmas.proofs.Lemmas.Shown.{shown_changes_are_told}
use Rattle.mm_settled.specs.private.Lists.{ComesToRest}
use Rattle.mm_settled.proofs.Lemmas.Ends.{finish_hands_on}
use Rattle.mm_settled.proofs.Lemmas.EndsAs.{refused_for_room, ends_refused, ends_cleared, makes_as, hands_over_made, hands_over_ends}
use Rattle.mm_settled.proofs.Lemmas.Refused.{finish_refused, refuses}
use Rattle.mm_settled.proofs.Lemmas.Rest.{room_left}
use Rattle.mm_settled.proofs.parts.Parts.finish.Goals as goal

pub returns-then-not-has_room-clause-makes : goal.returns-then-not-has_room-clause-makes
returns-then-not-has_room-clause-makes c = refused_for_room (Finish c.args.key) c.args.self.now.table (sym c.has_room.ensures ∙ c.if-not-has_room.true)

pub returns-then-not-has_room-clause-ends : goal.returns-then-not-has_room-clause-ends
returns-then-not-has_room-clause-ends c =
    ends_cleared c.args.self.now.table c.args.key.process c.args.self.now.lists (record c.args.self.now.lists { granted = c.clear.new.self }) c.keeps_laws.ensures c.requires.rest c.requires.fits
    record { granted = c.clear.ensures.capacity; woken = refl; owned = refl; resources = refl } c.clear.ensures.items

-- ---- the table refuses

is_refused : (c : goal.After-from_residual) → Step (Finish c.args.key) c.args.self.now.table (Err c.in_err-finish_listing.field-0.0) c.finish_listing.new.self.table
is_refused c = rw c.in_err-finish_listing.was at c.finish_listing.ensures.step

same : (c : goal.After-from_residual) → c.finish_listing.new.self.table ≡ c.args.self.now.table
same c = finish_refused c.args.self.now.table c.finish_listing.new.self.table c.args.key c.in_err-finish_listing.field-0.0 (is_refused c)

pub returns-in_err-finish_listing-clause-makes : goal.returns-in_err-finish_listing-clause-makes
returns-in_err-finish_listing-clause-makes c =
    makes_as (Finish c.args.key) c.args.self.now.table c.finish_listing.new.self.table c.from_residual.result c.in_err-finish_listing.field-0.0 c.from_residual.ensures
    (refuses (Finish c.args.key) c.args.self.now.table c.finish_listing.new.self.table c.in_err-finish_listing.field-0.0 (sym c.has_room.ensures ∙ c.if-not-has_room.false) (is_refused c) (same c))

pub returns-in_err-finish_listing-clause-ends : goal.returns-in_err-finish_listing-clause-ends
returns-in_err-finish_listing-clause-ends c =
    ends_refused c.args.self.now.table c.finish_listing.new.self.table c.args.key.process c.finish_listing.new.self.lists c.keeps_laws.ensures c.requires.rest (same c)
    c.finish_listing.ensures.granted c.finish_listing.ensures.fits

-- ---- it is accepted

step : (c : goal.After-come_to_rest) → Step (Finish c.args.key) c.args.self.now.table (Ok tt) c.finish_listing.new.self.table
step c = rw c.in_ok-finish_listing.was at c.finish_listing.ensures.step

pub come_to_rest-requires : goal.come_to_rest-requires
come_to_rest-requires c =
    room_left (Finish c.args.key) c.args.self.now.table c.finish_listing.new.self.table tt (rw c.in_ok-finish_listing.was at c.finish_listing.ensures.step) (λ i. 0)
    (sym c.has_room.ensures ∙ c.if-not-has_room.false)

-- what come_to_rest is lent is the list of the woken
rests : (c : goal.After-come_to_rest) → ComesToRest c.finish_listing.new.self.table c.finish_listing.new.self.lists.woken.items c.come_to_rest.new.table
rests c = subst (λ ns. ComesToRest c.finish_listing.new.self.table ns c.come_to_rest.new.table) c.deref.ensures.value c.come_to_rest.ensures

pub returns-clause-makes : goal.returns-clause-makes
returns-clause-makes c =
    let s = c.args.self.now.table in
    let mid = c.finish_listing.new.self.table in
    let k = c.args.key in
    hands_over_made s mid c.come_to_rest.new.table k.process (owns s k.process) c.finish_listing.new.self.lists c.keeps_laws.ensures c.requires.rest
    (sym c.has_room.ensures ∙ c.if-not-has_room.false) c.finish_listing.ensures.granted c.finish_listing.ensures.woken (rests c) c.finish_listing.ensures.fits (Finish k) tt (step c) (λ never. never)
    (shown_changes_are_told (Finish k) s mid (Ok tt) (step c) c.keeps_laws.ensures).shown (finish_hands_on s mid k c.keeps_laws.ensures (step c))

pub returns-clause-ends : goal.returns-clause-ends
returns-clause-ends c =
    let s = c.args.self.now.table in
    let mid = c.finish_listing.new.self.table in
    let k = c.args.key in
    hands_over_ends s mid c.come_to_rest.new.table k.process (owns s k.process) c.finish_listing.new.self.lists c.keeps_laws.ensures c.requires.rest
    (sym c.has_room.ensures ∙ c.if-not-has_room.false) c.finish_listing.ensures.granted c.finish_listing.ensures.woken (rests c) c.finish_listing.ensures.fits (Finish k) tt (step c) (λ never. never)
    (shown_changes_are_told (Finish k) s mid (Ok tt) (step c) c.keeps_laws.ensures).shown (finish_hands_on s mid k c.keeps_laws.ensures (step c))
