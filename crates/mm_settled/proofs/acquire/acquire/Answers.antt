use Rattle.std.proofs.Common.{◌≡◌, ◌+◌, Ok, Err, true, inl, inr, refl, sym, ap, subst, ◌∙◌, arith}
use Rattle.mm_rules.specs.declared.reply.Acquired.TheVariants.{Granted, Waits}
use Rattle.mm_rules.specs.TableState.{TableState}
use Rattle.mm_rules.specs.Event.{Acquire, Step}
use Rattle.mm_rules.specs.Laws.{AtRest}
use Rattle.mm_rules.proofs.States.Config.{event_config}
use Rattle.mm_rules.proofs.States.Counts.{event_counts}
use Rattle.mm_settled.specs.Calls.{has_room}
use Rattle.mm_settled.proofs.Lemmas.Lock.{IsTold, is_told, may_take_back, waits_with_room, lacks_room_both}
use Rattle.mm_settled.proofs.Lemmas.Quiet.{GrantsNow, granted_quiet, quiet_rests, same_is_quiet}
use Rattle.mm_settled.proofs.Lemmas.Refused.{acquire_refused}
use Rattle.mm_settled.proofs.Lemmas.Rest.{room_left}
use Rattle.mm_settled.proofs.acquire.acquire.Goals as goal

-- ---- there is no room to count it with a settle

pub returns-then-lacks_room-clause-locks : goal.returns-then-lacks_room-clause-locks
returns-then-lacks_room-clause-locks c = (refl, inr (refl, lacks_room_both _ _ (sym c.lacks_room.ensures ∙ c.if-lacks_room.true)))

pub returns-then-lacks_room-clause-nothing : goal.returns-then-lacks_room-clause-nothing
returns-then-lacks_room-clause-nothing c =
    let s = c.args.table.now in
    record { none = (same_is_quiet s s c.keeps_laws.ensures refl).granted; silent = inr (refl, c.clear.ensures.items) }

-- ---- the table refuses

is_refused : (c : goal.After-clear-in-Err) → Step (Acquire c.args.key c.args.resource) c.args.table.now (Err c.in-Err.refusal) c.acquire.new.self
is_refused c = rw c.in-Err.is at c.acquire.ensures

same : (c : goal.After-clear-in-Err) → c.acquire.new.self ≡ c.args.table.now
same c = acquire_refused c.args.table.now c.acquire.new.self c.args.key c.args.resource c.in-Err.refusal (is_refused c)

pub returns-in-Err-clause-locks : goal.returns-in-Err-clause-locks
returns-in-Err-clause-locks c =
    (same c, inl (subst (λ (t : TableState). Step (Acquire c.args.key c.args.resource) c.args.table.now (Err c.in-Err.refusal) t) (same c) (is_refused c)))

pub returns-in-Err-clause-none : goal.returns-in-Err-clause-none
returns-in-Err-clause-none c = λ v. (same_is_quiet c.args.table.now c.acquire.new.self c.keeps_laws.ensures (same c)).verdicts v ∙ c.requires.none v

pub returns-in-Err-clause-nothing : goal.returns-in-Err-clause-nothing
returns-in-Err-clause-nothing c = record { none = (same_is_quiet c.args.table.now c.acquire.new.self c.keeps_laws.ensures (same c)).granted; silent = inr (same c, c.clear-in-Err.ensures.items) }

pub returns-in-Err-clause-rest : goal.returns-in-Err-clause-rest
returns-in-Err-clause-rest c = subst (λ (t : TableState). AtRest t) (sym (same c)) c.requires.rest

pub returns-in-Err-clause-config : goal.returns-in-Err-clause-config
returns-in-Err-clause-config c = ap (λ (t : TableState). t.config) (same c)

-- ---- it is granted

is_granted : (c : goal.In-Ok-Granted) → Step (Acquire c.args.key c.args.resource) c.args.table.now (Ok Granted) c.acquire.new.self
is_granted c = rw (c.in-Ok-Granted.is, c.in-Ok-Granted.field-0-is) at c.acquire.ensures

grants : (c : goal.In-Ok-Granted) → GrantsNow c.args.table.now c.args.key c.acquire.new.self
grants c = granted_quiet c.args.table.now c.acquire.new.self c.args.key c.args.resource c.keeps_laws.ensures (is_granted c)

pub returns-in-Ok-Granted-clause-locks : goal.returns-in-Ok-Granted-clause-locks
returns-in-Ok-Granted-clause-locks c = is_granted c

pub returns-in-Ok-Granted-clause-none : goal.returns-in-Ok-Granted-clause-none
returns-in-Ok-Granted-clause-none c = λ v. (grants c).quiet.verdicts v ∙ c.requires.none v

pub returns-in-Ok-Granted-clause-nothing : goal.returns-in-Ok-Granted-clause-nothing
returns-in-Ok-Granted-clause-nothing c =
    let s = c.args.table.now in
    let t = c.acquire.new.self in
    let counted : t.totals.accepted ≡ s.totals.accepted + 1 = (event_counts (Acquire c.args.key c.args.resource) s t (Ok Granted) (is_granted c)).0 in
    record { none = (grants c).quiet.granted; silent = inl (omega (arith, counted)) }

pub returns-in-Ok-Granted-clause-rest : goal.returns-in-Ok-Granted-clause-rest
returns-in-Ok-Granted-clause-rest c =
    quiet_rests (Acquire c.args.key c.args.resource) c.args.table.now c.acquire.new.self c.acquire.result c.acquire.ensures c.keeps_laws.ensures c.requires.rest (grants c).quiet

pub returns-in-Ok-Granted-clause-config : goal.returns-in-Ok-Granted-clause-config
returns-in-Ok-Granted-clause-config c = event_config (Acquire c.args.key c.args.resource) c.args.table.now c.acquire.new.self c.acquire.result c.acquire.ensures

-- ---- it waits

pub settle_waiter-requires-clause-room : goal.settle_waiter-requires-clause-room
settle_waiter-requires-clause-room c =
    let s = c.args.table.now in
    let mid = c.acquire.new.self in
    let k = c.args.key in
    let r = c.args.resource in
    let h = c.in-Ok-Waits.holder in
    let l = c.in-Ok-Waits.field-0-1 in
    let asks : Step (Acquire k r) s (Ok (Waits h l)) mid = rw (c.in-Ok-Waits.is, c.in-Ok-Waits.field-0-is) at c.acquire.ensures in
    let room : has_room s ≡ true = waits_with_room s mid k h r l (sym c.lacks_room.ensures ∙ c.if-lacks_room.false) asks in
    room_left (Acquire k r) s mid (Waits h l) asks refl room

pub settle_waiter-requires-clause-closer : goal.settle_waiter-requires-clause-closer
settle_waiter-requires-clause-closer c =
    let s = c.args.table.now in
    let mid = c.acquire.new.self in
    let k = c.args.key in
    let r = c.args.resource in
    let h = c.in-Ok-Waits.holder in
    let l = c.in-Ok-Waits.field-0-1 in
    let asks : Step (Acquire k r) s (Ok (Waits h l)) mid = rw (c.in-Ok-Waits.is, c.in-Ok-Waits.field-0-is) at c.acquire.ensures in
    let room : has_room s ≡ true = waits_with_room s mid k h r l (sym c.lacks_room.ensures ∙ c.if-lacks_room.false) asks in
    λ t answer settle some. may_take_back s mid t k h r l answer c.keeps_laws.ensures c.requires.rest asks settle some room

told : (c : goal.After-settle_waiter) → IsTold c.args.table.now c.args.key c.args.resource c.settle_waiter.result c.settle_waiter.new.table
told c =
    let s = c.args.table.now in
    let mid = c.acquire.new.self in
    let k = c.args.key in
    let r = c.args.resource in
    let h = c.in-Ok-Waits.holder in
    let l = c.in-Ok-Waits.field-0-1 in
    let asks : Step (Acquire k r) s (Ok (Waits h l)) mid = rw (c.in-Ok-Waits.is, c.in-Ok-Waits.field-0-is) at c.acquire.ensures in
    let room : has_room s ≡ true = waits_with_room s mid k h r l (sym c.lacks_room.ensures ∙ c.if-lacks_room.false) asks in
    let settled = c.settle_waiter.ensures in
    is_told s mid settled.0 k h r l settled.1 c.keeps_laws.ensures c.requires.rest asks settled.2 c.requires.none room c.settle_waiter.result c.settle_waiter.new.table settled.3

pub returns-in-Ok-Waits-clause-locks : goal.returns-in-Ok-Waits-clause-locks
returns-in-Ok-Waits-clause-locks c = (told c).locks

pub returns-in-Ok-Waits-clause-none : goal.returns-in-Ok-Waits-clause-none
returns-in-Ok-Waits-clause-none c = (told c).none

pub returns-in-Ok-Waits-clause-nothing : goal.returns-in-Ok-Waits-clause-nothing
returns-in-Ok-Waits-clause-nothing c = record { none = (told c).grants; silent = inl (told c).counts }

pub returns-in-Ok-Waits-clause-rest : goal.returns-in-Ok-Waits-clause-rest
returns-in-Ok-Waits-clause-rest c = (told c).rest

pub returns-in-Ok-Waits-clause-config : goal.returns-in-Ok-Waits-clause-config
returns-in-Ok-Waits-clause-config c = (told c).config
