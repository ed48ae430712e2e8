use Rattle.std.proofs.Common.{◌≡◌, Ok, refl, sym, ap, ◌∙◌, arith}
use Rattle.mm_rules.specs.TableState.{owner_of}
use Rattle.mm_manager.specs.private.Requests.{may_ask_more}
use Rattle.mm_manager.proofs.Lemmas.Answered.{asks_more}
use Rattle.mm_manager.proofs.Lemmas.Limits.{may_use}
use Rattle.mm_manager.proofs.Lemmas.May.{asks, counted}
use Rattle.mm_manager.proofs.Lemmas.Numbers.{some_not_none}
use Rattle.mm_manager.proofs.Lemmas.Owners.{not_mine}
use Rattle.mm_manager.proofs.Lemmas.Unowned.{passed, not_passed}
use Rattle.mm_rules.proofs.States.Lookups.{live_within}
use Rattle.mm_manager.proofs.lock.is_granted.Goals as goal

pub returns-then-is_err-clause-refused : goal.returns-then-is_err-clause-refused
returns-then-is_err-clause-refused c = (
  λ more. not_passed c.may_ask_now.result c.if-is_err.ensures.value (c.may_ask_now.ensures ∙ ap (λ s. may_ask_more s c.args.key) c.table.ensures ∙ more),
  refl,
)

pub grant_free-requires-clause-passed : goal.grant_free-requires-clause-passed
grant_free-requires-clause-passed c =
    let s = c.args.table.now.table in
    let k = c.args.key in
    let more : may_ask_more s k ≡ Ok tt = ap (λ t. may_ask_more t k) (sym c.table.ensures) ∙ sym c.may_ask_now.ensures ∙ passed c.may_ask_now.result c.if-is_err.ensures.value in
    let r = c.args.number in
    let laws = c.is_at_rest.ensures.laws in
    let both = asks_more s k more in
    let active = asks s k both.0 in
    may_use s k laws c.requires.left active.live active.idle (counted s both.1) r c.requires.in_range (not_mine s k r laws active.live (λ mine. some_not_none (owner_of s r) k mine c.requires.free))

pub grant_free-requires-clause-process : goal.grant_free-requires-clause-process
grant_free-requires-clause-process c =
    let s = c.args.table.now.table in
    let k = c.args.key in
    let more : may_ask_more s k ≡ Ok tt = ap (λ t. may_ask_more t k) (sym c.table.ensures) ∙ sym c.may_ask_now.ensures ∙ passed c.may_ask_now.result c.if-is_err.ensures.value in
    live_within s k c.is_at_rest.ensures.laws.lawful.well_formed.sizes (asks s k (asks_more s k more).0).live

pub grant_free-requires-clause-count : goal.grant_free-requires-clause-count
grant_free-requires-clause-count c =
    let s = c.args.table.now.table in
    let k = c.args.key in
    let more : may_ask_more s k ≡ Ok tt = ap (λ t. may_ask_more t k) (sym c.table.ensures) ∙ sym c.may_ask_now.ensures ∙ passed c.may_ask_now.result c.if-is_err.ensures.value in
    omega (arith, counted s (asks_more s k more).1)

pub returns-clause-granted : goal.returns-clause-granted
returns-clause-granted c =
    let s = c.args.table.now.table in
    let k = c.args.key in
    let more : may_ask_more s k ≡ Ok tt = ap (λ t. may_ask_more t k) (sym c.table.ensures) ∙ sym c.may_ask_now.ensures ∙ passed c.may_ask_now.result c.if-is_err.ensures.value in
    (more, c.grant_free.ensures.locks)
