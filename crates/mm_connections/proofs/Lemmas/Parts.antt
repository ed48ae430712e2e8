-- A part of an end, one name after the other, and what it leaves of transactions.
use Rattle.std.proofs.Common.{◌≡◌, ◌+◌, ℕ, zero, suc, List, [], ◌++◌, Option, None, Result, Ok, Err, true, refl, sym, ap, subst, ◌∙◌, arith}
use Rattle.mm_arena.specs.declared.key.Key.{Key}
use Rattle.mm_rules.specs.TableState.{is_live}
use Rattle.mm_manager.specs.Calls.{Cancels, UnlocksAny}
use Rattle.mm_manager.specs.LockState.{LockState, IsLawful}
use Rattle.mm_manager.specs.declared.refusal.Refusal.{Refusal}
use Rattle.mm_apart.proofs.Lemmas.Dead.{abort_own, commit_own}
use Rattle.mm_apart.proofs.Lemmas.Events.{withdrawal_live}
use Rattle.mm_apart.proofs.Lemmas.Left.{as_it_was, left_left}
use Rattle.mm_apart.proofs.Lemmas.Requests.{cancels, unlocks_any, unlock_live}
use Rattle.mm_connections.specs.Apart.{LastPartsEnd, PartsEndNobody, StaysApart}
use Rattle.mm_connections.specs.Begun.{connection_of}
use Rattle.mm_connections.specs.Hub.{Hub}
use Rattle.mm_connections.specs.Text.{EndsPart, GivesBack, GivesBackMany}
use Rattle.mm_connections.proofs.Lemmas.Begun.{now_aside_same}

-- ---- one after the other

pub gives_none : (but : Option ℕ) (k : Key) (h : Hub) → GivesBackMany but k 0 h [] h
unfolding GivesBackMany
gives_none but k h = (refl, refl)

pub gives_more : (but : Option ℕ) (k : Key) (n : ℕ) (old mid : Hub) (told one : List ℕ) (new : Hub) → GivesBackMany but k n old told mid → GivesBack but k mid one new → GivesBackMany but k (n + 1) old (told ++ one) new
unfolding GivesBackMany
gives_more but k n old mid told one new so_far last =
    let next : n + 1 ≡ suc n = omega arith in
    let made : GivesBackMany but k (suc n) old (told ++ one) new = (mid, told, one, so_far, last, refl) in
    subst (λ m. GivesBackMany but k m old (told ++ one) new) (sym next) made

pub gives_config : (old new : LockState) (k : Key) (answer : Result (Unit {0}) Refusal) → UnlocksAny old k answer new → new.table.config ≡ old.table.config
gives_config old new k (Ok done) did = did.1.passes.config
gives_config old new k (Err refusal) did = ap (λ (m : LockState). m.table.config) did.0

pub gives_options : (but : Option ℕ) (k : Key) (n : ℕ) (old : Hub) (out : List ℕ) (new : Hub) → GivesBackMany but k n old out new → new.options ≡ old.options
unfolding GivesBackMany
gives_options but k zero old out new (none, same) = ap (λ (h : Hub). h.options) same
gives_options but k (suc n) old out new (mid, first, last, so_far, one, text) = ap (λ (h : Hub). h.options) one.rest ∙ gives_options but k n old first mid so_far

-- ---- others are left

module _ (but : Option ℕ) (k : Key) (t : Key) where
  one_stays : (old : Hub) (out : List ℕ) (new : Hub) → GivesBack but k old out new → IsLawful old.manager → is_live old.manager.table t ≡ true → ¬ (k ≡ t) → StaysApart old t new
  one_stays old out new one lawful live other = record {
    left = unlocks_any old.manager new.manager k t lawful one.lawful live other one.answer one.did.unlocks;
    owner = ap (λ (h : Hub). connection_of h.begun t) one.rest;
  }

  many_lawful : (n : ℕ) (old : Hub) (out : List ℕ) (new : Hub) → GivesBackMany but k n old out new → IsLawful old.manager → IsLawful new.manager
  unfolding GivesBackMany
  many_lawful zero old out new (none, same) lawful = subst (λ (h : Hub). IsLawful h.manager) (sym same) lawful
  many_lawful (suc n) old out new (mid, first, last, so_far, one, text) lawful = one.lawful

  pub many_stay : (n : ℕ) (old : Hub) (out : List ℕ) (new : Hub) → GivesBackMany but k n old out new → IsLawful old.manager → is_live old.manager.table t ≡ true → ¬ (k ≡ t) → StaysApart old t new
  unfolding GivesBackMany
  many_stay zero old out new (none, same) lawful live other =
      record { left = as_it_was old.manager new.manager t live (ap (λ (h : Hub). h.manager) same); owner = ap (λ (h : Hub). connection_of h.begun t) same }
  many_stay (suc n) old out new (mid, first, last, so_far, one, text) lawful live other =
      let before = many_stay n old first mid so_far lawful live other in
      let after = one_stays mid last new one (many_lawful n old first mid so_far lawful) before.left.live other in
      record { left = left_left old.manager mid.manager new.manager t before.left after.left; owner = after.owner ∙ before.owner }

  -- each is live that was, the transaction itself too, and is whose it was
  pub many_live : (n : ℕ) (old : Hub) (out : List ℕ) (new : Hub) → GivesBackMany but k n old out new → IsLawful old.manager → is_live new.manager.table t ≡ is_live old.manager.table t
  unfolding GivesBackMany
  many_live zero old out new (none, same) lawful = ap (λ (h : Hub). is_live h.manager.table t) same
  many_live (suc n) old out new (mid, first, last, so_far, one, text) lawful =
      unlock_live mid.manager new.manager k t (many_lawful n old first mid so_far lawful) one.answer one.did.unlocks ∙ many_live n old first mid so_far lawful

  pub many_begun : (n : ℕ) (old : Hub) (out : List ℕ) (new : Hub) → GivesBackMany but k n old out new → new.begun ≡ old.begun
  unfolding GivesBackMany
  many_begun zero old out new (none, same) = ap (λ (h : Hub). h.begun) same
  many_begun (suc n) old out new (mid, first, last, so_far, one, text) = ap (λ (h : Hub). h.begun) one.rest ∙ many_begun n old first mid so_far

-- ---- a part of an end

pub part_apart : (k : Key) (old : Hub) (out : List ℕ) (new : Hub) (t : Key) → EndsPart k old out new → IsLawful old.manager → is_live old.manager.table t ≡ true → ¬ (k ≡ t) → StaysApart old t new
part_apart k old out new t part lawful live other =
    let back = cancels old.manager part.idle.manager k t lawful part.back live other part.answer part.did.cancels in
    let gives = many_stay None k t 1024 part.idle part.told new part.gives part.back back.live other in
    record {
      left = left_left old.manager part.idle.manager new.manager t back gives.left;
      owner = gives.owner ∙ ap (λ (h : Hub). connection_of h.begun t) part.rest ∙ now_aside_same old.begun k t;
    }

pub cancel_live : (old new : LockState) (k t : Key) (answer : Result (Unit {0}) Refusal) → Cancels old k answer new → is_live new.table t ≡ is_live old.table t
cancel_live old new k t (Ok done) back = withdrawal_live old.table new.table k t back.made
cancel_live old new k t (Err refusal) did = ap (λ (m : LockState). is_live m.table t) did.0

pub parts_end_nobody : PartsEndNobody
parts_end_nobody k old new out part lawful t = (
  many_live None k t 1024 part.idle part.told new part.gives part.back ∙ cancel_live old.manager part.idle.manager k t part.answer part.did.cancels,
  ap (λ b. connection_of b t) (many_begun None k t 1024 part.idle part.told new part.gives) ∙ ap (λ (h : Hub). connection_of h.begun t) part.rest ∙ now_aside_same old.begun k t,
)

pub last_parts_end : LastPartsEnd
last_parts_end c k name out old new lawful = (
  λ makes. let did = makes.replies.replies in abort_own old.manager new.manager k lawful.manager did.0 did.1.aborts,
  λ makes. let did = makes.replies.replies in commit_own old.manager new.manager k did.0 did.1.commits,
)
