-- A request for a number that nobody owns.
use Rattle.std.proofs.Common.{◌≡◌, ◌≢◌, ◌<◌, ℕ, Bool, true, false, None, Result, Ok, Err, refl}
use Rattle.std.specs.Bool.{OnTrue, OnFalse}
use Rattle.std.specs.Prelude.{is_ok, is_err}
use Rattle.mm_arena.specs.declared.key.Key.{Key}
use Rattle.mm_rules.specs.declared.refusal.Refusal as table
use Rattle.mm_rules.specs.TableState.{TableState, owner_of}
use Rattle.mm_rules.specs.Laws.{Laws}
use Rattle.mm_settled.specs.Calls.{Locks}
use Rattle.mm_settled.specs.declared.reply.Locked.{Locked}
use Rattle.mm_settled.specs.declared.reply.Locked.TheVariants as locked
use Rattle.mm_manager.specs.Permit.{may_count}
use Rattle.mm_manager.specs.declared.refusal.Refusal.{Refusal}
use Rattle.mm_manager.specs.private.Requests.{may_ask_more}
use Rattle.mm_manager.specs.private.Room.{HasReserve}
use Rattle.mm_manager.proofs.Lemmas.Answered.{asks_both, asks_more, granted_asks}
use Rattle.mm_manager.proofs.Lemmas.Limits.{lock_never}
use Rattle.mm_manager.proofs.Lemmas.May.{asks, counted}
use Rattle.mm_manager.proofs.Lemmas.Numbers.{some_not_none}
use Rattle.mm_manager.proofs.Lemmas.Owners.{not_mine}
use Rattle.mm_manager.proofs.Lemmas.Requests.{free_granted}

pub passed : (r : Result (Unit {0}) Refusal) → false ≡ is_err r → r ≡ Ok tt
passed (Ok tt) is = refl
passed (Err e) is = absurd (cc)

pub not_passed : (r : Result (Unit {0}) Refusal) → true ≡ is_err r → r ≢ Ok tt
not_passed (Ok tt) is same = absurd (cc)
not_passed (Err e) is same = absurd (cc)

module _ (s u : TableState) (k : Key) (n : ℕ) (free : owner_of s n ≡ None) where
  pub granted_if_ok : (reply : Result Locked table.Refusal) (b : Bool) → b ≡ is_ok reply → may_count s ≡ Ok tt → Locks s k n reply u → OnTrue b ((may_ask_more s k ≡ Ok tt) × Locks s k n (Ok locked.Granted) u)
  granted_if_ok reply false is count locks = tt
  granted_if_ok (Err refusal) true is count locks = absurd (cc)
  granted_if_ok (Ok answer) true is count locks =
      let granted = free_granted s u k n answer free locks in
      (asks_both s k (granted_asks s u k n granted) count, granted)

  pub refused_if_err : (reply : Result Locked table.Refusal) (b : Bool) → b ≡ is_ok reply → Laws s → HasReserve s → n < s.config.resources → Locks s k n reply u → OnFalse b ((may_ask_more s k ≢ Ok tt) × (u ≡ s))
  refused_if_err reply true is laws left within locks = tt
  refused_if_err (Ok answer) false is laws left within locks = absurd (cc)
  refused_if_err (Err refusal) false is laws left within locks = (
    λ more.
        let both = asks_more s k more in
        let active = asks s k both.0 in
        lock_never s k laws left active.live active.idle (counted s both.1) n within (not_mine s k n laws active.live (λ mine. some_not_none (owner_of s n) k mine free))
        (λ h held. absurd (some_not_none (owner_of s n) h held free)) u refusal locks,
    locks.0,
  )
