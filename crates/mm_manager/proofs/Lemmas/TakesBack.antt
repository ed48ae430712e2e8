-- A wait that is taken back.
use Rattle.std.proofs.Common.{◌≡◌, ◌≢◌, ℕ, true, false, Some, None, Bool, Option, Ok, if◌then◌else◌, refl, sym, ap, subst, ◌∙◌, ◌&&◌, nat_eq, slice_index, slice_index_or}
use Rattle.std.specs.Option.{option_map_or}
use Rattle.mm_arena.specs.declared.key.Key.{Key}
use Rattle.mm_names.specs.Names.{NameTable, name_of}
use Rattle.mm_rules.specs.TableState.{TableState, holder_of, is_live, owner_of, wait_of, waited_for}
use Rattle.mm_rules.specs.Change.{activate, block}
use Rattle.mm_rules.specs.Withdraw.{shown_process, shows_waiting, withdraw, withdraw_tests}
use Rattle.mm_rules.proofs.States.Activate.{waits_no_longer, waits_else}
use Rattle.mm_rules.proofs.States.SpentKeys.{SameKeys, same_keys_then}
use Rattle.mm_rules.proofs.States.WithdrawLaws.{Leaves, withdraw_leaves}
use Rattle.mm_settled.specs.Calls.{MadeWithdrawal}
use Rattle.mm_settled.proofs.Lemmas.Accepted.{IsAccepted, accepted}
use Rattle.mm_manager.specs.LockState.{LockState, untold}
use Rattle.mm_manager.specs.Calls.{TakesBack}
use Rattle.mm_manager.specs.private.Numbers.{AreNumbered}
use Rattle.mm_manager.proofs.Lemmas.May.{IsActive}
use Rattle.mm_manager.proofs.Lemmas.Numbers.{numbered_alike, some_not_none}
use Rattle.mm_manager.proofs.Lemmas.Owners.{RestsAlike, rests_alike}
use Rattle.mm_manager.proofs.Lemmas.Room.{rests_within}

-- the waits are those without that of n, and the keys are the same
record LeavesRest (s t : TableState) (n : ℕ) : Type 0 where
  waits : t.waits ≡ (activate s n).waits
  keys : SameKeys s t

leaves_rest : (s : TableState) (n m : ℕ) (b : Bool) (o : Option ℕ) → LeavesRest s (activate (if b then option_map_or (λ h. block s m h) o s else s) n) n
leaves_rest s n m false o = record { waits = refl; keys = record { generations = refl; live = refl; free = refl } }
leaves_rest s n m true None = record { waits = refl; keys = record { generations = refl; live = refl; free = refl } }
leaves_rest s n m true (Some h) = record { waits = refl; keys = record { generations = refl; live = refl; free = refl } }

module _ (s u : TableState) (k : Key) (made : MadeWithdrawal k s u) where
  done : IsAccepted (Unit {0}) (withdraw_tests s k) tt (withdraw s k.process) tt made.mid
  done = accepted (withdraw_tests s k) s tt (withdraw s k.process) tt made.mid made.event

  leaves : Leaves s made.mid
  leaves = withdraw_leaves k s made.mid (Ok tt) made.event

  alike : RestsAlike made.mid u
  alike = rests_alike made.mid u made.rests

  left : LeavesRest s (withdraw s k.process) k.process
  left = leaves_rest s k.process (shown_process s k.process) (shows_waiting s k.process) (holder_of s (shown_process s k.process))

  keys : SameKeys s u
  keys = same_keys_then s made.mid u
      (subst (λ t. SameKeys s t) (sym done.state) record { generations = left.keys.generations; live = left.keys.live; free = left.keys.free })
      (rests_within made.mid u made.rests).keys

  waits : u.waits ≡ (activate s k.process).waits
  waits = alike.waits ∙ ap (λ (t : TableState). t.waits) done.state ∙ left.waits

  pub taken_back_config : u.config ≡ s.config
  taken_back_config = alike.config ∙ leaves.config

  pub taken_back_owners : u.owners ≡ s.owners
  taken_back_owners = alike.owners ∙ leaves.owners

  pub taken_back_numbered : (t : NameTable) → AreNumbered s t → AreNumbered u t
  taken_back_numbered t numbered = numbered_alike s t numbered u taken_back_owners taken_back_config

  pub taken_back_idle : wait_of u k.process ≡ None
  taken_back_idle = ap (λ ws. waited_for ws k.process) waits ∙ waits_no_longer s k.process

  pub taken_back_else : (m : ℕ) → m ≢ k.process → wait_of u m ≡ wait_of s m
  taken_back_else m apart = ap (λ ws. waited_for ws m) waits ∙ waits_else s k.process m apart

  pub taken_back_active : is_live s k ≡ true → IsActive u k
  taken_back_active live = record {
    live = (λ i. slice_index_or (keys.live i) k.process false && nat_eq (slice_index (keys.generations i) k.process) k.generation) ∙ live;
    idle = taken_back_idle;
  }

-- ---- by names

pub takes_back : (old new : LockState) (k : Key) → MadeWithdrawal k old.table new.table → new ≡ record (untold old) { table = new.table; totals = new.totals } → TakesBack old k new
takes_back old new k made state = record {
  made = made;
  idle = λ name waits. some_not_none (wait_of new.table k.process) waits.0 waits.2 (taken_back_idle old.table new.table k made);
  owners = λ h name. (
    λ owns. (owns.0, sym (named owns.0) ∙ owns.1, sym (owner owns.0) ∙ owns.2),
    λ owns. (owns.0, named owns.0 ∙ owns.1, owner owns.0 ∙ owns.2),
  );
  others = λ h name apart. (
    λ waits. (waits.0, sym (named waits.0) ∙ waits.1, sym (taken_back_else old.table new.table k made h.process apart) ∙ waits.2),
    λ waits. (waits.0, named waits.0 ∙ waits.1, taken_back_else old.table new.table k made h.process apart ∙ waits.2),
  );
  state = state;
}
  where
    named : (q : ℕ) → name_of new.names q ≡ name_of old.names q
    named q = ap (λ (m : LockState). name_of m.names q) state

    owner : (q : ℕ) → owner_of new.table q ≡ owner_of old.table q
    owner q = ap (λ os. slice_index_or os q None) (taken_back_owners old.table new.table k made)
