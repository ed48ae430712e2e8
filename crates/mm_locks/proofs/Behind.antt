-- What a call owes between taking the lock and giving it back.
use Rattle.std.proofs.Common.{◌≡◌, ℕ, List, [], ◌∷◌, Option, Some, None, Result, refl, sym, subst}
use Rattle.atomic_table.specs.Table.{Me, rest}
use Rattle.mm_desk.specs.Desk.{DeskState}
use Rattle.mm_tied.specs.declared.views.View.{View}
use Rattle.mm_tied.specs.History.{Extends}
use Rattle.mm_tied.specs.Rule.{Found}
use Rattle.mm_tied.specs.Rule as rule
use Rattle.mm_tied.proofs.Calls as calls
use Rattle.mm_locks.specs.declared.error.LockError.{LockError}
use Rattle.mm_locks.specs.Calls.{UnlocksFor}
use Rattle.mm_locks.specs.History.{Makes}
use Rattle.mm_locks.specs.Told.{unlocked}
use Rattle.mm_locks.specs.declared.hall.Hall.{Hall}
use Rattle.mm_locks.specs.declared.history.Event.{Event}
use Rattle.mm_locks.specs.declared.history.Event.TheVariants as event

-- what the history speaks of
abbrev pub desk_of : Hall → DeskState
desk_of hall = hall.desk

module _ (v : View DeskState Event) (now : Me Hall (View DeskState Event)) (found : Found desk_of v now) where
  -- a pass that took the lock has the hall in its hand
  pub in_hand : (hall : Hall) × (now.1 ≡ (0, hall) ∷ rest now.1)
  in_hand = calls.in_hand desk_of v now found

  -- after one event
  pub one_event : (old new : Hall) (e : Event) → now.1 ≡ (0, old) ∷ rest now.1 → Makes old.desk e new.desk → rule.Makes desk_of Makes (e ∷ []) (now.0, (0, new) ∷ rest now.1)
  one_event old new e hand told = calls.made desk_of Makes v now old new (e ∷ []) found hand (new.desk, told, refl)

  -- after none
  pub no_event : (old new : Hall) → now.1 ≡ (0, old) ∷ rest now.1 → new.desk ≡ old.desk → rule.Makes desk_of Makes [] (now.0, (0, new) ∷ rest now.1)
  no_event old new hand same = calls.made desk_of Makes v now old new [] found hand (sym same)

  -- after a name was given back, by the desk or by the worker alone
  pub unlock_event : (old new : Hall) (at : ℕ) (name : List ℕ) (answer : Option (Result (Unit {0}) LockError)) → now.1 ≡ (0, old) ∷ rest now.1 → UnlocksFor old.desk at name answer new.desk
      → rule.Makes desk_of Makes (unlocked at name answer) (now.0, (0, new) ∷ rest now.1)
  unlock_event old new at name (Some answer) hand told = one_event old new (event.Unlocked at name answer) hand told
  unlock_event old new at name None hand same = no_event old new hand same

  -- what is told since the lock was taken is told since the call began
  pub since : (first : DeskState) (before id : ℕ) (es : List Event) (w : View DeskState Event) → id ≡ before → Extends Makes first id now.0 es w → Extends Makes first before v es w
  since first before id es w same told =
      let x = subst (λ (p : ℕ × View DeskState Event). Extends Makes first p.0 p.1 es w) (λ i. (same i, (found.2 i).0)) told in
      record { between = x.between; seen = x.seen; mine = x.mine; sound = x.sound }
