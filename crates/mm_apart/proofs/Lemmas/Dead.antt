-- Who is live no longer stays so while others are aborted, and an abort ends its own transaction.
use Rattle.std.proofs.Common.{◌≡◌, ◌≢◌, ◌⊎◌, false, Result, Ok, Err, inl, inr, sym, ap, subst, ◌∙◌}
use Rattle.std.proofs.lemmas.Bool.{cases_eq}
use Rattle.mm_arena.specs.declared.key.Key.{Key}
use Rattle.mm_rules.specs.TableState.{TableState, is_live}
use Rattle.mm_rules.specs.Event.{Finish}
use Rattle.mm_rules.specs.Laws.{Laws}
use Rattle.mm_settled.specs.Calls.{Made}
use Rattle.mm_manager.specs.Calls.{Aborts, Commits}
use Rattle.mm_manager.specs.LockState.{LockState, IsLawful, untold}
use Rattle.mm_manager.specs.declared.refusal.Refusal.{Refusal}
use Rattle.mm_apart.proofs.Lemmas.Slots.{SameSlot, same_live}
use Rattle.mm_apart.proofs.Lemmas.Events.{IsGone, gone_dead, finished_gone, finished_same, withdrawal_live, rests_dead}
use Rattle.mm_apart.proofs.Lemmas.Requests.{withdrawal_laws}

-- where the slot of k is freed and all others stay, who was dead stays so
dead_by : (s u : TableState) (k t : Key) → IsGone u k.process → (t.process ≢ k.process → SameSlot t.process s u) → is_live s t ≡ false → is_live u t ≡ false
dead_by s u k t gone others dead = elim (cases_eq t.process k.process) [
  | inl here ↦ gone_dead u t (subst (λ p. IsGone u p) (sym here) gone)
  | inr apart ↦ same_live s u t (others apart) ∙ dead
]

finish_dead : (s u : TableState) (k t : Key) → Laws s → Made (Finish k) s tt u → is_live s t ≡ false → is_live u t ≡ false
finish_dead s u k t laws made dead = rests_dead made.mid u t made.rests (dead_by s made.mid k t (finished_gone s made.mid k made.event) (λ apart. finished_same t.process s made.mid k laws made.event apart) dead)

finish_own : (s u : TableState) (k : Key) → Made (Finish k) s tt u → is_live u k ≡ false
finish_own s u k made = rests_dead made.mid u k made.rests (gone_dead made.mid k (finished_gone s made.mid k made.event))

-- after a commit its transaction is not live, unless it was refused
pub commit_own : (old new : LockState) (k : Key) (answer : Result (Unit {0}) Refusal) → Commits old k answer new → (is_live new.table k ≡ false) ⊎ (new ≡ untold old)
commit_own old new k (Ok done) did = inl (finish_own old.table new.table k did.over.made)
commit_own old new k (Err refusal) did = inr did.0

module _ (old new : LockState) (k : Key) (lawful : IsLawful old) where
  same_table : (t : Key) → new.table ≡ old.table → is_live new.table t ≡ is_live old.table t
  same_table t same = ap (λ x. is_live x t) same

  -- who is live no longer stays so
  pub abort_keeps_dead : (t : Key) (answer : Result (Unit {0}) Refusal) → Aborts old k answer new → is_live old.table t ≡ false → is_live new.table t ≡ false
  abort_keeps_dead t (Ok done) (inl did) dead = finish_dead old.table new.table k t lawful.laws did.over.made dead
  abort_keeps_dead t (Ok done) (inr (mid, back, did)) dead =
      finish_dead mid.table new.table k t (withdrawal_laws old mid k lawful back.made) did.over.made (withdrawal_live old.table mid.table k t back.made ∙ dead)
  abort_keeps_dead t (Err refusal) did dead = same_table t (ap (λ (m : LockState). m.table) did.0) ∙ dead

  -- its own transaction is live no longer
  pub abort_own : (answer : Result (Unit {0}) Refusal) → Aborts old k answer new → is_live new.table k ≡ false
  abort_own (Ok done) (inl did) = finish_own old.table new.table k did.over.made
  abort_own (Ok done) (inr (mid, back, did)) = finish_own mid.table new.table k did.over.made
  abort_own (Err refusal) did = same_table k (ap (λ (m : LockState). m.table) did.0) ∙ did.1
