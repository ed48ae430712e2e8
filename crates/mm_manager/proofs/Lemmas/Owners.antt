-- What a release and the end of a transaction leave of owners and of the configuration.
use Rattle.std.proofs.Common.{◌≡◌, ℕ, false, Some, None, Ok, IsTrue, inl, inr, ap, ◌∙◌, slice_index_or}
use Rattle.std.proofs.lemmas.Bool.{cases_Bool, ne_eqb, not-false}
use Rattle.mm_arena.specs.declared.key.Key.{Key}
use Rattle.mm_rules.specs.declared.reply.Released.{Released}
use Rattle.mm_rules.specs.TableState.{TableState, is_live, owner_of, owns}
use Rattle.mm_rules.specs.Change.{vacate}
use Rattle.mm_rules.specs.Event.{Release, Finish, Step, finish_tests}
use Rattle.mm_rules.specs.Laws.{Laws}
use Rattle.mm_rules.proofs.States.SettleKeeps.{settle_keeps}
use Rattle.mm_settled.specs.Calls.{Made, Rests}
use Rattle.mm_settled.proofs.Lemmas.Accepted.{accepted}
use Rattle.mm_settled.proofs.Lemmas.Ends.{release_hands_on, finish_hands_on}
use Rattle.mm_manager.proofs.Lemmas.Requests.{owner_is_key}

-- nothing or a settle follows: owners, waits and configuration stay
pub record RestsAlike (mid new : TableState) : Type 0 where
  pub owners : new.owners ≡ mid.owners
  pub waits : new.waits ≡ mid.waits
  pub config : new.config ≡ mid.config

pub rests_alike : (mid new : TableState) → Rests mid new → RestsAlike mid new
rests_alike mid new (inl same) = record { owners = ap (λ (t : TableState). t.owners) same; waits = ap (λ (t : TableState). t.waits) same; config = ap (λ (t : TableState). t.config) same }
rests_alike mid new (inr settle) = (let keeps = settle_keeps mid new (Ok settle.0) settle.1 in record { owners = keeps.owners; waits = keeps.waits; config = keeps.config })

-- the configuration stays, and so do the owners of what is not handed over
pub record LeavesOwners (s : TableState) (IsHanded : ℕ → Type 0) (new : TableState) : Type 0 where
  pub config : new.config ≡ s.config
  pub others : (q : ℕ) → ¬ IsHanded q → owner_of new q ≡ owner_of s q

pub release_leaves : (s new : TableState) (k : Key) (r : ℕ) (answer : Released) → Laws s → Made (Release k r) s answer new → LeavesOwners s (λ q. q ≡ r) new
release_leaves s new k r answer laws made =
    let on = release_hands_on s made.mid k r answer laws made.event in
    let alike = rests_alike made.mid new made.rests in
    record {
      config = alike.config ∙ on.config;
      others = λ q apart. ap (λ os. slice_index_or os q None) alike.owners ∙ on.others q (ne_eqb q r apart);
    }

-- what a live key does not own, its process does not own
pub not_mine : (s : TableState) (k : Key) (q : ℕ) → Laws s → IsTrue (is_live s k) → ¬ (owner_of s q ≡ Some k) → owns s k.process q ≡ false
not_mine s k q laws live other = elim (cases_Bool (owns s k.process q)) [
  | inl mine ↦ absurd (other (owner_is_key s k q laws live mine))
  | inr apart ↦ apart
]

-- who finishes was live
pub finish_was_live : (s mid : TableState) (k : Key) → Step (Finish k) s (Ok tt) mid → IsTrue (is_live s k)
finish_was_live s mid k step = not-false (is_live s k) (accepted (finish_tests s k) s tt (vacate s k.process) tt mid step).passed.1.0

pub finish_leaves : (s new : TableState) (k : Key) → Laws s → Made (Finish k) s tt new → LeavesOwners s (λ q. owner_of s q ≡ Some k) new
finish_leaves s new k laws made =
    let on = finish_hands_on s made.mid k laws made.event in
    let alike = rests_alike made.mid new made.rests in
    record {
      config = alike.config ∙ on.config;
      others = λ q other. ap (λ os. slice_index_or os q None) alike.owners ∙ on.others q (not_mine s k q laws (finish_was_live s made.mid k made.event) other);
    }
