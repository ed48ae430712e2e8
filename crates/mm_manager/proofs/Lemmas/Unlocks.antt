-- What a release by the table tells: it is accepted exactly where the transaction is active and owns the number.
use Rattle.std.proofs.Common.{◌≡◌, ◌<◌, ℕ, List, [], ◌∷◌, true, Option, Some, None, Ok, is_some, if◌then◌else◌, length, slice_index_or, arith, refl, sym, ap, ◌∙◌}
use Rattle.std.proofs.lemmas.Bool.{not-false}
use Rattle.mm_arena.specs.declared.key.Key.{Key}
use Rattle.mm_rules.specs.declared.refusal.Refusal.{Refusal}
use Rattle.mm_rules.specs.declared.reply.Released.{Released}
use Rattle.mm_rules.specs.declared.reply.Released.TheVariants.{Free, To}
use Rattle.mm_rules.specs.TableState.{TableState, Wait, is_live, owner_of, owns, wait_of, waiters_of}
use Rattle.mm_rules.specs.Change.{hand_over}
use Rattle.mm_rules.specs.Event.{Release, release_tests, release_answer}
use Rattle.mm_rules.specs.Laws.{Laws}
use Rattle.mm_rules.proofs.States.Lookups.{none_of_is_some}
use Rattle.mm_settled.specs.Calls.{Made, Refuses}
use Rattle.mm_settled.specs.Grants.{grants}
use Rattle.mm_settled.proofs.Lemmas.Accepted.{accepted}
use Rattle.mm_settled.proofs.Lemmas.Ends.{owner_in_range}
use Rattle.mm_settled.proofs.Lemmas.Grants.{grants_alike}
use Rattle.mm_settled.proofs.Lemmas.HandsOn.{next_owner, hand_over_owner}
use Rattle.mm_settled.proofs.Lemmas.Released.{free_grants}
use Rattle.mm_manager.specs.Permit.{may_ask}
use Rattle.mm_names.specs.Names.{NameTable, with_name}
use Rattle.mm_manager.specs.private.Numbers.{forgotten, left_by}
use Rattle.mm_manager.specs.private.Room.{HasReserve}
use Rattle.mm_manager.proofs.Lemmas.Limits.{release_never}
use Rattle.mm_manager.proofs.Lemmas.May.{asks}
use Rattle.mm_manager.proofs.Lemmas.Owners.{rests_alike}
use Rattle.mm_manager.proofs.Lemmas.Requests.{owner_is_key}

-- an active transaction owned r
pub record WasOwned (s : TableState) (k : Key) (r : ℕ) : Type 0 where
  pub owned : owner_of s r ≡ Some k
  pub idle : wait_of s k.process ≡ None

pub was_owned : (s u : TableState) (k : Key) (r : ℕ) (answer : Released) → Laws s → Made (Release k r) s answer u → WasOwned s k r
was_owned s u k r answer laws made =
    let passed = (accepted (release_tests s k r) s (release_answer (waiters_of s r)) (hand_over s r) answer made.mid made.event).passed in
    let live : is_live s k ≡ true = not-false (is_live s k) passed.1.0 in
    let mine : owns s k.process r ≡ true = not-false (owns s k.process r) passed.1.1.1.1.0 in
    record { owned = owner_is_key s k r laws live mine; idle = none_of_is_some (wait_of s k.process) passed.1.1.1.0 }

-- who owns a number after its release, by what the release answers
abbrev pub told_owner : Released → Option Key
told_owner Free = None
told_owner (To k) = Some k

next_is_told : (ws : List Wait) → next_owner ws ≡ told_owner (release_answer ws)
next_is_told [] = refl
next_is_told (w ∷ ws) = refl

pub released_owner : (s u : TableState) (k : Key) (r : ℕ) (answer : Released) → Laws s → Made (Release k r) s answer u → owner_of u r ≡ told_owner answer
released_owner s u k r answer laws made =
    let done = accepted (release_tests s k r) s (release_answer (waiters_of s r)) (hand_over s r) answer made.mid made.event in
    let range = owner_in_range s laws r k (was_owned s u k r answer laws made).owned in
    let within : r < length s.owners = omega (arith, range, laws.lawful.well_formed.sizes.owners) in
    ap (λ os. slice_index_or os r None) (rests_alike made.mid u made.rests).owners
    ∙ ap (λ (t : TableState). owner_of t r) done.state
    ∙ hand_over_owner s r within
    ∙ next_is_told (waiters_of s r)
    ∙ ap told_owner done.answer

-- so the names that a release leaves are those without that of an unowned number
module _ (u : TableState) (t : NameTable) (n : ℕ) where
  forgets : (answer : Released) → owner_of u n ≡ told_owner answer → left_by answer t n ≡ forgotten u t n
  forgets Free is = sym (ap (λ o. if is_some o then t else with_name t n None) is)
  forgets (To k) is = sym (ap (λ o. if is_some o then t else with_name t n None) is)

pub released_forgets : (s u : TableState) (t named : NameTable) (k : Key) (n : ℕ) (answer : Released) → Laws s → Made (Release k n) s answer u → named ≡ left_by answer t n → named ≡ forgotten u t n
released_forgets s u t named k n answer laws made is = is ∙ forgets u t n answer (released_owner s u k n answer laws made)

-- a refusal tells that it does not own r, if it may ask
pub not_owned : (s u : TableState) (k : Key) (r : ℕ) (e : Refusal) → Laws s → HasReserve s → Refuses (Release k r) s e u → may_ask s k ≡ Ok tt → owner_of s r ≡ Some k → ⊥
not_owned s u k r e laws room refuses may owned =
    let active = asks s k may in
    release_never s k laws room active.live active.idle r owned u e refuses

-- a release after which nobody owns the number grants nothing
pub free_grants_none : (s u : TableState) (k : Key) (r : ℕ) → Laws s → Made (Release k r) s Free u → grants s u ≡ []
free_grants_none s u k r laws made = grants_alike s made.mid u (rests_alike made.mid u made.rests).owners ∙ free_grants s made.mid k r laws made.event
