-- A refused call changes nothing, and tells of nobody.
use Rattle.std.proofs.Common.{◌≡◌, ℕ, List, [], true, Some, None, Err, MatchBool, drop, slice_set, slice_index, sym, ap, subst, ◌∙◌}
use Rattle.mm_arena.specs.declared.key.Key.{Key}
use Rattle.mm_rules.specs.declared.refusal.Refusal.{Refusal}
use Rattle.mm_rules.specs.declared.refusal.Refusal.TheVariants.{CountsExhausted}
use Rattle.mm_rules.specs.TableState.{TableState, key_of, owner_of, wait_of, waiters_of}
use Rattle.mm_rules.specs.Change.{hand_over, vacate}
use Rattle.mm_rules.specs.Event.{Event, Begin, Acquire, Release, Finish, Step, begin_tests, acquire_tests, acquire_answer, acquire_change, release_tests, release_answer, finish_tests}
use Rattle.mm_rules.specs.Laws.{Laws}
use Rattle.mm_settled.specs.declared.reply.Grant.{Grant}
use Rattle.mm_settled.specs.Calls.{has_room, Refuses}
use Rattle.mm_settled.specs.Grants.{grants, EndsWaits}
use Rattle.mm_settled.proofs.Lemmas.Accepted.{refused}
use Rattle.mm_settled.proofs.Lemmas.Quiet.{same_is_quiet}

pub begin_refused : (s t : TableState) (refusal : Refusal) → Step Begin s (Err refusal) t → t ≡ s
begin_refused s t refusal step =
    let n = slice_index s.free 0 in
    refused (begin_tests s) s (key_of s n) (record s { free = drop 1 s.free; live = slice_set s.live n true }) refusal t step

pub acquire_refused : (s t : TableState) (k : Key) (r : ℕ) (refusal : Refusal) → Step (Acquire k r) s (Err refusal) t → t ≡ s
acquire_refused s t k r refusal step = refused (acquire_tests s k r) s (acquire_answer s k (owner_of s r)) (acquire_change s k r (owner_of s r)) refusal t step

pub release_refused : (s t : TableState) (k : Key) (r : ℕ) (refusal : Refusal) → Step (Release k r) s (Err refusal) t → t ≡ s
release_refused s t k r refusal step = refused (release_tests s k r) s (release_answer (waiters_of s r)) (hand_over s r) refusal t step

pub finish_refused : (s t : TableState) (k : Key) (refusal : Refusal) → Step (Finish k) s (Err refusal) t → t ≡ s
finish_refused s t k refusal step = refused (finish_tests s k) s tt (vacate s k.process) refusal t step

-- the table refused it, since there was room to count it
pub refuses : (e : Event) (s t : TableState) (refusal : Refusal) → has_room s ≡ true → Step e s (Err refusal) t → t ≡ s → Refuses e s refusal t
refuses e s t refusal room step same = (
  same,
  subst (λ b. MatchBool b (Step e s (Err refusal) s) (refusal ≡ CountsExhausted)) (sym room) (subst (λ u. Step e s (Err refusal) u) same step),
)

-- no wait ended
pub ends_none : (s t : TableState) (n : ℕ) (granted : List Grant) → Laws s → t ≡ s → granted ≡ grants s t → EndsWaits s t n granted
ends_none s t n granted laws same is =
    let none : granted ≡ [] = is ∙ (same_is_quiet s t laws same).granted in
    subst (EndsWaits s t n) (sym none) record {
      each = λ g among. absurd among;
      all = λ m r apart waited ended. (let never : None ≡ Some r = sym ended ∙ ap (λ u. wait_of u m) same ∙ waited in absurd (cc));
    }
