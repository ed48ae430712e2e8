-- After a withdrawal the table is at rest again, and what it tells is true of the whole call.
use Rattle.std.proofs.Common.{◌≡◌, ◌≢◌, ◌<◌, ◌↔◌, ℕ, Bool, true, false, if◌then◌else◌, List, Option, Some, None, is_some, slice_index_or, Result, Ok, Err, IsErr, IsErrAnd, MatchBool, inl, inr, refl, sym, ap, subst, ◌∙◌, arith}
use Rattle.std.specs.Option.{option_map_or}
use Rattle.std.proofs.lemmas.Bool.{cases_Bool, cases_eq}
use Rattle.mm_arena.specs.declared.key.Key.{Key}
use Rattle.mm_rules.specs.declared.refusal.Refusal.{Refusal}
use Rattle.mm_rules.specs.declared.refusal.Refusal.TheVariants.{CountsExhausted, Carried}
use Rattle.mm_rules.specs.TableState.{TableState, is_waiting, holder_of, wait_of, has_verdict}
use Rattle.mm_rules.specs.Change.{block, activate}
use Rattle.mm_rules.specs.Event.{Settle}
use Rattle.mm_rules.specs.Laws.{Laws, AtRest}
use Rattle.mm_rules.specs.Withdraw.{IsBehindVictim, Withdraws, shown_process, shows_waiting, withdraw, withdraw_tests, withdrawn}
use Rattle.mm_rules.proofs.States.Activate.{waits_else}
use Rattle.mm_rules.proofs.States.Counts.{event_counts}
use Rattle.mm_rules.proofs.States.Lookups.{holder_within}
use Rattle.mm_rules.proofs.States.Outcome.{KeepsLaws, outcome_keeps}
use Rattle.mm_rules.proofs.States.SettleKeeps.{SettleKeeps, settle_keeps}
use Rattle.mm_rules.proofs.States.Withdraw.{ShowsWaiting, shows_waiting_gives, withdraw_keeps}
use Rattle.mm_rules.proofs.States.WithdrawLaws.{Leaves, withdraw_leaves, withdraw_has_no_victim, withdraw_stays_at_rest, carried_is_behind_victim}
use Rattle.mm_settle_lemmas.specs.Touched.{is_changed, changed_processes}
use Rattle.mm_settle_lemmas.specs.Shown.{IdleShowTheSame}
use Rattle.mm_settle_lemmas.proofs.Lemmas.Told.{unchanged_is}
use Rattle.mm_settle_lemmas.proofs.Lemmas.Touched.{block_else}
use Rattle.mm_settled.specs.Calls.{has_room, NoneWaits, MadeWithdrawal, MakesWithdrawal}
use Rattle.mm_settled.specs.private.Lists.{ComesToRest}
use Rattle.mm_settled.proofs.Lemmas.Accepted.{refused}
use Rattle.mm_settled.proofs.Lemmas.Changed.{listed_changed}

-- who is refused as `Carried` is behind a victim
pub withdrawal_carried : (k : Key) (s t : TableState) (reply : Result (Unit {0}) Refusal) → Laws s → MakesWithdrawal k s reply t → reply ≡ Err Carried → IsBehindVictim s k.process
withdrawal_carried k s t (Ok done) laws makes is = (let never : Ok tt ≡ Err Carried = is in absurd (cc))
withdrawal_carried k s t (Err refusal) laws makes is =
    let carried : refusal ≡ Carried = cc in
    by (has_room s) carried makes.1
  where
    by : (b : Bool) → refusal ≡ Carried → MatchBool b (Withdraws k s (Err refusal) s) (refusal ≡ CountsExhausted) → IsBehindVictim s k.process
    by true carried step = carried_is_behind_victim k s s (subst (λ e. Withdraws k s (Err e) s) carried step) laws
    by false carried full = (let never : Carried ≡ CountsExhausted = sym carried ∙ full in absurd (cc))

-- whoever got a new label waits
idle_by : (s : TableState) (m n : ℕ) (b : Bool) (o : Option ℕ) → (b ≡ true → (n ≢ m) × (is_waiting s m ≡ true)) → IdleShowTheSame s (activate (if b then option_map_or (λ h. block s m h) o s else s) n)
idle_by s m n false o waits k idle = refl
idle_by s m n true None waits k idle = refl
idle_by s m n true (Some h) waits k idle = elim (cases_eq k m) [
  | inr apart ↦ (block_else s m h k apart).public
  | inl e ↦
      let its = waits refl in
      let none : wait_of s m ≡ None = sym (waits_else (block s m h) n m (λ same. its.0 (sym same))) ∙ ap (wait_of (activate (block s m h) n)) (sym e) ∙ idle in
      let never : true ≡ false = sym its.1 ∙ ap is_some none in
      absurd (cc)
]

idle_shows : (s : TableState) (k : Key) → Laws s → IdleShowTheSame s (withdrawn s k).state
idle_shows s k laws =
    let n = k.process in
    outcome_keeps (IdleShowTheSame s) (λ t m was. was) s tt (withdraw s n) (withdraw_tests s k) (λ m idle. refl)
    (λ passed. idle_by s (shown_process s n) n (shows_waiting s n) (holder_of s (shown_process s n)) (λ is. let shows : ShowsWaiting s n laws (shown_process s n) = shows_waiting_gives s n laws is in (shows.apart, shows.waiting)))

-- a refused one changes nothing
pub withdraw_refused : (k : Key) (s t : TableState) (refusal : Refusal) → Withdraws k s (Err refusal) t → t ≡ s
withdraw_refused k s t refusal step = refused (withdraw_tests s k) s tt (withdraw s k.process) refusal t step

pub refuses_withdrawal : (k : Key) (s t : TableState) (refusal : Refusal) → has_room s ≡ true → Withdraws k s (Err refusal) t → t ≡ s → MakesWithdrawal k s (Err refusal) t
refuses_withdrawal k s t refusal room step same = (
  same,
  subst (λ b. MatchBool b (Withdraws k s (Err refusal) s) (refusal ≡ CountsExhausted)) (sym room) (subst (λ u. Withdraws k s (Err refusal) u) same step),
)

-- a reply that is this refusal
pub withdrawal_as : (k : Key) (s t : TableState) (reply : Result (Unit {0}) Refusal) (refusal : Refusal) → IsErr reply × IsErrAnd reply (λ x. x ≡ refusal) → MakesWithdrawal k s (Err refusal) t
    → MakesWithdrawal k s reply t
withdrawal_as k s t (Ok answer) refusal is refuses = absurd is.1
withdrawal_as k s t (Err x) refusal is refuses = rw is.1 refuses

module _ (k : Key) (old mid new : TableState) (laws : Laws old) (rest : AtRest old) (event : Withdraws k old (Ok tt) mid) where
  after : KeepsLaws old mid
  after = (withdraw_keeps k old mid (Ok tt) event laws rest).laws

  leaves : Leaves old mid
  leaves = withdraw_leaves k old mid (Ok tt) event

  idle : IdleShowTheSame old mid
  idle = let P : TableState → Type 0 = IdleShowTheSame old in subst P (sym event.1) (idle_shows old k laws)

  -- no settle is needed if none of those that it changed waits
  idle_rests : NoneWaits mid (changed_processes old mid) → AtRest mid
  idle_rests none = withdraw_stays_at_rest k old mid (Ok tt) event laws rest (λ n h waits.
      let within : h < mid.config.processes = (holder_within mid after.laws.lawful.well_formed n h waits).1 in
      elim (cases_Bool (is_changed old mid h)) [
        | inl changed ↦ idle h (none h (listed_changed old mid h (omega (arith, within, ap (λ c. c.processes) leaves.config)) changed))
        | inr still ↦ (unchanged_is old mid h still).public
      ])

  module _ (woken : List ℕ) (tells : woken ≡ changed_processes old mid) (comes : ComesToRest mid woken new) where
    pub withdrawn_at_rest : AtRest new
    withdrawn_at_rest = elim comes [
      | inl quiet ↦ subst (λ (t : TableState). AtRest t) (sym quiet.1) (idle_rests (subst (NoneWaits mid) tells quiet.0))
      | inr settled ↦ (withdraw_has_no_victim k old mid new (Ok tt) settled.0 event settled.1 laws rest).rests.at_rest
    ]

    gives_none : (v : ℕ) → has_verdict new v ≡ has_verdict mid v
    gives_none v = elim comes [
      | inl quiet ↦ ap (λ t. has_verdict t v) quiet.1
      | inr settled ↦ (withdraw_has_no_victim k old mid new (Ok tt) settled.0 event settled.1 laws rest).verdicts v
    ]

    pub withdrawn_verdicts : (v : ℕ) → has_verdict new v ≡ has_verdict old v
    withdrawn_verdicts v = gives_none v ∙ ap (λ vs. slice_index_or vs v false) leaves.verdicts

    -- the settle leaves owners and the configuration
    kept : (new.config ≡ mid.config) × (new.owners ≡ mid.owners)
    kept = elim comes [
      | inl quiet ↦ (ap (λ (t : TableState). t.config) quiet.1, ap (λ (t : TableState). t.owners) quiet.1)
      | inr settled ↦ (let keeps : SettleKeeps mid new = settle_keeps mid new (Ok settled.0) settled.1 in (keeps.config, keeps.owners))
    ]

    pub withdrawn_config : new.config ≡ old.config
    withdrawn_config = kept.0 ∙ leaves.config

    -- a settle is counted, so the table is another one after it
    is_quiet : (new ≡ mid) ↔ NoneWaits mid (changed_processes old mid)
    is_quiet = elim comes [
      | inl quiet ↦ (λ same. subst (NoneWaits mid) tells quiet.0, λ none. quiet.1)
      | inr settled ↦ (
        λ same. absurd (omega (arith, ap (λ (t : TableState). t.totals.accepted) same, (event_counts Settle mid new (Ok settled.0) settled.1).0)),
        λ none. absurd (settled.2 (subst (NoneWaits mid) (sym tells) none)),
      )
    ]

    pub made_withdrawal : has_room old ≡ true → MadeWithdrawal k old new
    made_withdrawal room = record {
      room = room;
      mid = mid;
      event = event;
      rests = elim comes [ inl quiet ↦ inl quiet.1 | inr settled ↦ inr (settled.0, settled.1) ];
      quiet = is_quiet;
    }
