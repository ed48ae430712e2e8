-- A request that waits, and the settle that follows: whoever closed a cycle of waits has its verdict, and nobody else has a new one.
use Rattle.std.proofs.Common.{◌≡◌, ◌<◌, ◌+◌, ◌^◌, ℕ, [], Option, Some, None, Result, Ok, Err, Bool, true, false, not, ◌&&◌, IsTrue, IsFalse, MatchBool, nat_eq, nat_lt, if◌then◌else◌, inl, inr, refl, sym, ap, ◌∙◌, arith}
use Rattle.std.specs.Prelude.{OnOk, ◌↔◌}
use Rattle.std.proofs.lemmas.Bool.{cases_Bool, and_parts, ltb-true, eqb-true, eqb-false, lt-ltb, leb-false}
use Rattle.std.proofs.Math.Decide.{ℕ_discrete}
use Rattle.mm_label.specs.Label.{Label}
use Rattle.mm_arena.specs.declared.key.Key.{Key}
use Rattle.mm_rules.specs.declared.refusal.Refusal.{Refusal}
use Rattle.mm_rules.specs.declared.refusal.Refusal.TheVariants.{NoResource}
use Rattle.mm_rules.specs.declared.reply.Acquired.{Acquired}
use Rattle.mm_rules.specs.declared.reply.Acquired.TheVariants as acquired
use Rattle.mm_rules.specs.declared.reply.Settled.{Settled}
use Rattle.mm_rules.specs.TableState.{TableState, owner_of, has_verdict}
use Rattle.mm_rules.specs.Event.{Acquire, Settle, Step, acquire_tests, acquire_answer, acquire_change}
use Rattle.mm_rules.specs.Laws.{Laws, AtRest}
use Rattle.mm_rules.specs.Change.{take_back}
use Rattle.mm_rules.specs.Victims.{IsOnCycle, OnlyCloserIsConvicted}
use Rattle.mm_rules.specs.TakeBack.{HasNoVictim, LeadsTo, WouldClose, IsRefused}
use Rattle.mm_rules.proofs.States.Config.{event_config}
use Rattle.mm_rules.proofs.States.TakeBack.{Queues, queues, closer_is_live, closes_where_led_back, closer_is_refused}
use Rattle.mm_rules.proofs.States.Counts.{event_counts}
use Rattle.mm_rules.proofs.States.EventsKeepLaws.{event_keeps}
use Rattle.mm_rules.proofs.States.Outcome.{KeepsLaws}
use Rattle.mm_rules.proofs.States.Settle.{settle_gives_rest}
use Rattle.mm_rules.proofs.States.SettleKeeps.{SettleKeeps, settle_keeps}
use Rattle.mm_rules.proofs.States.Victims.{closer_is_victim}
use Rattle.mm_settled.specs.declared.reply.Locked.{Locked}
use Rattle.mm_settled.specs.declared.reply.Locked.TheVariants.{Granted, Waits, Deadlock}
use Rattle.mm_settled.specs.Calls.{has_room, Locks, WaitsFrom, IsDeadlock}
use Rattle.mm_settled.specs.Grants.{grants}
use Rattle.mm_settled.specs.private.Told.{ToldBy, MayTakeBack, has_owner, is_owned}
use Rattle.mm_settled.proofs.Lemmas.Accepted.{IsAccepted, accepted}
use Rattle.mm_settled.proofs.Lemmas.Grants.{same_owners_grant_none}

free_before : (s : TableState) (k : Key) (r : ℕ) (o : Option Key) → owner_of s r ≡ o → acquire_answer s k o ≡ acquired.Granted → owner_of s r ≡ None
free_before s k r None owned answer = owned
free_before s k r (Some h) owned answer = absurd (cc)

-- what is granted nobody owned
granted_was_free : (s t : TableState) (k : Key) (r : ℕ) → Step (Acquire k r) s (Ok acquired.Granted) t → owner_of s r ≡ None
granted_was_free s t k r step =
    let change = acquire_change s k r (owner_of s r) in
    free_before s k r (owner_of s r) refl (accepted (acquire_tests s k r) s (acquire_answer s k (owner_of s r)) change acquired.Granted t step).answer

-- the answer tells whether the requester would close a cycle
pub deadlock_iff : (old new : TableState) (k : Key) (r : ℕ) (reply : Result Locked Refusal) → Locks old k r reply new → OnOk reply (IsTrue (IsDeadlock reply) ↔ WouldClose old k r)
deadlock_iff old new k r (Ok Granted) locks = (
  λ told. (let never : false ≡ true = told in absurd (cc)),
  λ would. (let never : None ≡ Some would.0 = sym (granted_was_free old new k r locks) ∙ would.1 in absurd (cc)),
)
deadlock_iff old new k r (Ok (Waits h)) locks = (
  λ told. (let never : false ≡ true = told in absurd (cc)),
  λ would.
      let same : Some would.0 ≡ Some h = sym would.1 ∙ locks.1 in
      let e : would.0 ≡ h = cc in
      absurd (locks.2 (rw e at would.2)),
)
deadlock_iff old new k r (Ok (Deadlock h)) locks = (λ told. (h, locks.owner, locks.closes), λ would. refl)
deadlock_iff old new k r (Err refusal) locks = tt

-- a request that is accepted is granted, where nobody owns the resource
free_by : (s : TableState) (k : Key) (r : ℕ) (answer : Acquired) (o : Option Key) → has_owner (Ok o) ≡ false → acquire_answer s k o ≡ answer → answer ≡ acquired.Granted
free_by s k r answer None free is = sym is
free_by s k r answer (Some h) free is = (let never : true ≡ false = free in absurd (cc))

pub free_is_granted : (s t : TableState) (k : Key) (r : ℕ) (answer : Acquired) → is_owned s r ≡ false → Step (Acquire k r) s (Ok answer) t → answer ≡ acquired.Granted
free_is_granted s t k r answer free step =
    let done : IsAccepted Acquired (acquire_tests s k r) (acquire_answer s k (owner_of s r)) (acquire_change s k r (owner_of s r)) answer t
    = accepted (acquire_tests s k r) s (acquire_answer s k (owner_of s r)) (acquire_change s k r (owner_of s r)) answer t step in
    let within : nat_lt r s.config.resources ≡ true = lt-ltb r s.config.resources (leb-false s.config.resources r done.passed.1.1.0) in
    free_by s k r answer (owner_of s r) (sym (ap (λ (b : Bool). has_owner (if b then Ok (owner_of s r) else Err NoResource)) within) ∙ free) done.answer

-- whoever waits asked for what somebody owns, so an event and a settle could be counted
pub waits_with_room : (s t : TableState) (k h : Key) (r : ℕ) (l : Label) → (not (has_room s) && is_owned s r) ≡ false → Step (Acquire k r) s (Ok (acquired.Waits h l)) t → has_room s ≡ true
waits_with_room s t k h r l room step = elim (cases_Bool (has_room s)) [
  | inl has ↦ has
  | inr full ↦ elim (cases_Bool (is_owned s r)) [
    | inl owned ↦
        let lacks : (not (has_room s) && is_owned s r) ≡ true = ap (λ b. not b && is_owned s r) full ∙ owned in
        let never : true ≡ false = sym lacks ∙ room in
        absurd (cc)
    | inr free ↦
        let granted : acquired.Waits h l ≡ acquired.Granted = free_is_granted s t k r (acquired.Waits h l) free step in
        absurd (cc)
  ]
]

-- where one of two tests is that there is no room, there is none
pub lacks_room_both : (room owned : Bool) → (not room && owned) ≡ true → room ≡ false
lacks_room_both true owned lacks = absurd (cc)
lacks_room_both false owned lacks = refl

-- what is so after a request that waits, and was told this
pub record IsTold (old : TableState) (k : Key) (r : ℕ) (told : Locked) (t : TableState) : Type 0 where
  pub locks : Locks old k r (Ok told) t
  pub none : HasNoVictim t
  pub rest : AtRest t
  pub grants : grants old t ≡ []
  pub counts : old.totals.accepted < t.totals.accepted
  pub config : t.config ≡ old.config

module _ (old mid new : TableState) (k h : Key) (r : ℕ) (l : Label) (answer : Settled) (laws : Laws old) (rest : AtRest old)
    (asks : Step (Acquire k r) old (Ok (acquired.Waits h l)) mid) (settles : Step Settle mid (Ok answer) new) where
  after : KeepsLaws old mid
  after = event_keeps (Acquire k r) old mid (Ok (acquired.Waits h l)) asks laws

  only : OnlyCloserIsConvicted old mid new k.process answer
  only = closer_is_victim old mid new k h r l answer asks settles laws rest

  keeps : SettleKeeps mid new
  keeps = settle_keeps mid new (Ok answer) settles

  laws_mid : Laws mid
  laws_mid = after.laws

  queued : Queues old k h r mid
  queued = queues old mid k h r l asks

  on_cycle : IsOnCycle mid k.process ↔ LeadsTo old h.process k.process
  on_cycle = closes_where_led_back old mid k h r l asks laws

  module _ (some : IsFalse (nat_eq answer.verdicts 0)) where
    closed : IsOnCycle mid k.process
    closed = elim only.verdicts [ inl convicted ↦ convicted.0 | inr free ↦ absurd (eqb-false answer.verdicts 0 some free.1) ]

    pub may_take_back : has_room old ≡ true → MayTakeBack new k
    may_take_back room =
        let few : old.totals.verdicts < 2 ^ 62 = ltb-true old.totals.verdicts (2 ^ 62) (and_parts (nat_lt (old.totals.accepted + 1) (2 ^ 62)) (nat_lt old.totals.verdicts (2 ^ 62)) room).1 in
        let one : answer.verdicts ≡ 1 = elim only.verdicts [ inl convicted ↦ convicted.1 | inr free ↦ absurd (eqb-false answer.verdicts 0 some free.1) ] in
        record {
          live = closer_is_live old mid new k h r l answer asks settles;
          verdict = only.closer.1 closed;
          count = omega (arith, few, one, (event_counts (Acquire k r) old mid (Ok (acquired.Waits h l)) asks).1, (event_counts Settle mid new (Ok answer) settles).1);
        }

  new_rests : AtRest new
  new_rests = (settle_gives_rest mid new answer settles laws_mid).at_rest

  new_counts : old.totals.accepted < new.totals.accepted
  new_counts = omega (arith, (event_counts (Acquire k r) old mid (Ok (acquired.Waits h l)) asks).0, (event_counts Settle mid new (Ok answer) settles).0)

  module _ (none : HasNoVictim old) (room : has_room old ≡ true) where
    from : WaitsFrom old k r h new
    from = record { room = room; label = l; mid = mid; answer = answer; event = asks; settle = settles }

    waits : nat_eq answer.verdicts 0 ≡ true → IsTold old k r (Waits h) new
    waits is =
        let free : IsOnCycle mid k.process → ⊥ = elim only.verdicts [ inl convicted ↦ absurd (omega (arith, convicted.1, eqb-true answer.verdicts 0 is)) | inr free ↦ free.0 ] in
        record {
          locks = (from, queued.owner, λ led. free (on_cycle.1 led));
          none = λ v. elim (ℕ_discrete v k.process) [
            | yes e ↦ elim (cases_Bool (has_verdict new k.process)) [ inl verdict ↦ absurd (free (only.closer.0 verdict)) | inr unconvicted ↦ rw e unconvicted ]
            | no apart ↦ only.others v apart ∙ none v
          ];
          rest = new_rests;
          grants = same_owners_grant_none old new laws (keeps.owners ∙ queued.owners);
          counts = new_counts;
          config = event_config Settle mid new (Ok answer) settles ∙ event_config (Acquire k r) old mid (Ok (acquired.Waits h l)) asks;
        }

    declined : nat_eq answer.verdicts 0 ≡ false → IsTold old k r (Deadlock h) (take_back new k.process)
    declined is =
        let refused : IsRefused old (take_back new k.process) = closer_is_refused old mid new k h r l answer asks settles laws rest none (may_take_back is room).verdict in
        record {
          locks = record { owner = queued.owner; closes = on_cycle.0 (closed is); settled = new; waited = from; verdict = (may_take_back is room).verdict; back = refl; same = refused.same };
          none = refused.none;
          rest = refused.rest;
          grants = same_owners_grant_none old (take_back new k.process) laws refused.same.owners;
          counts = new_counts;
          config = refused.same.config;
        }

    told_by : (told : Locked) (t : TableState) (b : Bool) → nat_eq answer.verdicts 0 ≡ b
        → MatchBool b ((told ≡ Waits h) × (t ≡ new)) ((told ≡ Deadlock h) × (t ≡ take_back new k.process)) → IsTold old k r told t
    told_by told t true is so = rw (so.0, so.1) (waits is)
    told_by told t false is so = rw (so.0, so.1) (declined is)

    pub is_told : (told : Locked) (t : TableState) → ToldBy new answer k h told t → IsTold old k r told t
    is_told told t so = told_by told t (nat_eq answer.verdicts 0) refl so
