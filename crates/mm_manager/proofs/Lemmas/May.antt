-- What is known of a transaction that may make a call.
use Rattle.std.proofs.Common.{◌≡◌, ◌<◌, ℕ, Bool, true, false, Option, Some, None, Ok, Err, if◌then◌else◌, inl, inr, refl, sym, ap, ◌∙◌}
use Rattle.std.proofs.lemmas.Bool.{cases_lt, le-ltb}
use Rattle.mm_arena.specs.declared.key.Key.{Key}
use Rattle.mm_rules.specs.declared.reply.Mode.TheVariants as mode
use Rattle.mm_rules.specs.declared.reply.State.{State}
use Rattle.mm_rules.specs.declared.refusal.Refusal.TheVariants.{Stale}
use Rattle.mm_rules.specs.TableState.{TableState, is_live, has_verdict, wait_of, private_of, public_of}
use Rattle.mm_rules.specs.Event.{mode_of, state_of}
use Rattle.mm_manager.specs.Permit.{event_limit, may_ask, may_ask_in, may_cancel, may_cancel_in, may_count, may_own}
use Rattle.mm_manager.specs.declared.refusal.Refusal.TheVariants.{NoTransaction, Waiting, NotWaiting, CountsFull}

-- a live transaction that waits for nothing
pub record IsActive (s : TableState) (k : Key) : Type 0 where
  pub live : is_live s k ≡ true
  pub idle : wait_of s k.process ≡ None

-- a live transaction that waits
pub record IsWaiting (s : TableState) (k : Key) : Type 0 where
  pub live : is_live s k ≡ true
  pub number : ℕ
  pub waits : wait_of s k.process ≡ Some number

-- ---- by what the calls test

asks_in : (o : Option ℕ) → may_ask_in o ≡ Ok tt → o ≡ None
asks_in None may = refl
asks_in (Some n) may = (let never : Err Waiting ≡ Ok tt = may in absurd (cc))

asks_by : (s : TableState) (k : Key) (b : Bool) → is_live s k ≡ b → (if b then may_ask_in (wait_of s k.process) else Err NoTransaction) ≡ Ok tt → IsActive s k
asks_by s k true live may = record { live = live; idle = asks_in (wait_of s k.process) may }
asks_by s k false dead may = (let never : Err NoTransaction ≡ Ok tt = may in absurd (cc))

pub asks : (s : TableState) (k : Key) → may_ask s k ≡ Ok tt → IsActive s k
asks s k may = asks_by s k (is_live s k) refl may

-- and so an active one may ask
pub may_ask_of : (s : TableState) (k : Key) → is_live s k ≡ true → wait_of s k.process ≡ None → may_ask s k ≡ Ok tt
may_ask_of s k live idle = ap (λ b. if b then may_ask_in (wait_of s k.process) else Err NoTransaction) live ∙ ap may_ask_in idle

cancels_in : (s : TableState) (k : Key) (o : Option ℕ) → is_live s k ≡ true → wait_of s k.process ≡ o → may_cancel_in o ≡ Ok tt → IsWaiting s k
cancels_in s k None live waits may = (let never : Err NotWaiting ≡ Ok tt = may in absurd (cc))
cancels_in s k (Some n) live waits may = record { live = live; number = n; waits = waits }

cancels_by : (s : TableState) (k : Key) (b : Bool) → is_live s k ≡ b → (if b then may_cancel_in (wait_of s k.process) else Err NoTransaction) ≡ Ok tt → IsWaiting s k
cancels_by s k true live may = cancels_in s k (wait_of s k.process) live refl may
cancels_by s k false dead may = (let never : Err NoTransaction ≡ Ok tt = may in absurd (cc))

pub cancels : (s : TableState) (k : Key) → may_cancel s k ≡ Ok tt → IsWaiting s k
cancels s k may = cancels_by s k (is_live s k) refl may

-- ---- by the mode that the table tells

abbrev told : TableState → Key → State
told s k = record { mode = mode_of (wait_of s k.process) (has_verdict s k.process); private = private_of s k.process; public = public_of s k.process }

-- what is told of a live transaction
pub record IsTold (s : TableState) (k : Key) (state : State) : Type 0 where
  pub live : is_live s k ≡ true
  pub mode : mode_of (wait_of s k.process) (has_verdict s k.process) ≡ state.mode

told_by : (s : TableState) (k : Key) (state : State) (b : Bool) → is_live s k ≡ b → (if b then Ok (told s k) else Err Stale) ≡ Ok state → IsTold s k state
told_by s k state true live is = (let same : told s k ≡ state = cc in record { live = live; mode = ap (λ (t : State). t.mode) same })
told_by s k state false dead is = (let never : Err Stale ≡ Ok state = is in absurd (cc))

pub is_told : (s : TableState) (k : Key) (state : State) → state_of s k ≡ Ok state → IsTold s k state
is_told s k state is = told_by s k state (is_live s k) refl is

active_mode : (o : Option ℕ) (v : Bool) → mode_of o v ≡ mode.Active → o ≡ None
active_mode None v is = refl
active_mode (Some n) true is = (let never : mode.Convicted n ≡ mode.Active = is in absurd (cc))
active_mode (Some n) false is = (let never : mode.Waiting n ≡ mode.Active = is in absurd (cc))

pub told_active : (s : TableState) (k : Key) (state : State) → IsTold s k state → state.mode ≡ mode.Active → IsActive s k
told_active s k state is active = record { live = is.live; idle = active_mode (wait_of s k.process) (has_verdict s k.process) (is.mode ∙ active) }

-- what it waits for, by its mode
pub record Waits (s : TableState) (k : Key) (n : ℕ) : Type 0 where
  pub live : is_live s k ≡ true
  pub waits : wait_of s k.process ≡ Some n

waiting_mode : (n : ℕ) (o : Option ℕ) (v : Bool) → mode_of o v ≡ mode.Waiting n → o ≡ Some n
waiting_mode n None v is = (let never : mode.Active ≡ mode.Waiting n = is in absurd (cc))
waiting_mode n (Some m) true is = (let never : mode.Convicted m ≡ mode.Waiting n = is in absurd (cc))
waiting_mode n (Some m) false is = (let same : m ≡ n = cc in ap Some same)

pub told_waiting : (s : TableState) (k : Key) (state : State) (n : ℕ) → IsTold s k state → state.mode ≡ mode.Waiting n → Waits s k n
told_waiting s k state n is waiting = record { live = is.live; waits = waiting_mode n (wait_of s k.process) (has_verdict s k.process) (is.mode ∙ waiting) }

convicted_mode : (n : ℕ) (o : Option ℕ) (v : Bool) → mode_of o v ≡ mode.Convicted n → o ≡ Some n
convicted_mode n None v is = (let never : mode.Active ≡ mode.Convicted n = is in absurd (cc))
convicted_mode n (Some m) true is = (let same : m ≡ n = cc in ap Some same)
convicted_mode n (Some m) false is = (let never : mode.Waiting m ≡ mode.Convicted n = is in absurd (cc))

pub told_convicted : (s : TableState) (k : Key) (state : State) (n : ℕ) → IsTold s k state → state.mode ≡ mode.Convicted n → Waits s k n
told_convicted s k state n is convicted = record { live = is.live; waits = convicted_mode n (wait_of s k.process) (has_verdict s k.process) (is.mode ∙ convicted) }

pub may_cancel_of : (s : TableState) (k : Key) (n : ℕ) → Waits s k n → may_cancel s k ≡ Ok tt
may_cancel_of s k n is = ap (λ b. if b then may_cancel_in (wait_of s k.process) else Err NoTransaction) is.live ∙ ap may_cancel_in is.waits

-- ---- an event may be counted

pub counted : (s : TableState) → may_count s ≡ Ok tt → s.totals.accepted < event_limit
counted s may = elim (cases_lt s.totals.accepted event_limit) [
  | inl below ↦ below
  | inr past ↦ (let never : Err CountsFull ≡ Ok tt = sym (ap (λ (b : Bool). if b then Ok tt else Err CountsFull) (le-ltb s.totals.accepted event_limit past)) ∙ may in absurd (cc))
]

owns_by : (s : TableState) (b : Bool) → (if b then may_count s else Err NoTransaction) ≡ Ok tt → (b ≡ true) × (s.totals.accepted < event_limit)
owns_by s true may = (refl, counted s may)
owns_by s false may = (let never : Err NoTransaction ≡ Ok tt = may in absurd (cc))

-- who may own one name more is live, and an event may be counted
pub may_own_is : (s : TableState) (k : Key) → may_own s k ≡ Ok tt → (is_live s k ≡ true) × (s.totals.accepted < event_limit)
may_own_is s k may = owns_by s (is_live s k) may
