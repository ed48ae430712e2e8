-- Who waits, and for what.
use Rattle.std.proofs.Common.{◌≡◌, ◌+◌, ◌-◌, ◌<◌, ◌∷◌, ℕ, suc, Bool, true, false, Option, Some, None, is_some, option_and_then, slice_index_or, if◌then◌else◌, refl, sym, ap, ◌∙◌, arith}
use Rattle.std.specs.List.{cons_option, filter_map, range_with_len}
use Rattle.mm_lists.proofs.Lemmas.Among.{all_at}
use Rattle.mm_rules.specs.TableState.{TableState, key_of, is_live, owner_of, wait_of}
use Rattle.mm_rules.specs.Event.{tenant_of}
use Rattle.mm_rules.specs.Laws.{Laws, IsHeld}
use Rattle.mm_rules.proofs.States.Lookups.{waits_here}
use Rattle.mm_rules.proofs.States.Vacate.{live_process}
use Rattle.mm_arena.specs.declared.key.Key.{Key}
use Rattle.mm_manager.specs.Reads.{edge, live_from, wait_at, waits_from}
use Rattle.mm_manager.specs.declared.reply.Wait.{Wait}
use Rattle.mm_manager.proofs.Lemmas.Names.{waited_is_owned}

-- what is waited for is owned
pub has_holder : (s : TableState) → Laws s → (p n : ℕ) → wait_of s p ≡ Some n → is_some (owner_of s n) ≡ true
has_holder s laws p n waits = ap is_some (waited_is_owned s laws p n waits).1

-- whoever waits is live
waits_lives : (s : TableState) → Laws s → (p n : ℕ) → wait_of s p ≡ Some n → slice_index_or s.live p false ≡ true
waits_lives s laws p n waits =
    let here = waits_here s p n waits in
    ap (λ i. slice_index_or s.live i false) (sym here.process) ∙ live_process s here.wait.key (all_at (λ w. (is_live s w.key ≡ true) × IsHeld s w) s.waits here.wait laws.lawful.well_formed.waits here.among).0

none_by : (s : TableState) → Laws s → (p : ℕ) (o : Option ℕ) → wait_of s p ≡ o → slice_index_or s.live p false ≡ false → wait_of s p ≡ None
none_by s laws p None is dead = is
none_by s laws p (Some n) is dead = (let never : true ≡ false = sym (waits_lives s laws p n is) ∙ dead in absurd (cc))

dead_by : (s : TableState) (p : ℕ) (b : Bool) → (if b then Some (key_of s p) else None) ≡ None → b ≡ false
dead_by s p true is = (let never : Some (key_of s p) ≡ None = is in absurd (cc))
dead_by s p false is = refl

-- a process without a live key waits for nothing
pub no_tenant_waits : (s : TableState) → Laws s → (p : ℕ) → tenant_of s p ≡ None → wait_at s p ≡ None
no_tenant_waits s laws p none =
    let idle = none_by s laws p (wait_of s p) refl (dead_by s p (slice_index_or s.live p false) none) in
    ap (option_and_then (edge s p)) idle

-- ---- those from a process on, step by step

module _ {A : Type 0} (f : ℕ → Option A) (n p : ℕ) (below : p < n) where
  from_step : filter_map f (range_with_len p (n - p)) ≡ cons_option (f p) (filter_map f (range_with_len (p + 1) (n - (p + 1))))
  from_step =
      let more : n - p ≡ suc (n - (p + 1)) = omega arith in
      ap (λ i. filter_map f (range_with_len p i)) more

  from_some : (a : A) → f p ≡ Some a → filter_map f (range_with_len p (n - p)) ≡ a ∷ filter_map f (range_with_len (p + 1) (n - (p + 1)))
  from_some a is = from_step ∙ ap (λ o. cons_option o (filter_map f (range_with_len (p + 1) (n - (p + 1))))) is

  from_none : f p ≡ None → filter_map f (range_with_len p (n - p)) ≡ filter_map f (range_with_len (p + 1) (n - (p + 1)))
  from_none is = from_step ∙ ap (λ o. cons_option o (filter_map f (range_with_len (p + 1) (n - (p + 1))))) is

-- where process p waits, it comes first, and else it is passed
pub waits_some : (s : TableState) (p : ℕ) (w : Wait) → p < s.config.processes → wait_at s p ≡ Some w → waits_from s p ≡ w ∷ waits_from s (p + 1)
waits_some s p w below is = from_some (wait_at s) s.config.processes p below w is

pub waits_none : (s : TableState) (p : ℕ) → p < s.config.processes → wait_at s p ≡ None → waits_from s p ≡ waits_from s (p + 1)
waits_none s p below is = from_none (wait_at s) s.config.processes p below is

-- the same of the live transactions
pub live_some : (s : TableState) (p : ℕ) (k : Key) → p < s.config.processes → tenant_of s p ≡ Some k → live_from s p ≡ k ∷ live_from s (p + 1)
live_some s p k below is = from_some (tenant_of s) s.config.processes p below k is

pub live_none : (s : TableState) (p : ℕ) → p < s.config.processes → tenant_of s p ≡ None → live_from s p ≡ live_from s (p + 1)
live_none s p below is = from_none (tenant_of s) s.config.processes p below is
