-- A withdrawal: whom it changes, and that a table at rest stays lawful.
use Rattle.std.proofs.Common.{◌≡◌, ◌<◌, ◌||◌, ℕ, Bool, true, false, replicate, List, length, Option, None, Some, MatchOption, IfSome, Result, refl, sym, ap, subst, arith}
use Rattle.mm_label.specs.Label.{Label}
use Rattle.mm_arena.specs.declared.key.Key.{Key}
use Rattle.mm_rules.specs.declared.refusal.Refusal.{Refusal}
use Rattle.mm_rules.specs.TableState.{TableState, is_waiting}
use Rattle.mm_rules.specs.Change.{activate, block}
use Rattle.mm_rules.specs.Laws.{Laws}
use Rattle.mm_settle_lemmas.specs.Touched.{Touches}
use Rattle.mm_settle_lemmas.specs.Steps.Added.{Adds}
use Rattle.mm_settle_lemmas.proofs.Lemmas.Touched.{touches_then, touches_one, touches_activate, block_else, block_rises}
use Rattle.mm_table.specs.declared.records.withdraw.Renewal.{Renewal}
use Rattle.mm_rules.specs.Laws.{AtRest}
use Rattle.mm_rules.specs.Withdraw.{Withdraws}
use Rattle.mm_rules.proofs.States.WithdrawLaws.{withdraw_keeps_laws, withdraw_leaves}
use Rattle.mm_bit_set.specs.BitSet.{has}
use Rattle.mm_table.specs.declared.table.Table.TheInside.{Inside}
use Rattle.mm_table.specs.private.Table.{IsLawfulTable}
use Rattle.mm_table.proofs.Fields.Table.{touch_keeps_lawful, listing_keeps_lawful}
use Rattle.mm_table.specs.private.LabelLimit.{labelled}
use Rattle.mm_table.specs.private.Renewal.{renewed, IsRenewal}

-- m got a new label, and then n stopped waiting
block_then_activate : (s : TableState) (m h n : ℕ) (a b c : List Bool) → m < length s.public → is_waiting s n ≡ true → Adds m a b → Adds n b c → Touches s (activate (block s m h) n) a c
block_then_activate s m h n a b c within waits first second =
    let t = block s m h in
    let u = activate t n in
    touches_then s t u a b c
    (touches_one s t m a b first (block_else s m h) (λ same. omega (arith, block_rises s m h within, ap (λ (l : Label). l.counter) same.public)))
    (touches_activate t n b c waits second)
    (λ k changed same. changed record { private = same.private; public = same.public; wait = refl; holder = refl; verdict = same.verdict })
    (λ k changed same. changed record { private = refl; public = refl; wait = same.wait; holder = same.holder; verdict = refl })

pub adds_sized : (r : Option Renewal) (a b : List Bool) → MatchOption r (b ≡ a) (λ x. Adds x.process a b) → length b ≡ length a
adds_sized None a b adds = ap length adds
adds_sized (Some x) a b adds = adds.sized

pub touches_withdraw : (s : TableState) (n : ℕ) (r : Option Renewal) (a b c : List Bool) → Laws s → is_waiting s n ≡ true → IfSome r (IsRenewal s)
    → MatchOption r (b ≡ a) (λ x. Adds x.process a b) → Adds n b c → Touches s (activate (renewed s r) n) a c
touches_withdraw s n None a b c laws waits renewal first second = subst (λ (set : List Bool). Touches s (activate s n) set c) first (touches_activate s n b c waits second)
touches_withdraw s n (Some x) a b c laws waits renewal first second =
    let within : x.process < length s.public = omega (arith, renewal.within, laws.lawful.well_formed.sizes.public) in
    subst (λ (l : Label). Touches s (activate (labelled s x.process l) n) a c) (sym renewal.label)
    (block_then_activate s x.process renewal.holder n a b c within waits first second)

module _ (k : Key) (old : Inside) (new : TableState) (reply : Result (Unit {0}) Refusal) (step : Withdraws k old.records reply new) (rest : AtRest old.records) (kept : IsLawfulTable old) where
  pub withdraw_touches_table : (changed : List Bool) → Touches old.records new old.sets.changed changed → IsLawfulTable (record { records = new; sets = record old.sets { changed = changed } })
  withdraw_touches_table = touch_keeps_lawful old new (withdraw_keeps_laws k old.records new reply step kept.laws rest) (withdraw_leaves k old.records new reply step).config kept

  pub withdraw_lists_table : (touched changed left : List Bool) → Touches old.records new old.sets.touched touched → ((j : ℕ) → has changed j ≡ (has old.sets.changed j || has touched j))
      → length changed ≡ length old.sets.changed → left ≡ replicate (length touched) false → IsLawfulTable (record { records = new; sets = record old.sets { changed = changed; touched = left } })
  withdraw_lists_table = listing_keeps_lawful old new (withdraw_keeps_laws k old.records new reply step kept.laws rest) (withdraw_leaves k old.records new reply step).config kept
