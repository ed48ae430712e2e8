use Rattle.std.proofs.Common.{◌≡◌, ◌≢◌, ◌<◌, ℕ, Option, Some, None, IfSome, IfNone, inl, inr, subst, sym, ap, ◌∙◌}
use Rattle.std.proofs.lemmas.Bool.{cases_Bool}
use Rattle.mm_rules.specs.TableState.{TableState, holder_of, wait_of, is_waiting}
use Rattle.mm_rules.specs.Laws.{Laws}
use Rattle.mm_rules.proofs.States.Lookups.{holder_within, holder_apart, waiting_has_holder, none_of_is_some}
use Rattle.mm_table.proofs.table.Table.holder.Goals as goal

another : (s : TableState) (n : ℕ) (o : Option ℕ) → Laws s → o ≡ holder_of s n → IfSome o (λ h. (h < s.config.processes) × (h ≢ n))
another s n None laws is = tt
another s n (Some h) laws is = (
  (holder_within s laws.lawful.well_formed n h (sym is)).1,
  λ e. holder_apart s laws.lawful.well_formed n h (sym is) (sym e),
)

idle : (s : TableState) (n : ℕ) (o : Option ℕ) → Laws s → o ≡ holder_of s n → IfNone o (wait_of s n ≡ None)
idle s n (Some h) laws is = tt
idle s n None laws is = elim (cases_Bool (is_waiting s n)) [
  | inl waits ↦
      let holder = waiting_has_holder s laws.lawful.well_formed n waits in
      let never : None ≡ Some holder.0 = is ∙ holder.1 in
      absurd (cc)
  | inr still ↦ none_of_is_some (wait_of s n) still
]

pub returns-clause-another : goal.returns-clause-another
returns-clause-another c =
    let s = c.args.self.now in
    another s c.args.process c.holder_at.result (subst Laws c.self.view_is c.self.invariant.laws) (c.holder_at.ensures.holder ∙ ap (λ (t : TableState). holder_of t c.args.process) c.self.view_is)

pub returns-clause-idle : goal.returns-clause-idle
returns-clause-idle c =
    let s = c.args.self.now in
    idle s c.args.process c.holder_at.result (subst Laws c.self.view_is c.self.invariant.laws) (c.holder_at.ensures.holder ∙ ap (λ (t : TableState). holder_of t c.args.process) c.self.view_is)
