use Rattle.std.proofs.Common.{◌≡◌, is_some, ap, sym, subst, ◌∙◌, arith}
use Rattle.std.specs.Option.{option_map_or}
use Rattle.mm_rules.specs.TableState.{TableState}
use Rattle.mm_rules.specs.Change.{transmit}
use Rattle.mm_rules.proofs.States.Transmit.{shown}
use Rattle.mm_settle_lemmas.specs.Touched.{Touches}
use Rattle.mm_settle_lemmas.proofs.Lemmas.Added.{adds_set}
use Rattle.mm_settle_lemmas.proofs.Lemmas.Touched.{touches_transmit, touches_nobody, unchanged}
use Rattle.mm_settle_lemmas.proofs.Lemmas.Told.{touches_counted}
use Rattle.mm_table.proofs.records.Records.transmit.Goals as goal
use Rattle.mm_table.proofs.records.Records.transmit.Goals.{in-Some, in-None}

pub returns-clause-touched : goal.returns-clause-touched
returns-clause-touched c =
    let s = c.args.self.now in
    let n = c.args.key.process in
    let old = c.args.touched.now in
    let new = c.match-raise.touched in
    let done : Touches s (transmit s n) old new =
    elim c.match-raise.branch [
      | in-Some w ↦
          touches_transmit s n old new c.requires.laws (ap is_some (sym c.raise.ensures.label ∙ w.in-Some.is))
          (adds_set old new n (omega (arith, c.in_ok-may_call_waiting.ensures.in_range, c.requires.sized)) (w.touched-is ∙ w.add.ensures))
      | in-None w ↦
          let still : transmit s n ≡ s = ap (λ o. option_map_or (shown s n) o s) (sym c.raise.ensures.label ∙ w.in-None.is) in
          subst (λ (t : TableState). Touches s t old new) (sym still)
          (subst (Touches s s old) (sym w.touched-is) (touches_nobody s s old (unchanged s)))
    ] in
    subst (λ (t : TableState). Touches s t old new) (sym c.count.ensures)
    (touches_counted s c.raise.new.self old new _ (subst (λ (t : TableState). Touches s t old new) (sym c.raise.ensures.state) done))
