use Rattle.std.proofs.Common.{◌≡◌, ◌↔◌, ◌<◌, ℕ, Some, length, sym, ap, ◌∙◌, subst, inl, inr, arith}
use Rattle.std.specs.Prelude.{◌/◌, slice_get, slice_index}
use Rattle.std.proofs.lemmas.Bool.{cases_eq}
use Rattle.mm_thin.specs.declared.worker.TheConstants.{RECORDS}
use Rattle.mm_lists.specs.Members.{Among}
use Rattle.mm_rules.specs.TableState.{owner_of}
use Rattle.mm_manager.specs.LockState.{LockState}
use Rattle.mm_desk.specs.Desk.{DeskState}
use Rattle.mm_desk.specs.Calls.{NumberIsFree, NoLoansOf}
use Rattle.mm_desk.proofs.Counts.{count_is}
use Rattle.mm_desk.proofs.Cuts.{index_of}
use Rattle.mm_desk.proofs.Keeps.{same_both, free_still, no_loans}
use Rattle.mm_desk.proofs.desk.Desk.has_loans.Goals as goal

pub loop-k-preserved : goal.loop-k-preserved
loop-k-preserved c =
    let size = c.len-k-end.ensures in
    let test = c.loop-k-test.true in
    let low : c.loop-k.k < length c.holds.new.numbers.items = omega arith in
    let is = count_is c.holds.new.numbers.items c.loop-k.k c.index.result.now low c.index.ensures in
    let now = c.has_lent_number.new.self in (
      same_both c.args.self.now c.loop-k.self now c.loop-k.invariant.0 c.has_lent_number.ensures.keeps,
      λ j before below. elim (cases_eq j c.loop-k.k) [
        | inl same ↦ subst (λ n. NumberIsFree now c.args.key n) (is ∙ ap (slice_index c.holds.new.numbers.items) (sym same)) c.if-has_lent_number.ensures.free
        | inr apart ↦ free_still c.loop-k.self now c.args.key (slice_index c.holds.new.numbers.items j) c.has_lent_number.ensures.keeps c.has_lent_number.ensures.fewer (c.loop-k.invariant.1 j (omega arith) below)
      ],
      λ l among. c.loop-k.invariant.2 l (c.has_lent_number.ensures.fewer l among),
    )

pub returns-clause-none : goal.returns-clause-none
returns-clause-none c =
    let size = c.len-k-end.ensures in
    let test = c.loop-k-test.false in
    let numbers = c.holds.new.numbers.items in
    let here = ap (λ (d : DeskState). d.manager) c.self-2.view_is in
    let managers = ap (λ x. x.books.manager) c.self-inside.view_is ∙ ap (λ (d : DeskState). d.manager) c.self.view_is ∙ sym c.loop-k.invariant.0.manager ∙ sym here in
    let owned = subst (λ (m : LockState). (n : ℕ) → Among n numbers ↔ (owner_of m.table n ≡ Some c.args.key)) managers c.holds.ensures.owned in
    let free : (n : ℕ) → Among n numbers → NumberIsFree c.loop-k.self c.args.key n = λ n among.
    (let at = index_of n numbers among in let below = at.1 in subst (λ k. NumberIsFree c.loop-k.self c.args.key k) at.2 (c.loop-k.invariant.1 at.0 (omega arith) at.1)) in
    subst (λ (d : DeskState). NoLoansOf d c.args.key) c.self-2.view_is
    (no_loans c.self-2.inside.books c.self-2.inside.office c.self-2.inside.keys.items c.self-2.inside.lent_to.items c.self-2.invariant c.args.key numbers owned
    (subst (λ (d : DeskState). (n : ℕ) → Among n numbers → NumberIsFree d c.args.key n) (sym c.self-2.view_is) free))

pub returns-then-has_lent_number-clause-lent : goal.returns-then-has_lent_number-clause-lent
returns-then-has_lent_number-clause-lent c =
    let lent = c.if-has_lent_number.ensures.lent in
    let loan = lent.1 in
    (lent.0, (loan.0, c.loop-k.invariant.2 loan.0 loan.1, loan.2, ap (λ ks. slice_get ks (loan.0.number / RECORDS)) (sym c.loop-k.invariant.0.keys) ∙ loan.3))
