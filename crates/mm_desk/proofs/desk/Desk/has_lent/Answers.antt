use Rattle.std.proofs.Common.{◌≡◌, ◌<◌, ◌/◌, ℕ, Bool, true, false, sym, refl, ap, subst, ◌∙◌, arith}
use Rattle.std.specs.Prelude.{slice_get}
use Rattle.std.specs.Bool.{OnTrue}
use Rattle.mm_lists.specs.Members.{Among}
use Rattle.mm_thin.specs.declared.worker.TheConstants.{RECORDS}
use Rattle.mm_thin.specs.declared.views.DeskView.{DeskView}
use Rattle.mm_thin.specs.Parts.{OfficeState}
use Rattle.mm_thin.specs.declared.views.Lent.{Lent}
use Rattle.mm_thin.specs.declared.reply.Look.{Look}
use Rattle.mm_thin.specs.declared.reply.Look.TheVariants as look
use Rattle.mm_thin.specs.Calls.{LooksAt}
use Rattle.mm_desk.specs.Desk.{DeskState}
use Rattle.mm_desk.specs.Calls.{IsLentTo}
use Rattle.mm_desk.proofs.Counts.{count_is}
use Rattle.mm_desk.proofs.Keeps.{none_lent, was_lent, not_fat_unlent, listed_number, desk_any_look}
use Rattle.mm_desk.proofs.desk.Desk.has_lent.Goals as goal

pub invariant_of-self : goal.invariant_of-self
invariant_of-self c = desk_any_look c.self.inside.books c.self.inside.office c.self.inside.keys.items c.self.inside.lent_to.items c.self.invariant c.args.bucket c.look.result c.look.new.self (ap (λ (o : OfficeState). o.of) c.look.ensures.rest) c.look.ensures.looks

pub invariant_of-self-in-Fat : goal.invariant_of-self-in-Fat
invariant_of-self-in-Fat c = desk_any_look c.self.inside.books c.self.inside.office c.self.inside.keys.items c.self.inside.lent_to.items c.self.invariant c.args.bucket c.look.result c.look.new.self (ap (λ (o : OfficeState). o.of) c.look.ensures.rest) c.look.ensures.looks

pub invariant_of-self-2 : goal.invariant_of-self-2
invariant_of-self-2 c = desk_any_look c.self.inside.books c.self.inside.office c.self.inside.keys.items c.self.inside.lent_to.items c.self.invariant c.args.bucket c.look.result c.look.new.self (ap (λ (o : OfficeState). o.of) c.look.ensures.rest) c.look.ensures.looks

pub returns-in-NotFat-clause-others : goal.returns-in-NotFat-clause-others
returns-in-NotFat-clause-others c l among at key =
    let looks = c.in-NotFat.ensures.looks in
    not_fat_unlent c.self.inside.books c.self.inside.office c.self.inside.keys.items c.self.inside.lent_to.items c.self.invariant c.args.bucket looks.1 l (subst (λ (d : DeskView). Among l d.lent) looks.0 among) at

pub returns-in-Fat-clause-others : goal.returns-in-Fat-clause-others
returns-in-Fat-clause-others c l among at key = none_lent c.args.bucket c.self.inside.office.desk.lent l (subst (λ (d : DeskView). Among l d.lent) c.in-Fat.ensures.looks.0 among) at

any_look : (d : DeskView) (b : ℕ) (look : Look) (d' : DeskView) → LooksAt d b look d' → (l : Lent) → Among l d'.lent → Among l d.lent
any_look d b look.NotFat d' looks l among = subst (λ (x : DeskView). Among l x.lent) looks.0 among
any_look d b look.Fat d' looks l among = was_lent b d.lent l (subst (λ (x : DeskView). Among l x.lent) looks.0 among)
any_look d b look.IsLent d' looks l among = subst (λ (x : DeskView). Among l x.lent) looks.0 among

pub returns-in-NotFat-clause-fewer : goal.returns-in-NotFat-clause-fewer
returns-in-NotFat-clause-fewer c = subst (λ (s : DeskState). (l : Lent) → Among l c.look.new.self.desk.lent → Among l s.office.desk.lent) c.self.view_is (any_look c.self.inside.office.desk c.args.bucket c.look.result c.look.new.self.desk c.look.ensures.looks)

pub returns-in-Fat-clause-fewer : goal.returns-in-Fat-clause-fewer
returns-in-Fat-clause-fewer c = subst (λ (s : DeskState). (l : Lent) → Among l c.look.new.self.desk.lent → Among l s.office.desk.lent) c.self.view_is (any_look c.self.inside.office.desk c.args.bucket c.look.result c.look.new.self.desk c.look.ensures.looks)

pub returns-clause-fewer : goal.returns-clause-fewer
returns-clause-fewer c = subst (λ (s : DeskState). (l : Lent) → Among l c.look.new.self.desk.lent → Among l s.office.desk.lent) c.self.view_is (any_look c.self.inside.office.desk c.args.bucket c.look.result c.look.new.self.desk c.look.ensures.looks)

on_true : (b : Bool) (P : Type 0) → (b ≡ true → P) → OnTrue b P
on_true true P holds = holds refl
on_true false P holds = tt

pub returns-clause-lent : goal.returns-clause-lent
returns-clause-lent c = on_true c.is_of.result (IsLentTo c.args.self.now c.args.bucket c.args.key) (λ yes.
    (let loan = c.in-IsLent.ensures.looks.2 in
    let listed = listed_number c.self.inside.books c.self.inside.office c.self.inside.keys.items c.self.inside.lent_to.items c.self.invariant c.args.bucket loan.0 loan.1 loan.2 in
    let below = subst (λ (d : DeskState). c.args.bucket < d.office.of.table.words) (sym c.self.view_is) c.requires in
    let size = c.self.invariant.sized in
    let is = count_is c.self.inside.lent_to.items c.args.bucket c.index.result.now (omega arith) c.index.ensures in
    subst (λ (d : DeskState). IsLentTo d c.args.bucket c.args.key) c.self.view_is
    (loan.0, loan.1, loan.2, ap (λ n. slice_get c.self.inside.keys.items (n / RECORDS)) (sym listed ∙ sym is) ∙ c.is_of.ensures.0 yes)))
