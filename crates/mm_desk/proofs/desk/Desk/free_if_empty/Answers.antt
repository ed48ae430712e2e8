use Rattle.std.proofs.Common.{◌<◌, ap, sym, subst, ◌∙◌, arith}
use Rattle.mm_lists.specs.Members.{Among, without}
use Rattle.mm_thin.specs.declared.views.DeskView.{DeskView}
use Rattle.mm_thin.specs.Parts.{OfficeState, Opening}
use Rattle.mm_desk.specs.Books.{names_in}
use Rattle.mm_desk.specs.Desk.{DeskState}
use Rattle.mm_desk.proofs.Freed.{freed_used, looked_used}
use Rattle.mm_desk.proofs.Keeps.{none_lent, desk_freed, desk_any_look}
use Rattle.mm_desk.proofs.desk.Desk.free_if_empty.Goals as goal

pub free-requires-clause-not_lent : goal.free-requires-clause-not_lent
free-requires-clause-not_lent c l among same = none_lent c.args.bucket c.self.inside.office.desk.lent l (subst (λ (d : DeskView). Among l d.lent) c.in-Fat.ensures.looks.0 among) same

pub invariant_of-self : goal.invariant_of-self
invariant_of-self c =
    let count = c.count.ensures in
    let zero = c.if-count-gt0.false in
    desk_freed c.self.inside.books c.self.inside.office c.self.inside.keys.items c.self.inside.lent_to.items c.self.invariant c.look.new.self c.free.new.self (ap (λ (o : OfficeState). o.of) c.free.ensures ∙ ap (λ (o : OfficeState). o.of) c.look.ensures.rest) c.args.bucket
    c.in-Fat.ensures.looks.0 (ap (λ (o : OfficeState). o.desk) c.free.ensures) (omega arith)

pub invariant_of-self-in_default : goal.invariant_of-self-in_default
invariant_of-self-in_default c = desk_any_look c.self.inside.books c.self.inside.office c.self.inside.keys.items c.self.inside.lent_to.items c.self.invariant c.args.bucket c.look.result c.look.new.self (ap (λ (o : OfficeState). o.of) c.look.ensures.rest) c.look.ensures.looks

pub returns-in-Fat-clause-frees : goal.returns-in-Fat-clause-frees
returns-in-Fat-clause-frees c =
    let inside = c.self.inside in
    let fat = ap (λ (o : OfficeState). o.desk.fat) c.free.ensures ∙ ap (λ (d : DeskView). without c.args.bucket d.fat) c.in-Fat.ensures.looks.0 in
    let freed = freed_used c.args.bucket (names_in c.free.new.self.of.spread inside.books.manager.names.names c.args.bucket) inside.office.desk.fat c.free.new.self.desk.fat fat in
    record { used = freed.0; fewer = λ b among. subst (λ (d : DeskState). Among b d.office.desk.fat) c.self.view_is (freed.1 b among) }

pub returns-in_default : goal.returns-in_default
returns-in_default c =
    let inside = c.self.inside in
    let of = ap (λ (o : OfficeState). o.of) c.look.ensures.rest in
    let looked = looked_used inside.books inside.office inside.keys.items inside.lent_to.items c.self.invariant c.args.bucket c.look.result c.look.new.self.desk c.in_default.not-Fat c.look.ensures.looks in
    record {
      frees = record {
        used = λ among. subst (λ (o : Opening). 0 < names_in o.spread inside.books.manager.names.names c.args.bucket) (sym of) (looked.0 among);
        fewer = λ b among. subst (λ (d : DeskState). Among b d.office.desk.fat) c.self.view_is (looked.1 b among);
      };
      keeps = record { of = of ∙ ap (λ (d : DeskState). d.office.of) c.self.view_is; keys = ap (λ (d : DeskState). d.keys) c.self.view_is; manager = ap (λ (d : DeskState). d.manager) c.self.view_is };
    }
