use Rattle.std.proofs.Common.{sym, subst}
use Rattle.mm_desk.specs.Desk.{DeskState}
use Rattle.mm_desk.specs.Calls.{NoLoansOf}
use Rattle.mm_desk.proofs.Keeps.{desk_ended}
use Rattle.mm_desk.proofs.desk.Desk.roll_back.Goals as goal

pub invariant_of-self : goal.invariant_of-self
invariant_of-self c = desk_ended c.self.inside.books c.self.inside.office c.self.inside.keys.items c.self.inside.lent_to.items c.self.invariant c.abort.new.self c.abort.ensures.spread c.args.key c.abort.ensures.over
    (subst (λ (d : DeskState). NoLoansOf d c.args.key) (sym c.self.view_is) c.requires.loans)
