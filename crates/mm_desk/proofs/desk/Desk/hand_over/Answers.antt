use Rattle.std.proofs.Common.{sym, subst}
use Rattle.mm_thin.specs.Spread.{bucket_by}
use Rattle.mm_desk.specs.Desk.{DeskState}
use Rattle.mm_desk.specs.Calls.{LoansAreOthers}
use Rattle.mm_desk.proofs.Keeps.{desk_unlocked}
use Rattle.mm_desk.proofs.desk.Desk.hand_over.Goals as goal

pub invariant_of-self : goal.invariant_of-self
invariant_of-self c =
    desk_unlocked c.self.inside.books c.self.inside.office c.self.inside.keys.items c.self.inside.lent_to.items c.self.invariant c.unlock.new.self c.unlock.ensures.spread c.args.key c.args.name.now c.unlock.ensures.fade c.unlock.ensures.stay
    (subst (λ (d : DeskState). LoansAreOthers d (bucket_by d.office.of.spread c.args.name.now) c.args.key) (sym c.self.view_is) c.requires)
