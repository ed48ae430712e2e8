use Rattle.mm_desk.proofs.Keeps.{desk_cancelled}
use Rattle.mm_desk.proofs.desk.Desk.cancel.Goals as goal

pub invariant_of-self : goal.invariant_of-self
invariant_of-self c = desk_cancelled c.self.inside.books c.self.inside.office c.self.inside.keys.items c.self.inside.lent_to.items c.self.invariant c.cancel.new.self c.cancel.ensures.spread c.cancel.ensures.fade c.cancel.ensures.stay
