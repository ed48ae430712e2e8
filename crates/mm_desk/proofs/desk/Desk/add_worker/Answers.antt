use Rattle.mm_desk.proofs.Keeps.{desk_more}
use Rattle.mm_desk.proofs.desk.Desk.add_worker.Goals as goal

pub invariant_of-self : goal.invariant_of-self
invariant_of-self c = desk_more c.self.inside.books c.self.inside.office c.add_worker.new.self c.self.inside.keys.items c.self.inside.lent_to.items c.self.invariant c.add_worker.result c.add_worker.ensures.added c.add_worker.ensures.refused
