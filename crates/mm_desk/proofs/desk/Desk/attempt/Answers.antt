use Rattle.std.proofs.Common.{sym, subst}
use Rattle.mm_lists.specs.Members.{Among}
use Rattle.mm_thin.specs.Spread.{bucket_by}
use Rattle.mm_desk.specs.Desk.{DeskState}
use Rattle.mm_desk.proofs.Keeps.{desk_asked}
use Rattle.mm_desk.proofs.desk.Desk.attempt.Goals as goal

pub invariant_of-self : goal.invariant_of-self
invariant_of-self c =
    desk_asked c.self.inside.books c.self.inside.office c.self.inside.keys.items c.self.inside.lent_to.items c.self.invariant c.try_lock.new.self c.try_lock.ensures.spread c.args.name.now c.try_lock.ensures.grows c.try_lock.ensures.stay
    (subst (λ (d : DeskState). Among (bucket_by d.office.of.spread c.args.name.now) d.office.desk.fat) (sym c.self.view_is) c.requires)
