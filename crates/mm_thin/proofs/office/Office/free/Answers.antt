use Rattle.std.proofs.Common.{◌≡◌, sym, subst}
use Rattle.mm_lists.specs.Members.{Among}
use Rattle.mm_thin.specs.declared.views.Lent.{Lent}
use Rattle.mm_thin.specs.Parts.{OfficeState}
use Rattle.mm_thin.proofs.office.Office.free.Goals as goal

pub free-requires-clause-not_lent : goal.free-requires-clause-not_lent
free-requires-clause-not_lent c = subst (λ (o : OfficeState). (l : Lent) → Among l o.desk.lent → l.bucket ≡ c.args.bucket → ⊥) (sym c.self.view_is) c.requires.not_lent
