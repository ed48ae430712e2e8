use Rattle.std.proofs.Common.{◌≡◌, sym, ap, subst, ◌∙◌}
use Rattle.mm_manager.specs.LockState.{IsLawful}
use Rattle.mm_thin.specs.Parts.{Opening, IsPlaced}
use Rattle.mm_thin.specs.declared.views.DeskView.{DeskView}
use Rattle.mm_thin.specs.Calls.{AreLent}
use Rattle.mm_desk.specs.Desk.{DeskState}
use Rattle.mm_desk.specs.Calls.{OwnsAlone, IsOwned}
use Rattle.mm_desk.proofs.Ties.{owns_alone, is_owned}
use Rattle.mm_desk.proofs.desk.Desk.keeps_ties.Goals as goal

pub returns-clause-alone : goal.returns-clause-alone
returns-clause-alone c r at =
    let of : c.args.worker.now.of ≡ c.self.inside.office.of = c.requires ∙ sym (ap (λ (d : DeskState). d.office.of) c.self.view_is) in
    let placed = c.look_at_office.ensures.placed r at in
    let lawful = subst IsLawful (ap (λ x. x.books.manager) c.self-inside.view_is) c.keeps_laws.ensures in
    subst (λ (d : DeskState). OwnsAlone d c.args.worker.now.at r) c.self.view_is
    (owns_alone c.self.inside.books c.self.inside.office c.self.inside.keys.items c.self.inside.lent_to.items c.self.invariant lawful c.args.worker.now.at r
    (placed.0, subst (λ (x : Opening). IsPlaced x r) of placed.1) (subst (λ (d : DeskView). AreLent r d) (ap (λ x. x.office.desk) c.self-inside.view_is) (c.look_at_office.ensures.lent r at)))

pub returns-clause-owned : goal.returns-clause-owned
returns-clause-owned c r at =
    let of : c.args.worker.now.of ≡ c.self.inside.office.of = c.requires ∙ sym (ap (λ (d : DeskState). d.office.of) c.self.view_is) in
    let placed = c.look_at_office.ensures.placed r at in
    let lawful = subst IsLawful (ap (λ x. x.books.manager) c.self-inside.view_is) c.keeps_laws.ensures in
    subst (λ (d : DeskState). IsOwned d c.args.worker.now.at r) c.self.view_is
    (is_owned c.self.inside.books c.self.inside.office c.self.inside.keys.items c.self.inside.lent_to.items c.self.invariant lawful c.args.worker.now.at r
    (placed.0, subst (λ (x : Opening). IsPlaced x r) of placed.1) (subst (λ (d : DeskView). AreLent r d) (ap (λ x. x.office.desk) c.self-inside.view_is) (c.look_at_office.ensures.lent r at)))
