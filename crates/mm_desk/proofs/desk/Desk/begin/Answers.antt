use Rattle.std.proofs.Common.{◌≡◌, Some, sym, ap, subst, ◌∙◌}
use Rattle.std.specs.Prelude.{slice_get}
use Rattle.mm_manager.specs.LockState.{LockState, IsLawful}
use Rattle.mm_manager.specs.Reads.{HasStatus}
use Rattle.mm_desk.specs.Desk.{DeskState}
use Rattle.mm_desk.proofs.Names.{dead_told}
use Rattle.mm_desk.proofs.Keeps.{desk_cancelled, desk_renewed, dead_unlent}
use Rattle.mm_desk.proofs.desk.Desk.begin.Goals as goal

pub invariant_of-self : goal.invariant_of-self
invariant_of-self c =
    let books = c.self.inside.books in
    let keys = c.self.inside.keys.items in
    let same = ap (λ x. x.books.manager) c.self-inside.view_is in
    let key = c.in-Some.key in
    let lawful = subst (λ (m : LockState). IsLawful m) same c.keeps_laws.ensures in
    let told = subst (λ (m : LockState). HasStatus m key c.status.result) same c.status.ensures in
    let dead = dead_told books.manager key c.status.result told (sym c.if-is_ok.ensures.value) in
    let at : slice_get keys c.args.at ≡ Some key = subst (λ (d : DeskState). slice_get d.keys c.args.at ≡ Some key) (sym c.self.view_is) (sym c.key_of.ensures ∙ c.in-Some.is) in
    desk_renewed books c.begin.new.self c.self.inside.office keys c.self.inside.lent_to.items c.self.invariant c.begin.ensures.spread c.begin.ensures.fade c.begin.ensures.stay c.args.at key c.in-Ok.next at
    (dead_unlent books c.self.inside.office keys c.self.inside.lent_to.items c.self.invariant lawful key dead)

pub invariant_of-self-in-Err : goal.invariant_of-self-in-Err
invariant_of-self-in-Err c =
    desk_cancelled c.self.inside.books c.self.inside.office c.self.inside.keys.items c.self.inside.lent_to.items c.self.invariant c.begin.new.self c.begin.ensures.spread c.begin.ensures.fade c.begin.ensures.stay
