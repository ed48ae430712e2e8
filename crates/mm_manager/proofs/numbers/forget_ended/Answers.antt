use Rattle.std.proofs.Common.{◌≡◌, [], length, fold, sym, ap, subst, ◌∙◌}
use Rattle.std.proofs.lemmas.Bool.{eqb-true}
use Rattle.std.proofs.lemmas.List.{nil_from_length}
use Rattle.mm_lists.specs.Members.{Among}
use Rattle.mm_manager.specs.private.Numbers.{forgotten}
use Rattle.mm_manager.proofs.Lemmas.Forgets.{all_forgotten}
use Rattle.mm_manager.proofs.numbers.forget_ended.Goals as goal

pub returns-then-is_empty : goal.returns-then-is_empty
returns-then-is_empty c =
    let none : c.args.table.now.granted ≡ [] = nil_from_length c.args.table.now.granted (ap length (sym c.granted.ensures) ∙ eqb-true _ _ (sym c.if-is_empty.ensures)) in
    let s = c.args.table.now.table in
    c.forget_all.ensures ∙ all_forgotten s c.ended.result.now c.args.names.now (λ q among. c.requires none q (subst (Among q) c.ended.ensures among))
    ∙ ap (fold (forgotten s) c.args.names.now) c.ended.ensures
