use Rattle.std.proofs.Common.{◌∙◌, List, [], ◌∷◌, ◌++◌, sym, ap, subst, arith}
use Rattle.atomic_table.specs.Table.{opening}
use Rattle.mm_tied.specs.History.{nobody}
use Rattle.mm_tied.specs.Rule.{IsKept}
use Rattle.mm_tied.proofs.Moves.{opens}
use Rattle.mm_tied.proofs.lock.TiedMutex.new.Goals as goal

pub new-requires : goal.new-requires
new-requires g c =
    subst (λ (ms : List g.row.T.Denot). IsKept g.Y.Story.state g.Y.Story.makes (g.Y.Story.state c.of-first.result.value) (opening _ ms nobody)) (sym (c.push_reserved.ensures.items ∙ ap (λ l. l ++ c.args.value ∷ []) c.in-Ok.ensures.items))
    (opens g.Y.Story.state g.Y.Story.makes _ c.args.value _ (omega arith) (ap g.Y.Story.state c.of-first.ensures))
