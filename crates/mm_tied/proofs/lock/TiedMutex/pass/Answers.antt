use Rattle.std.proofs.Common.{rules, sym, ap, subst}
use Rattle.mm_tied.specs.declared.views.View.{View}
use Rattle.mm_tied.specs.History.{IsSound}
use Rattle.mm_tied.proofs.Moves.{comes}
use Rattle.mm_tied.proofs.Runs.{begins}
use Rattle.mm_tied.proofs.lock.TiedMutex.pass.Goals as goal

pub load_new_seat-requires : goal.load_new_seat-requires
load_new_seat-requires g c = (search rules, comes g.Y.Story.state g.Y.Story.makes _ _)

pub returns-clause-sound : goal.returns-clause-sound
returns-clause-sound g c =
    let made = c.load_new_seat in
    subst (λ (v : View g.row.S.Denot g.row.E.Denot). IsSound g.Y.Story.makes (g.Y.Story.state c.args.self.now.table.shared.key.value) made.result.1.id v) (sym (ap (λ m. m.0) made.ensures.2))
    (begins g.Y.Story.makes _ made.result.1.id)
