use Rattle.std.proofs.Common.{◌≡◌, Ok, sym, ap, ◌∙◌}
use Rattle.mm_rules.specs.TableState.{TableState}
use Rattle.mm_rules.specs.Event.{state_of}
use Rattle.mm_manager.proofs.Lemmas.May.{is_told, told_active}
use Rattle.mm_manager.proofs.named.NamedTable.abort.Goals as goal

-- ---- it is active

pub finish-requires : goal.finish-requires
finish-requires c =
    let s = c.args.self.now.table.table in
    let k = c.args.key in
    let told : state_of s k ≡ Ok c.in-Ok.state = ap (λ (t : TableState). state_of t k) (sym c.table.ensures) ∙ sym c.state.ensures ∙ c.in-Ok.is in
    let is = told_active s k c.in-Ok.state (is_told s k c.in-Ok.state told) c.in-Active.is in
    record { sound = c.requires; live = is.live; idle = is.idle }
