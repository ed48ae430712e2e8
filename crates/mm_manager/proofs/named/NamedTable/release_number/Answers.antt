use Rattle.mm_manager.proofs.Lemmas.Unlocks.{was_owned}
use Rattle.mm_manager.proofs.named.NamedTable.release_number.Goals as goal

pub returns-in-Some-clause-owned : goal.returns-in-Some-clause-owned
returns-in-Some-clause-owned c =
    (was_owned c.args.self.now.table.table c.release.new.self.table.table c.args.key c.args.number c.in-Some.field-0 c.is_at_rest.ensures.laws c.in-Some.ensures.made).owned
