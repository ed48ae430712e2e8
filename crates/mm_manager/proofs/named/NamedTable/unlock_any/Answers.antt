use Rattle.std.proofs.Common.{refl}
use Rattle.mm_manager.proofs.Lemmas.UnlockAny.{is_named}
use Rattle.mm_manager.proofs.named.NamedTable.unlock_any.Goals as goal
