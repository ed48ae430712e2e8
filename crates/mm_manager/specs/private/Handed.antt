-- A table with names, and a call that hands over, by number.
use Rattle.std.specs.Prelude.{◌≡◌, ℕ, Bool, [], if◌then◌else◌}
use Rattle.mm_arena.specs.declared.key.Key.{Key}
use Rattle.mm_rules.specs.declared.reply.Released.{Released}
use Rattle.mm_rules.specs.Event.{Release, Finish}
use Rattle.mm_rules.specs.Laws.{Laws}
use Rattle.mm_settled.specs.Calls.{Made, MadeWithdrawal}
use Rattle.mm_settled.specs.Grants.{EndsWaits, Tells}
use Rattle.mm_manager.specs.declared.named.NamedTable.{NamedTable}
use Rattle.mm_manager.specs.declared.totals.Totals.{Totals}
use Rattle.mm_manager.specs.LockState.{LockState, KeepOwned}
use Rattle.mm_manager.specs.private.Numbers.{AreNumbered}
use Rattle.mm_manager.specs.private.Room.{HasReserve}

-- a number has a name exactly while it has an owner, and labels and counts are left for every end
pub record IsSound (t : NamedTable) : Type 0 where
  pub numbered : AreNumbered t.table.table t.names
  pub left : HasReserve t.table.table

-- what a contract sees of a table with names, whether its list tells of the last call, what was counted, and how many names a transaction may own
abbrev pub seen : NamedTable → Bool → Totals → ℕ → LockState
seen t tells c each = record { table = t.table.table; names = t.names; granted = if tells then t.table.granted else []; totals = c; names_each = each }

-- a refused call leaves table and names as they were
pub record IsUntouched (old new : NamedTable) : Type 0 where
  pub table : new.table.table ≡ old.table.table
  pub names : new.names ≡ old.names

-- a call of process n handed over in the table: its list of grants tells of that, and a number keeps its name exactly while it is owned
pub record Follows (n : ℕ) (old new : NamedTable) : Type 0 where
  pub told : Tells old.table.table new.table
  pub ended : EndsWaits old.table.table new.table.table n new.table.granted
  pub names : KeepOwned old.names new.table.table new.names
  pub sound : IsSound new

-- k releases the number
abbrev pub HandsOver : Key → ℕ → NamedTable → NamedTable → Type 0
HandsOver k n old new = (answer : Released) × Made (Release k n) old.table.table answer new.table.table × Follows k.process old new

-- k ends
abbrev pub HandsAllOver : Key → NamedTable → NamedTable → Type 0
HandsAllOver k old new = Made (Finish k) old.table.table tt new.table.table × Follows k.process old new

-- k takes back its wait, which leaves this table with names, and ends
pub record EndsWaiting (k : Key) (old new : NamedTable) : Type 0 where
  pub mid : NamedTable
  pub made : MadeWithdrawal k old.table.table mid.table.table
  pub names : mid.names ≡ old.names
  pub laws : Laws mid.table.table
  pub over : HandsAllOver k mid new
