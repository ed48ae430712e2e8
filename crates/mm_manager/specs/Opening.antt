-- The numbers of an opening.
use Rattle.std.specs.Prelude.{◌≡◌, ◌⊎◌, ◌<◌, []}
use Rattle.mm_names.specs.Names.{nameless}
use Rattle.mm_names.specs.declared.config.TheConstants.NamesConfig.{MAX_NAMES, MAX_NAME_BYTES}
use Rattle.mm_rules.specs.declared.config.Config.{Config}
use Rattle.mm_rules.specs.declared.config.TheConstants.Config.{MAX_LABEL_LIMIT, MAX_PROCESSES}
use Rattle.mm_rules.specs.TableState.{opening}
use Rattle.mm_manager.specs.LockState.{LockState}
use Rattle.mm_manager.specs.Totals.{nothing_counted}
use Rattle.mm_manager.specs.declared.config.ManagerConfig.{ManagerConfig}

-- the table has a resource for each name
abbrev pub table_config : ManagerConfig → Config
table_config c = record { processes = c.transactions; resources = c.names; label_limit = MAX_LABEL_LIMIT; generation_limit = 4294967295 }

-- nobody is live, and nobody owns a name
abbrev pub opening_state : ManagerConfig → LockState
opening_state c = record {
  table = opening (table_config c);
  names = nameless c.names c.name_bytes;
  granted = [];
  totals = nothing_counted;
  names_each = c.names_each;
}

-- there are to be no transactions, or too many
abbrev pub IsTransactionsOut : ManagerConfig → Type 0
IsTransactionsOut c = (c.transactions ≡ 0) ⊎ (MAX_PROCESSES < c.transactions)

-- there are to be no names, or too many
abbrev pub IsNamesOut : ManagerConfig → Type 0
IsNamesOut c = (c.names ≡ 0) ⊎ (MAX_NAMES < c.names)

-- a name is to have no bytes, or too many
abbrev pub IsNameBytesOut : ManagerConfig → Type 0
IsNameBytesOut c = (c.name_bytes ≡ 0) ⊎ (MAX_NAME_BYTES < c.name_bytes)
