-- What a contract sees of a service with connections, and to which connection a line goes.
use Rattle.std.specs.Prelude.{ℕ, List, [], ◌++◌, Option, Some, None, codes, decimal}
use Rattle.mm_tagged_lists.specs.TaggedLists.{Listing, ListsMatchSpots}
use Rattle.mm_manager.specs.LockState.{LockState, IsLawful}
use Rattle.mm_connections.specs.declared.options.ConnectionOptions.{ConnectionOptions}

pub record Hub : Type 0 where
  pub manager : LockState
  pub begun : Listing  -- which connection began each transaction
  pub counts : List ℕ  -- by connection: how many of its transactions are live
  pub options : ConnectionOptions

-- what holds of any hub that a service can hold
pub record IsLawfulHub (h : Hub) : Type 0 where
  pub manager : IsLawful h.manager
  pub lists : ListsMatchSpots h.begun

-- a line, with its newline, to connection c
abbrev pub to : ℕ → List ℕ → List ℕ
to c line = (decimal c ++ codes " ") ++ line

-- to nobody, if there is no connection
abbrev pub to_any : Option ℕ → List ℕ → List ℕ
to_any None line = []
to_any (Some c) line = to c line
