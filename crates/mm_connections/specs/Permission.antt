-- What a connection may ask for. Connection 0 is the operator's.
use Rattle.std.specs.Prelude.{ℕ, Bool, false, nat_eq, if◌then◌else◌}
use Rattle.std.specs.Option.{option_map_or}
use Rattle.mm_arena.specs.declared.key.Key.{Key}
use Rattle.mm_tagged_lists.specs.TaggedLists.{Listing}
use Rattle.mm_service.specs.declared.line.Request.{Request}
use Rattle.mm_service.specs.declared.line.Request.TheVariants as requests
use Rattle.mm_service.specs.declared.requests.KeyRequest.{KeyRequest}
use Rattle.mm_service.specs.declared.requests.KeyRequest.TheVariants as of_key
use Rattle.mm_connections.specs.Begun.{connection_of, is_open}
use Rattle.mm_connections.specs.declared.request.ClientRequest.{ClientRequest}
use Rattle.mm_connections.specs.declared.request.ClientRequest.TheVariants as asked
use Rattle.mm_connections.specs.declared.request.ReadRequest.{ReadRequest}
use Rattle.mm_connections.specs.declared.request.ReadRequest.TheVariants as reads
use Rattle.mm_connections.specs.declared.permission.Permission.{Permission}
use Rattle.mm_connections.specs.declared.permission.Permission.TheVariants.{Make, NoTransaction, Operator}

-- the connection began the transaction, and it was not dropped since
abbrev pub is_of : Listing → ℕ → Key → Bool
is_of begun c k = option_map_or (λ d. nat_eq d c) (connection_of begun k) false

-- a request of the connection's own transaction is made; one of another is answered as one of no live transaction
abbrev pub of_own : Listing → ℕ → Key → Permission
of_own begun c k = if is_of begun c k then Make else NoTransaction

-- so is a request of one that is set aside, since it is ending
abbrev pub of_open : Listing → ℕ → Key → Permission
of_open begun c k = if is_open begun c k then Make else NoTransaction

-- of its own transaction that is ending a connection can ask for the end, and read
abbrev pub of_own_key : Listing → ℕ → KeyRequest → Key → Permission
of_own_key begun c of_key.Cancel k = of_open begun c k
of_own_key begun c request k = of_own begun c k

-- what the operator may ask of any transaction
abbrev pub of_any : KeyRequest → Permission
of_any of_key.Abort = Make
of_any of_key.Status = Make
of_any of_key.Commit = NoTransaction
of_any of_key.Cancel = NoTransaction

-- of a request that the lock service without connections has too
abbrev pub plain_permission : Listing → ℕ → Request → Permission
plain_permission begun c (requests.OfName request k) = of_open begun c k
plain_permission begun c (requests.OfKey request k) = if nat_eq c 0 then of_any request else of_own_key begun c request k
plain_permission begun c requests.Owner = Make
plain_permission begun c requests.Totals = Make
plain_permission begun c _ = Operator

-- the operator reads all; others read what is theirs
abbrev pub read_permission : Listing → ℕ → ReadRequest → Permission
read_permission begun c (reads.Holds k) = if nat_eq c 0 then Make else of_own begun c k
read_permission begun c (reads.Status k) = if nat_eq c 0 then Make else of_own begun c k
read_permission begun c (reads.Fence k) = of_own begun c k
read_permission begun c reads.Hello = Make
read_permission begun c _ = if nat_eq c 0 then Make else Operator

-- what becomes of a request
abbrev pub permission_of : Listing → ℕ → ClientRequest → Permission
permission_of begun c asked.Begin = if nat_eq c 0 then Operator else Make
permission_of begun c (asked.LockAll k) = of_open begun c k
permission_of begun c (asked.Plain request) = plain_permission begun c request
permission_of begun c (asked.Read request) = read_permission begun c request
