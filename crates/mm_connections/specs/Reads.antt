-- What is read of a service with connections.
use Rattle.std.specs.Prelude.{◌≡◌, ◌↔◌, ◌&&◌, ℕ, false, List, [], ◌∷◌, ◌++◌, length, Option, Some, None, unwrap_or, codes, decimal, nat_lt, if◌then◌else◌}
use Rattle.std.specs.Option.{option_map_or}
use Rattle.mm_arena.specs.declared.key.Key.{Key}
use Rattle.mm_arena.specs.Key.{key_text}
use Rattle.mm_arena.specs.Shelf.{key_eq}
use Rattle.mm_rules.specs.TableState.{is_live}
use Rattle.mm_manager.specs.LockState.{LockState, Owns}
use Rattle.mm_manager.specs.Permit.{counts_left, labels_left}
use Rattle.mm_manager.specs.Reads.{live_of, waits_of}
use Rattle.mm_manager.specs.declared.refusal.Refusal.TheVariants as refusals
use Rattle.mm_manager.specs.declared.reply.Wait.{Wait}
use Rattle.mm_service.specs.Holds.{HoldsText}
use Rattle.mm_service.specs.Reply.{answer_text, edge_text, line_text, name_at, refusal_word, status_text}
use Rattle.mm_connections.specs.Begun.{connection_of, is_aside}
use Rattle.mm_connections.specs.Hub.{Hub, to}
use Rattle.mm_connections.specs.Status.{status_of}
use Rattle.mm_connections.specs.declared.request.ReadRequest.{ReadRequest}
use Rattle.mm_connections.specs.declared.request.ReadRequest.TheVariants as reads

-- ---- fences

-- what comes before the events of a fence: the epoch of the service
abbrev pub fence_by : Option ℕ → LockState → Key → List ℕ → Option Key → List ℕ
fence_by None m k name owner = codes "refused no-epoch"
fence_by (Some epoch) m k name owner =
    if nat_lt m.names.name_bytes (length name) then codes "refused " ++ refusal_word refusals.NameTooLong
    else (if option_map_or (λ o. key_eq o k) owner false then (codes "fence " ++ decimal epoch) ++ codes " " ++ decimal m.table.totals.accepted else codes "refused " ++ refusal_word refusals.NotOwner)

-- the fence of the name, if this is its owner
abbrev pub fence_text : Hub → Key → List ℕ → Option Key → List ℕ
fence_text h k name owner = if is_live h.manager.table k then fence_by h.options.epoch h.manager k name owner else codes "refused " ++ refusal_word refusals.NoTransaction

abbrev pub FenceText : Hub → Key → List ℕ → List ℕ → Type 0
FenceText h k name out = (owner : Option Key) × ((o : Key) → (owner ≡ Some o) ↔ Owns h.manager o name) × (out ≡ line_text (fence_text h k name owner))

-- ---- numbers

-- the protocol, the epoch, and the numbers of the opening
abbrev pub hello_text : Hub → List ℕ
hello_text h =
    (codes "hello 2 " ++ decimal (unwrap_or h.options.epoch 0)) ++ (codes " " ++ decimal h.manager.table.config.processes) ++ (codes " " ++ decimal h.manager.table.config.resources)
    ++ (codes " " ++ decimal h.manager.names.name_bytes)

-- the totals, the events, and how many are left
abbrev pub counts_text : LockState → List ℕ
counts_text m =
    (codes "counts " ++ decimal m.totals.begun) ++ (codes " " ++ decimal m.totals.committed) ++ (codes " " ++ decimal m.totals.aborted) ++ (codes " " ++ decimal m.totals.deadlocks)
    ++ (codes " " ++ decimal m.totals.waits) ++ (codes " " ++ decimal m.totals.withdrawn) ++ (codes " " ++ decimal m.table.totals.accepted) ++ (codes " " ++ decimal (labels_left m.table m.totals))
    ++ (codes " " ++ decimal (counts_left m.table))

-- ---- the wait-for graph

-- a line for each wait, to connection c
abbrev pub edge_lines : ℕ → LockState → List Wait → List ℕ
edge_lines c m [] = []
edge_lines c m (w ∷ ws) = to c (line_text (edge_text w.key (name_at m w.number) w.holder)) ++ edge_lines c m ws

-- how many wait, and a line for each, to connection c as this one is
abbrev pub graph_text : ℕ → LockState → List ℕ
graph_text c m = line_text (codes "graph " ++ decimal (length (waits_of m.table))) ++ edge_lines c m (waits_of m.table)

-- ---- the live transactions

-- the connection of a transaction, if it has one
abbrev pub connection_text : Option ℕ → List ℕ
connection_text None = codes "-"
connection_text (Some c) = decimal c

-- what a transaction does: one that is set aside is ending
abbrev pub doing_text : Hub → Key → List ℕ
doing_text h k = if is_live h.manager.table k && is_aside h.begun k then codes "ending" else answer_text (status_text h.manager) (status_of h.manager k)

-- a transaction, its connection, and what it does
abbrev pub live_line : Hub → Key → List ℕ
live_line h k = (codes "* " ++ key_text k) ++ codes " " ++ connection_text (connection_of h.begun k) ++ codes " " ++ line_text (doing_text h k)

-- a line for each, to connection c
abbrev pub live_lines : ℕ → Hub → List Key → List ℕ
live_lines c h [] = []
live_lines c h (k ∷ ks) = to c (live_line h k) ++ live_lines c h ks

-- how many are live, and a line for each, to connection c as this one is
abbrev pub list_text : ℕ → Hub → List ℕ
list_text c h = line_text (codes "list " ++ decimal (length (live_of h.manager.table))) ++ live_lines c h (live_of h.manager.table)

-- ---- a read

-- the reply to a read by connection c, without its number in front
abbrev pub ReadReply : ℕ → ReadRequest → List ℕ → Hub → List ℕ → Type 0
ReadReply c (reads.Holds k) from h out = HoldsText h.manager k from out
ReadReply c (reads.Fence k) name h out = FenceText h k name out
ReadReply c (reads.Status k) name h out = out ≡ line_text (doing_text h k)
ReadReply c reads.Hello name h out = out ≡ line_text (hello_text h)
ReadReply c reads.Graph name h out = out ≡ graph_text c h.manager
ReadReply c reads.List name h out = out ≡ list_text c h
ReadReply c reads.Counts name h out = out ≡ line_text (counts_text h.manager)
