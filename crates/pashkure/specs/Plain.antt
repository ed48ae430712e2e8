-- What the records of the header stand for.
use Rattle.std.specs.Prelude.{ℕ}
use Rattle.mm_arena.specs.declared.key.Key.{Key}
use Rattle.mm_manager.specs.declared.config.ManagerConfig.{ManagerConfig}
use Rattle.mm_manager.specs.declared.reply.Status.{Status}
use Rattle.mm_manager.specs.declared.reply.Status.TheVariants as status
use Rattle.mm_manager.specs.declared.totals.Totals.{Totals}
use Rattle.mm_settled.specs.declared.reply.Grant.{Grant}
use Rattle.pashkure.specs.declared.plain.PlainConfig.{PlainConfig}
use Rattle.pashkure.specs.declared.plain.PlainKey.{PlainKey}
use Rattle.pashkure.specs.declared.plain.PlainWake.{PlainWake}
use Rattle.pashkure.specs.declared.plain.PlainSeen.{PlainSeen}
use Rattle.pashkure.specs.declared.plain.PlainCounts.{PlainCounts}

abbrev pub config_of : PlainConfig → ManagerConfig
config_of c = record { transactions = c.transactions; names = c.names; name_bytes = c.name_bytes; names_each = c.names_each; seed = c.seed }

abbrev pub key_of : PlainKey → Key
key_of k = record { process = k.slot; generation = k.generation }

abbrev pub plain_key : Key → PlainKey
plain_key k = record { slot = k.process; generation = k.generation }

-- no transaction
abbrev pub no_key : PlainKey
no_key = record { slot = 0; generation = 0 }

-- it was given the name
abbrev pub plain_wake : Grant → PlainWake
plain_wake g = record { key = plain_key g.key; number = g.resource }

abbrev pub seen : Key → PlainKey → ℕ → PlainSeen
seen k h n = record { key = plain_key k; holder = h; number = n }

-- a live transaction, and what it does
abbrev pub plain_seen : Key → Status → PlainSeen
plain_seen k status.Active = seen k no_key 0
plain_seen k (status.Waiting n h) = seen k (plain_key h) n

abbrev pub counts_of : Totals → ℕ → PlainCounts
counts_of t accepted = record { begun = t.begun; committed = t.committed; aborted = t.aborted; deadlocks = t.deadlocks; waits = t.waits; withdrawn = t.withdrawn; events = accepted; reserved = 0 }
