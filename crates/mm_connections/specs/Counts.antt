-- How many transactions of each connection are live.
use Rattle.std.specs.Prelude.{ℕ, ◌+◌, ◌-◌, List, Option, Some, None, Result, Ok, Err, slice_index_or, slice_set}
use Rattle.mm_tagged_lists.specs.TaggedLists.{Listing}
use Rattle.mm_manager.specs.declared.refusal.Refusal.{Refusal}
use Rattle.mm_service.specs.declared.effect.Effect.{Effect}
use Rattle.mm_service.specs.declared.effect.Effect.TheVariants as effects
use Rattle.mm_connections.specs.Begun.{connection_of}

abbrev pub count_at : List ℕ → ℕ → ℕ
count_at counts c = slice_index_or counts c 0

-- connection c has one more
abbrev pub one_more : List ℕ → ℕ → List ℕ
one_more counts c = slice_set counts c (count_at counts c + 1)

-- connection c has one fewer
abbrev pub one_fewer : List ℕ → ℕ → List ℕ
one_fewer counts c = slice_set counts c (count_at counts c - 1)

-- the same of a connection, if there is one
abbrev pub fewer : List ℕ → Option ℕ → List ℕ
fewer counts None = counts
fewer counts (Some c) = one_fewer counts c

-- connection c has one fewer, if the end was not refused
abbrev pub after_end : Result (Unit {0}) Refusal → List ℕ → ℕ → List ℕ
after_end (Ok done) counts c = one_fewer counts c
after_end (Err refusal) counts c = counts

-- the counts after a request that came to this
abbrev pub counted : Listing → List ℕ → Effect → List ℕ
counted begun counts (effects.Ended k) = fewer counts (connection_of begun k)
counted begun counts _ = counts
