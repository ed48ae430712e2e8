-- The links of each place, and writes of them.
use Rattle.std.specs.Prelude.{ℕ, List, Option, None, Some, slice_get, slice_set}
use Rattle.std.specs.Option.{option_and_then}
use Rattle.mm_links.specs.declared.links.Links.{Links}

-- linked to nothing
abbrev pub unlinked : Links
unlinked = record { before = None; next = None }

-- what comes before a place
abbrev pub before_of : List Links → ℕ → Option ℕ
before_of links place = option_and_then (λ l. l.before) (slice_get links place)

-- what follows a place
abbrev pub next_of : List Links → ℕ → Option ℕ
next_of links place = option_and_then (λ l. l.next) (slice_get links place)

-- with this before a place, if there is one
abbrev pub with_before : List Links → Option ℕ → Option ℕ → List Links
with_before links None before = links
with_before links (Some place) before =
    slice_set links place (record { before = before; next = next_of links place })

-- with this after a place, if there is one
abbrev pub with_next : List Links → Option ℕ → Option ℕ → List Links
with_next links None next = links
with_next links (Some place) next =
    slice_set links place (record { before = before_of links place; next = next })

-- the links with a place put before this first one of a list
abbrev pub put_first : List Links → ℕ → Option ℕ → List Links
put_first links place first =
    with_before (slice_set links place (record { before = None; next = first })) first (Some place)

-- the links with a place, which had these, taken out, and its neighbours linked to each other
abbrev pub taken_out : List Links → ℕ → Links → List Links
taken_out links place had =
    with_before (with_next (slice_set links place unlinked) had.before had.next) had.next had.before
