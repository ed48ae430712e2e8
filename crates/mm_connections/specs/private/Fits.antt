-- Which transactions end by a line.
use Rattle.std.specs.Prelude.{ℕ, ◌<◌, List, [], ◌∷◌, ⊤}
use Rattle.mm_connections.specs.Hub.{Hub}
use Rattle.mm_connections.specs.Text.{names_at}

-- none of these slots is left, or the transaction of the first one owns more than so many names
abbrev pub NoneFits : ℕ → Hub → List ℕ → Type 0
NoneFits left h [] = ⊤
NoneFits left h (p ∷ ps) = left < names_at h p
