-- What a transaction that began asks for.
use Rattle.std.specs.Prelude.{◌≡◌, ℕ, List, Option}
use Rattle.mm_arena.specs.declared.key.Key.{Key}
use Rattle.mm_service.specs.declared.effect.Effect.{Effect}
use Rattle.mm_service.specs.Reply.{line_text}
use Rattle.mm_connections.specs.Hub.{Hub}
use Rattle.mm_connections.specs.Names.{LocksNames, begun_with_text, stop_effect}
use Rattle.mm_connections.specs.declared.names.Stop.{Stop}

-- k asks for these names, and is told so
abbrev pub BeginsWith : Key → List (List ℕ) → Hub → List ℕ → Effect → Hub → Type 0
BeginsWith k names old reply effect new =
    (stop : Option Stop) × LocksNames 0 k names old.manager stop new.manager × (reply ≡ line_text (begun_with_text new.manager k stop)) × (effect ≡ stop_effect k stop)
    × (new ≡ record old { manager = new.manager })
