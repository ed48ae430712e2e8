-- After which events a table is at rest without a settle.
use Rattle.std.specs.Prelude.{ℕ, ◌≡◌, Result}
use Rattle.mm_rules.specs.declared.config.Config.{Config}
use Rattle.mm_rules.specs.declared.refusal.Refusal.{Refusal}
use Rattle.mm_rules.specs.TableState.{TableState, IsWide, opening, public_of, graph_of}
use Rattle.mm_rules.specs.Event.{Event, Answer, Step}
use Rattle.mm_rules.specs.Graph.{WaitsFor}
use Rattle.mm_rules.specs.Laws.{Laws, AtRest}

-- each holder shows the label that it showed before
abbrev pub HoldersShowTheSame : TableState → TableState → Type 0
HoldersShowTheSame old new = (n h : ℕ) → WaitsFor (graph_of new) n h → public_of new h ≡ public_of old h

-- a table that was just opened is at rest
abbrev pub OpeningIsAtRest : Type 0
OpeningIsAtRest = (c : Config) → IsWide c → AtRest (opening c)

-- and it stays at rest by each event after which each holder shows the label that it showed before
abbrev pub RestStays : Type 0
RestStays = (e : Event) (old new : TableState) (reply : Result (Answer e) Refusal) → Step e old reply new → Laws old → AtRest old → HoldersShowTheSame old new → AtRest new
