-- Names and owners by number.
use Rattle.std.specs.Prelude.{◌≡◌, ◌↔◌, ℕ, [], None, length, is_some, if◌then◌else◌}
use Rattle.mm_names.specs.Names.{NameTable, name_of, with_name}
use Rattle.mm_rules.specs.declared.reply.Released.{Released}
use Rattle.mm_rules.specs.declared.reply.Released.TheVariants.{Free, To}
use Rattle.mm_rules.specs.TableState.{TableState, owner_of}
use Rattle.mm_manager.specs.LockState.{LockState}
use Rattle.mm_manager.specs.Totals.{nothing_counted}
use Rattle.mm_manager.specs.declared.totals.Totals.{Totals}

-- there is a number for each resource, and one has a name exactly while it has an owner
pub record AreNumbered (s : TableState) (t : NameTable) : Type 0 where
  pub as_many : length t.names ≡ s.config.resources
  pub named : (n : ℕ) → (name_of t n ≡ None) ↔ (owner_of s n ≡ None)

-- the names without that of n, if nobody owns n
abbrev pub forgotten : TableState → NameTable → ℕ → NameTable
forgotten s t n = if is_some (owner_of s n) then t else with_name t n None

-- the names after a release of n was answered so
abbrev pub left_by : Released → NameTable → ℕ → NameTable
left_by Free t n = with_name t n None
left_by (To k) t n = t

-- a manager of these, in which nothing is told
abbrev pub silent : TableState → NameTable → Totals → LockState
silent s t c = record { table = s; names = t; granted = []; totals = c; names_each = 0 }

-- and nothing is counted
abbrev pub bare : TableState → NameTable → LockState
bare s t = silent s t nothing_counted
