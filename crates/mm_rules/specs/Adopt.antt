-- Adopt: a transaction becomes the owner of a resource that nobody owns. It is no event of `Event`, since the algorithm does not know it: a caller that keeps owners beside
-- a table makes it before somebody waits for what stands beside it. Nobody waits for the resource, so no wait and no label changes.
use Rattle.std.specs.Prelude.{ℕ, ◌≡◌, Some, None, IsTrue, slice_set}
use Rattle.mm_arena.specs.declared.key.Key.{Key}
use Rattle.mm_rules.specs.TableState.{TableState, is_live, owner_of, graph_of}
use Rattle.mm_rules.specs.Laws.{Laws, AtRest}

-- k owns r
abbrev pub with_owner : TableState → ℕ → Key → TableState
with_owner s r k = record s { owners = slice_set s.owners r (Some k) }

-- k, which is live, and may wait or have a verdict, becomes the owner of r, which nobody owns
pub record Adopts (k : Key) (r : ℕ) (old new : TableState) : Type 0 where
  pub live : IsTrue (is_live old k)
  pub free : owner_of old r ≡ None
  pub state : new ≡ with_owner old r k

-- ---- what is proved of it

-- in any lawful state, it keeps all laws
abbrev pub AdoptKeepsLaws : Type 0
AdoptKeepsLaws = (k : Key) (r : ℕ) (old new : TableState) → Adopts k r old new → Laws old → Laws new

-- no process has another holder, or another label
abbrev pub AdoptKeepsGraph : Type 0
AdoptKeepsGraph = (k : Key) (r : ℕ) (old new : TableState) → Adopts k r old new → Laws old → graph_of new ≡ graph_of old

-- so a table at rest stays at rest
abbrev pub AdoptStaysAtRest : Type 0
AdoptStaysAtRest = (k : Key) (r : ℕ) (old new : TableState) → Adopts k r old new → Laws old → AtRest old → AtRest new
