-- What hand-overs leave of owners and waits, by number.
use Rattle.std.specs.Prelude.{◌≡◌, ◌≢◌, ◌⊎◌, ℕ, List, Some, None}
use Rattle.mm_arena.specs.declared.key.Key.{Key}
use Rattle.mm_lists.specs.Members.{Among}
use Rattle.mm_rules.specs.TableState.{TableState, owner_of, wait_of}
use Rattle.mm_settled.specs.declared.reply.Grant.{Grant}

-- from s to u, in a call of process n, which waits no longer, a transaction that loses a number does not own it, `granted` are the waits that ended, and all else stays
pub record HandsDown (s : TableState) (n : ℕ) (Loses : ℕ → Key → Type 0) (granted : List Grant) (u : TableState) : Type 0 where
  pub config : u.config ≡ s.config
  pub keeps : (q : ℕ) (h : Key) → owner_of s q ≡ Some h → ¬ Loses q h → owner_of u q ≡ Some h
  pub gains : (q : ℕ) (h : Key) → owner_of u q ≡ Some h → (owner_of s q ≡ Some h) ⊎ Among (record { key = h; resource = q }) granted
  pub waits : (m q : ℕ) → wait_of u m ≡ Some q → wait_of s m ≡ Some q
  pub ended : (m q : ℕ) → m ≢ n → wait_of s m ≡ Some q → (wait_of u m ≡ Some q) ⊎ ((g : Grant) × Among g granted × (g.key.process ≡ m) × (g.resource ≡ q))
  pub waited : (g : Grant) → Among g granted → wait_of s g.key.process ≡ Some g.resource
  pub goes_on : (g : Grant) → Among g granted → wait_of u g.key.process ≡ None
  pub owns : (g : Grant) → Among g granted → ¬ Loses g.resource g.key → owner_of u g.resource ≡ Some g.key
  pub lost : (q : ℕ) (h : Key) → Loses q h → ¬ (owner_of u q ≡ Some h)
  pub own : wait_of u n ≡ None

-- a transaction that loses its numbers by an end is the one that ends
abbrev pub IsEnding : Key → ℕ → Key → Type 0
IsEnding k q h = h ≡ k

-- a transaction that loses a number by a release is the one that releases it
abbrev pub IsReleased : Key → ℕ → ℕ → Key → Type 0
IsReleased k r q h = (h ≡ k) × (q ≡ r)
