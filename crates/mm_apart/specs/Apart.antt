-- What a request of the lock service leaves of the transactions that it does not name.
use Rattle.std.specs.Prelude.{◌≡◌, ◌⊎◌, ℕ, true, List}
use Rattle.mm_arena.specs.declared.key.Key.{Key}
use Rattle.mm_rules.specs.TableState.{is_live}
use Rattle.mm_manager.specs.LockState.{LockState, Owns, Waits, IsLawful}
use Rattle.mm_service.specs.Text.{Replies}
use Rattle.mm_service.specs.declared.effect.Effect.{Effect}
use Rattle.mm_service.specs.declared.line.Request.{Request}
use Rattle.mm_service.specs.declared.line.Request.TheVariants as requests

-- t is live still, it owns what it owned and nothing new but the name that it waited for, and its wait is the same or ended by that grant
pub record IsLeft (old : LockState) (t : Key) (new : LockState) : Type 0 where
  pub live : is_live new.table t ≡ true
  pub owns : (name : List ℕ) → Owns old t name → Owns new t name
  pub gains : (name : List ℕ) → Owns new t name → Owns old t name ⊎ Waits old t name
  pub waited : (name : List ℕ) → Waits old t name → Waits new t name ⊎ Owns new t name
  pub waits : (name : List ℕ) → Waits new t name → Waits old t name

-- the request is of this transaction
abbrev pub IsOfKey : Request → Key → Type 0
IsOfKey requests.Begin t = ⊥
IsOfKey (requests.OfName request k) t = k ≡ t
IsOfKey (requests.OfKey request k) t = k ≡ t
IsOfKey (requests.Holds k) t = k ≡ t
IsOfKey requests.Owner t = ⊥
IsOfKey requests.Graph t = ⊥
IsOfKey requests.Totals t = ⊥

-- so each request leaves each live transaction that it does not name
abbrev pub OthersAreLeft : Type 0
OthersAreLeft = (request : Request) (name reply : List ℕ) (effect : Effect) (old new : LockState) → Replies request name old reply effect new → IsLawful old → IsLawful new
    → (t : Key) → is_live old.table t ≡ true → ¬ IsOfKey request t → IsLeft old t new
