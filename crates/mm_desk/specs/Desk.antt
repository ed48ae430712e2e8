-- What a contract sees of a desk, and what holds of any.
use Rattle.std.specs.Prelude.{◌≡◌, ◌/◌, ℕ, List, length, Some, slice_get, slice_index}
use Rattle.mm_arena.specs.declared.key.Key.{Key}
use Rattle.mm_lists.specs.Members.{Among}
use Rattle.mm_names.specs.Names.{name_of}
use Rattle.mm_manager.specs.LockState.{LockState, Owns}
use Rattle.mm_thin.specs.declared.worker.TheConstants.{RECORDS}
use Rattle.mm_thin.specs.declared.views.Lent.{Lent}
use Rattle.mm_thin.specs.declared.views.DeskView.{DeskView}
use Rattle.mm_thin.specs.Spread.{bucket_by}
use Rattle.mm_thin.specs.Parts.{OfficeState}
use Rattle.mm_desk.specs.Books.{BooksState}

pub record DeskState : Type 0 where
  pub manager : LockState
  pub office : OfficeState
  pub keys : List Key

-- the bucket of each name that the manager has a number for, as it has of each that is owned, is fat
abbrev pub AreFat : BooksState → DeskView → Type 0
AreFat books d = (n : ℕ) (name : List ℕ) → name_of books.manager.names n ≡ Some name → Among (bucket_by books.spread name) d.fat

-- a name whose bucket was lent is of that bucket, the record is written down, and its worker's transaction owns the name in the manager
pub record IsAdopted (books : BooksState) (keys : List Key) (lent_to : List ℕ) (l : Lent) : Type 0 where
  pub bucket : l.bucket ≡ bucket_by books.spread l.name
  pub listed : slice_index lent_to l.bucket ≡ l.number
  pub owned : (k : Key) × (slice_get keys (l.number / RECORDS) ≡ Some k) × Owns books.manager k l.name

-- what holds of any desk
pub record IsDesk (books : BooksState) (o : OfficeState) (keys : List Key) (lent_to : List ℕ) : Type 0 where
  pub spread : books.spread ≡ o.of.spread
  pub words : o.of.spread.buckets ≡ o.of.table.words
  pub sized : length lent_to ≡ o.of.table.words
  pub fat : AreFat books o.desk
  pub adopted : (l : Lent) → Among l o.desk.lent → IsAdopted books keys lent_to l
