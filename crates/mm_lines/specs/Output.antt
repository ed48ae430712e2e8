-- What the contracts of writing functions say of the bytes that are written, kept or lost.
use Rattle.std.specs.Prelude.{◌≡◌, ℕ, ◌≤◌, List, ◌++◌, length, Option}
use Rattle.std.specs.Io.KnownBytes.{Appends}

-- bytes are written to a writer that held some, and those that are lost are left
pub record Writes (before after : Option (List ℕ)) (bytes lost : List ℕ) : Type 0 where
  pub written : List ℕ
  pub appended : Appends before after written
  pub whole : bytes ≡ written ++ lost

-- the text, of at most this many bytes, is added at the end
pub record Prints (old text : List ℕ) (most : ℕ) (new : List ℕ) : Type 0 where
  pub added : new ≡ old ++ text
  pub short : length text ≤ most
