-- What a contract sees of the bytes that are read and not yet answered.
use Rattle.std.specs.Prelude.{◌≡◌, ℕ, ◌+◌, ◌-◌, ◌≤◌, ◌<◌, ◌^◌, Bool, List, [], ◌++◌, length, take, drop, Option, MatchBool}
use Rattle.std.specs.Io.KnownBytes.{Consumes, IsAtEnd}
use Rattle.mm_lines.specs.declared.input.Limits.{Limits}

pub record InputState : Type 0 where
  pub held : List ℕ  -- the bytes that are held
  pub taken : ℕ  -- how many bytes were read in all
  pub limits : Limits

-- nothing is read yet
abbrev pub unread : Limits → InputState
unread limits = record { held = []; taken = 0; limits = limits }

-- a longest line and a byte more can be held, and one byte past the limit can be counted
pub record AreLimits (limits : Limits) : Type 0 where
  pub line : limits.line + 1 < 32768
  pub input : limits.input + 1 < 2 ^ 64

-- the bytes that are held begin within those that are there
pub record IsWithin (start len : ℕ) (limits : Limits) : Type 0 where
  pub begins : start ≤ len
  pub fits : len ≤ 32768
  pub are_limits : AreLimits limits

-- a read gave a piece, or was at the end; what was held is cut short if it is too long for a line, and what is past the limit is not held
pub record Reads (before after : Option (List ℕ)) (old new : InputState) (some : Bool) : Type 0 where
  pub piece : List ℕ
  pub consumed : Consumes before after piece
  pub held : new.held ≡ take (old.limits.line + 1) old.held ++ take (old.limits.input - old.taken) piece
  pub taken : new.taken ≡ old.taken + length piece
  pub limits : new.limits ≡ old.limits
  pub one_past : new.taken ≤ new.limits.input + 1
  pub end : MatchBool some (0 < length piece) ((piece ≡ []) × IsAtEnd after)

-- this many bytes at the front are removed
abbrev pub without_front : InputState → ℕ → InputState
without_front input count = record input { held = drop count input.held }
