-- Tests of bytes.
use Rattle.std.specs.Prelude.{ℕ, Bool, not, nat_eq}

abbrev pub is : ℕ → ℕ → Bool
is byte b = nat_eq b byte

abbrev pub is_not : ℕ → ℕ → Bool
is_not byte b = not (nat_eq b byte)
