-- Where the first such byte stands.
use Rattle.std.proofs.Common.{◌≡◌, ℕ, List, length, Some, None, arith}
use Rattle.std.proofs.lemmas.Bool.{false_from_ne_true}
use Rattle.std.proofs.lemmas.List.Sums.{position_or_len_is}
use Rattle.std.specs.List.{position_or_len}
use Rattle.memchr.specs.Find.{is_byte, IsFirstByte}
use Rattle.mm_lines.specs.Cut.{is}

pub position-none : (byte : ℕ) (bytes : List ℕ) → IsFirstByte (is_byte byte) bytes None → position_or_len (is byte) bytes ≡ length bytes
position-none byte bytes h =
    position_or_len_is (is byte) bytes (length bytes) 0 (omega arith) (λ k l. false_from_ne_true _ (h k (omega arith) l)) (λ l. absurd (omega arith))

pub position-some : (byte : ℕ) (bytes : List ℕ) (at : ℕ) → IsFirstByte (is_byte byte) bytes (Some at) → position_or_len (is byte) bytes ≡ at
position-some byte bytes at h =
    position_or_len_is (is byte) bytes at 0 (omega (arith, h.0.high)) (λ k l. false_from_ne_true _ (h.0.before k (omega arith) l)) (λ l. h.1)
