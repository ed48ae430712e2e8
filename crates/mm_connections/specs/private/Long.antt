-- Lines that are too long are answered to nobody, each like the others.
use Rattle.std.proofs.Common.{◌≡◌, refl, ℕ, ◌<◌, true, false, List, length, length-take, take, cond, ◌-◌, nat_lt, arith}
use Rattle.std.proofs.lemmas.Bool.{lt-ltb}
use Rattle.std.specs.Prelude.{slice_index, ◌==◌}
use Rattle.std.specs.Str.Lines.{strip_carriage_return}
use Rattle.mm_connections.specs.declared.line.Said.TheVariants as said
use Rattle.mm_connections.specs.Line.{said_of, nameless}
use Rattle.mm_connections.specs.Hub.{Hub}
use Rattle.mm_connections.specs.Text.{Answers}

stripped_long : (line : List ℕ) → 1055 < length line → 1054 < length (strip_carriage_return line)
stripped_long line h = elim (slice_index line (length line - 1) == 13) as (λ b. 1054 < length (cond b (take (length line - 1) line) line)) [
  | true ↦ omega (arith, length-take (length line - 1) line)
  | false ↦ omega arith
]

said_of-long : (connections : ℕ) (line : List ℕ) → 1055 < length line → said_of connections line ≡ nameless said.Nobody
said_of-long connections line h =
    let over : nat_lt 1054 (length (strip_carriage_return line)) ≡ true = lt-ltb 1054 (length (strip_carriage_return line)) (stripped_long line h) in
    rw over refl

pub answers_long : (m n : Hub) (a b out : List ℕ) (one : ℕ) → 1055 < length a → 1055 < length b → Answers m a out one n → Answers m b out one n
answers_long m n a b out one long_a long_b h =
    rw (said_of-long m.options.connections b long_b) (rw (said_of-long m.options.connections a long_a) at h)
