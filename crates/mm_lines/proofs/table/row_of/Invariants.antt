use Rattle.std.proofs.Common.{◌≡◌, map, drop}
use Rattle.std.specs.Map.{lookup}
use Rattle.std.specs.Str.{bytes_eq}
use Rattle.mm_lines.proofs.table.row_of.Given as goal

-- the word is none of those before
abbrev pub invariant-loop-text : goal.invariant-loop-text
invariant-loop-text g l = lookup (bytes_eq l.word) (map (λ row. (row.0.now, row.1)) l.rows) ≡ lookup (bytes_eq l.word) (map (λ row. (row.0.now, row.1)) (drop l.text-index l.rows))
