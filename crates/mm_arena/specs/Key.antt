-- What a contract sees of a `Key`.
use Rattle.std.specs.Prelude.{ℕ, List, ◌++◌, codes}
use Rattle.std.specs.Fmt.{decimal}
use Rattle.mm_arena.specs.declared.key.Key.{Key}

-- process.generation, both in decimal
abbrev pub key_text : Key → List ℕ
key_text key = decimal key.process ++ codes "." ++ decimal key.generation
