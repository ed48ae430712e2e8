-- The live key of a process.
use Rattle.std.proofs.Common.{◌≡◌, IfNone, Option, Some, None, refl}
use Rattle.mm_arena.specs.declared.key.Key.{Key}

pub none_told : (X : Type 0) (o : Option Key) → (o ≡ None → X) → IfNone o X
none_told X None told = told refl
none_told X (Some key) told = tt
