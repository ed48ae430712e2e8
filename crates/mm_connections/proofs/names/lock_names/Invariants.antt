use Rattle.std.proofs.Common.{◌≡◌, ◌+◌, Option, length}
use Rattle.mm_lines.specs.WordsLeft.{words_left}
use Rattle.mm_manager.specs.LockState.{LockState}
use Rattle.mm_connections.specs.Names.{LocksNames}
use Rattle.mm_connections.specs.declared.names.Stop.{Stop}
use Rattle.mm_connections.proofs.names.lock_names.Given as goal

-- those before this place are owned: what comes of the others comes of all
abbrev pub invariant-name : goal.invariant-name
invariant-name l = record {
  on : (stop : Option Stop) (new : LockState) → LocksNames l.place l.key (words_left l.names) l.manager stop new → LocksNames 0 l.key (words_left l.initial.names) l.initial.manager stop new;
  place : l.place + length (words_left l.names) ≡ length (words_left l.initial.names);
}
