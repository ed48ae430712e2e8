use Rattle.std.proofs.Common.{◌≡◌, ◌+◌, ◌-◌, ◌≤◌, ℕ, List, [], length}
use Rattle.mm_lines.specs.Lines.{IsOpen}
use Rattle.mm_lines.specs.Output.{Writes}
use Rattle.mm_lines.proofs.Lemmas.Reached.{Reached}
use Rattle.mm_lines.proofs.server.serve_all.Given as goal

-- replies are written, or kept
abbrev pub invariant-loop-line : goal.invariant-loop-line
invariant-loop-line g l = record {
  replies : List ℕ;
  so_far : Reached g.A.Answerer.answers g.A.Answerer.LIMITS l.fn.answerer (g.R.Read.remaining l.fn.reader) (g.R.Read.remaining l.reader) l.input replies l.malformed l.answerer;
  writes : Writes (g.W.Write.contents l.fn.writer) (g.W.Write.contents l.writer) replies l.output.items;
  few : l.malformed + length l.input.held ≤ l.input.taken;
  taken : l.input.taken ≡ l.initial.input.taken;
}

abbrev pub decreases-loop-line : goal.decreases-loop-line
decreases-loop-line g l = length l.input.held

-- before a read all replies are written, and an open line is held
abbrev pub invariant-loop-input : goal.invariant-loop-input
invariant-loop-input g l = record {
  replies : List ℕ;
  so_far : Reached g.A.Answerer.answers g.A.Answerer.LIMITS l.fn.answerer (g.R.Read.remaining l.fn.reader) (g.R.Read.remaining l.reader) l.input replies l.malformed l.answerer;
  writes : Writes (g.W.Write.contents l.fn.writer) (g.W.Write.contents l.writer) replies [];
  none_kept : l.output.items ≡ [];
  few : l.malformed + length l.input.held ≤ l.input.taken;
  within : l.input.taken ≤ g.A.Answerer.LIMITS.input;
  open_line : IsOpen l.input.held;
}

-- how many bytes may still come
abbrev pub decreases-loop-input : goal.decreases-loop-input
decreases-loop-input g l = g.A.Answerer.LIMITS.input + 1 - l.input.taken
