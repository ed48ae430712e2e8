use Rattle.std.proofs.Common.{◌∙◌, sym, ap, take, arith}
use Rattle.std.proofs.lemmas.Grind.{common_steps}
use Rattle.mm_lines.proofs.Lemmas.Cut.{position-none, position-some}
use Rattle.mm_lines.proofs.cut.split_once.Goals as goal

pub returns-in_err-memchr-clause-none : goal.returns-in_err-memchr-clause-none
returns-in_err-memchr-clause-none c = rw c.from_residual.ensures (position-none _ _ c.in_err-memchr.ensures)

pub returns-clause-some : goal.returns-clause-some
returns-clause-some c = omega (arith, position-some _ _ _ c.in_ok-memchr.ensures, c.in_ok-memchr.ensures.0.high)

pub returns-clause-before : goal.returns-clause-before
returns-clause-before c = c.split_at.ensures.front ∙ ap (λ n. take n c.args.bytes.now) (sym (position-some _ _ _ c.in_ok-memchr.ensures))

pub returns-clause-after : goal.returns-clause-after
returns-clause-after c = grind (arith, common_steps, position-some _ _ _ c.in_ok-memchr.ensures)
