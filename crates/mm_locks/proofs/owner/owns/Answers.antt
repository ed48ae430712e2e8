use Rattle.std.proofs.Common.{Some, sym, ap, ◌∙◌, ◌≡◌}
use Rattle.mm_locks.proofs.Keys.{same_key, key_itself}
use Rattle.mm_locks.proofs.owner.owns.Goals as goal

pub returns-in-Some : goal.returns-in-Some
returns-in-Some c = (
  λ is. (c.owner.ensures c.args.key).0 (c.in-Some.is ∙ ap Some (same_key c.in-Some.owner c.args.key (sym c.eq.ensures ∙ is))),
  λ owns. (let same : c.in-Some.owner ≡ c.args.key = cc (c.in-Some.is, (c.owner.ensures c.args.key).1 owns) in c.eq.ensures ∙ rw same (key_itself c.args.key)),
)

pub returns-in-None : goal.returns-in-None
returns-in-None c = (λ is. absurd (cc is), λ owns. absurd (cc (c.in-None.is, (c.owner.ensures c.args.key).1 owns)))
