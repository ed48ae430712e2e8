use Rattle.std.proofs.Common.{refl, inl}
use Rattle.mm_desk.proofs.desk.Desk.try_named.Goals as goal

pub returns-in-Ok : goal.returns-in-Ok
returns-in-Ok c = inl (
  c.adopt_name.new.self,
  (c.adopt_name.ensures.keeps, c.in-Fat.ensures.adopts),
  (c.attempt_at.new.self, c.in-Ok.ensures.tries, c.attempt_at.ensures.rest.0, c.attempt_at.ensures.rest.1, refl),
)

pub returns-in-Err : goal.returns-in-Err
returns-in-Err c = inl (
  c.adopt_name.new.self,
  (c.adopt_name.ensures.keeps, c.in-Fat.ensures.adopts),
  (c.attempt_at.new.self, c.in-Err.ensures.tries, c.attempt_at.ensures.rest.0, c.attempt_at.ensures.rest.1, c.free_name.ensures.keeps),
)
