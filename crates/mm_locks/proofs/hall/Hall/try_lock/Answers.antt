use Rattle.std.proofs.Common.{◌≡◌, Ok, sym, subst, inl, inr, true}
use Rattle.mm_desk.specs.Calls.{TriesAt}
use Rattle.mm_locks.specs.Errors.{of_try}
use Rattle.mm_locks.proofs.Refusals.{tries_refused}
use Rattle.mm_locks.proofs.Owning.{try_granted_owns, try_held_owns}
use Rattle.mm_locks.proofs.hall.Hall.try_lock.Goals as goal

pub granted-requires : goal.granted-requires
granted-requires c = try_granted_owns c.args.self.now.desk c.args.at c.args.name.now c.try_lock.new.self (subst (λ a. TriesAt c.args.self.now.desk c.args.at c.args.name.now (Ok a) c.try_lock.new.self) c.in-Ok-Granted.field-0-is c.in-Ok-Granted.ensures)

pub granted-requires-in-Ok-Held : goal.granted-requires-in-Ok-Held
granted-requires-in-Ok-Held c = try_held_owns c.args.self.now.desk c.args.at c.args.name.now c.try_lock.new.self (subst (λ a. TriesAt c.args.self.now.desk c.args.at c.args.name.now (Ok a) c.try_lock.new.self) c.in-Ok-Held.field-0-is c.in-Ok-Held.ensures)

pub returns-in-Ok-Busy-clause-tries : goal.returns-in-Ok-Busy-clause-tries
returns-in-Ok-Busy-clause-tries c = (c.in-Ok-Busy.field-0-0, subst (λ a. TriesAt c.args.self.now.desk c.args.at c.args.name.now (Ok a) c.try_lock.new.self) c.in-Ok-Busy.field-0-is c.in-Ok-Busy.ensures)

pub returns-in-Ok-Granted-clause-tries : goal.returns-in-Ok-Granted-clause-tries
returns-in-Ok-Granted-clause-tries c = inl (subst (λ a. TriesAt c.args.self.now.desk c.args.at c.args.name.now (Ok a) c.try_lock.new.self) c.in-Ok-Granted.field-0-is c.in-Ok-Granted.ensures)

pub returns-in-Ok-Held-clause-tries : goal.returns-in-Ok-Held-clause-tries
returns-in-Ok-Held-clause-tries c = inr (subst (λ a. TriesAt c.args.self.now.desk c.args.at c.args.name.now (Ok a) c.try_lock.new.self) c.in-Ok-Held.field-0-is c.in-Ok-Held.ensures)

pub returns-in-Err-clause-refused : goal.returns-in-Err-clause-refused
returns-in-Err-clause-refused c = subst (λ e. of_try e ≡ true) (sym c.of_refusal.ensures) (tries_refused c.args.self.now.desk c.args.at c.args.name.now c.in-Err.refusal c.try_lock.new.self c.in-Err.ensures)
