use Rattle.std.proofs.Common.{◌≡◌, Ok, refl, sym, subst, inl, inr, true}
use Rattle.mm_desk.specs.Calls.{AsksAt}
use Rattle.mm_locks.specs.Errors.{of_lock}
use Rattle.mm_locks.proofs.Refusals.{asks_refused}
use Rattle.mm_locks.proofs.Owning.{granted_owns, held_owns}
use Rattle.mm_locks.proofs.hall.Hall.ask.Goals as goal

pub granted-requires : goal.granted-requires
granted-requires c = granted_owns c.args.self.now.desk c.args.at c.args.name.now c.ask.new.self (subst (λ a. AsksAt c.args.self.now.desk c.args.at c.args.name.now (Ok a) c.ask.new.self) c.in-Ok-Granted.field-0-is c.in-Ok-Granted.ensures)

pub granted-requires-in-Ok-Held : goal.granted-requires-in-Ok-Held
granted-requires-in-Ok-Held c = held_owns c.args.self.now.desk c.args.at c.args.name.now c.ask.new.self (subst (λ a. AsksAt c.args.self.now.desk c.args.at c.args.name.now (Ok a) c.ask.new.self) c.in-Ok-Held.field-0-is c.in-Ok-Held.ensures)

pub returns-in-Ok-Waits-clause-asks : goal.returns-in-Ok-Waits-clause-asks
returns-in-Ok-Waits-clause-asks c = (c.in-Ok-Waits.field-0-0, subst (λ a. AsksAt c.args.self.now.desk c.args.at c.args.name.now (Ok a) c.ask.new.self) c.in-Ok-Waits.field-0-is c.in-Ok-Waits.ensures)

pub returns-in-Ok-Deadlock-clause-asks : goal.returns-in-Ok-Deadlock-clause-asks
returns-in-Ok-Deadlock-clause-asks c = inl (refl, (c.in-Ok-Deadlock.field-0-0, subst (λ a. AsksAt c.args.self.now.desk c.args.at c.args.name.now (Ok a) c.ask.new.self) c.in-Ok-Deadlock.field-0-is c.in-Ok-Deadlock.ensures))

pub returns-in-Ok-Granted-clause-asks : goal.returns-in-Ok-Granted-clause-asks
returns-in-Ok-Granted-clause-asks c = inl (subst (λ a. AsksAt c.args.self.now.desk c.args.at c.args.name.now (Ok a) c.ask.new.self) c.in-Ok-Granted.field-0-is c.in-Ok-Granted.ensures)

pub returns-in-Ok-Held-clause-asks : goal.returns-in-Ok-Held-clause-asks
returns-in-Ok-Held-clause-asks c = inr (subst (λ a. AsksAt c.args.self.now.desk c.args.at c.args.name.now (Ok a) c.ask.new.self) c.in-Ok-Held.field-0-is c.in-Ok-Held.ensures)

pub returns-in-Err-clause-refused : goal.returns-in-Err-clause-refused
returns-in-Err-clause-refused c = subst (λ e. of_lock e ≡ true) (sym c.of_refusal.ensures) (asks_refused c.args.self.now.desk c.args.at c.args.name.now c.in-Err.refusal c.ask.new.self c.in-Err.ensures)
