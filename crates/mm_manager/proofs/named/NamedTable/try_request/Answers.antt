use Rattle.std.proofs.Common.{◌≡◌, ◌<◌, Some, None, Ok, sym, ap, subst, ◌∙◌}
use Rattle.mm_rules.specs.TableState.{TableState, owner_of}
use Rattle.mm_names.specs.Names.{NameTable, name_of}
use Rattle.mm_settled.specs.Calls.{Locks}
use Rattle.mm_settled.specs.declared.reply.Locked.TheVariants as locked
use Rattle.mm_manager.specs.Calls.{Tries}
use Rattle.mm_manager.specs.private.Numbers.{AreNumbered, bare}
use Rattle.mm_manager.specs.private.Requests.{TryRefusedByNames}
use Rattle.mm_manager.specs.declared.refusal.Refusal.{Refusal}
use Rattle.mm_manager.specs.declared.reply.TryLock.{TryLock}
use Rattle.mm_manager.proofs.Lemmas.Numbers.{some_not_none}
use Rattle.mm_manager.proofs.Lemmas.Requests.{granted_is, free_granted, free_is_new, numbered_granted, owned_is_known, tried_finds, try_refused, if_refused}
use Rattle.mm_manager.proofs.named.NamedTable.try_request.Goals as goal

-- ---- the name gets no number

pub returns-in_err-entry-clause-refused : goal.returns-in_err-entry-clause-refused
returns-in_err-entry-clause-refused c =
    let s = c.args.self.now.table.table in
    let t = c.args.self.now.names in
    if_refused c.from_residual.result c.in_err-entry.field-0.0 (λ (refusal : Refusal). TryRefusedByNames (bare s t) c.args.key c.args.name.now refusal) c.from_residual.ensures
    (try_refused s t c.args.key c.args.name.now c.in_err-entry.field-0.0 c.requires.may c.requires.counted c.in_err-entry.ensures.refused)

-- ---- somebody owns it

owned : (c : goal.After-tried) → owner_of c.args.self.now.table.table c.in_ok-entry.entry.number ≡ Some c.in-Some.holder
owned c = ap (λ (t : TableState). owner_of t c.in_ok-entry.entry.number) (sym c.table.ensures) ∙ (sym c.owner_of.ensures ∙ c.in-Some.is)

known : (c : goal.After-tried) → (name_of c.args.self.now.names c.in_ok-entry.entry.number ≡ Some c.args.name.now) × (c.entry_of.new.names ≡ c.args.self.now.names)
known c =
    owned_is_known c.args.self.now.table.table c.args.self.now.names c.requires.numbered c.entry_of.new.names c.args.name.now c.in_ok-entry.entry.number c.in-Some.holder (owned c) c.in_ok-entry.ensures.interned

pub returns-in-Some-clause-tried : goal.returns-in-Some-clause-tried
returns-in-Some-clause-tried c =
    let s = c.args.self.now.table.table in
    let t = c.args.self.now.names in
    let u = c.entry_of.new.names in
    subst (λ (answer : TryLock). Tries s t c.args.key c.args.name.now answer s u) (sym c.tried.ensures)
    (tried_finds s t u c.args.key c.in-Some.holder c.args.name.now c.in_ok-entry.entry.number (known c).0 (owned c) (known c).1)

pub returns-in-Some-clause-numbered : goal.returns-in-Some-clause-numbered
returns-in-Some-clause-numbered c = subst (λ (v : NameTable). AreNumbered c.args.self.now.table.table v) (sym (known c).1) c.requires.numbered

pub returns-in-Some-clause-named : goal.returns-in-Some-clause-named
returns-in-Some-clause-named c = c.in_ok-entry.ensures.allowed

-- ---- nobody does

pub lock_number-requires : goal.lock_number-requires
lock_number-requires c =
    let s = c.args.self.now.table.table in
    let n = c.in_ok-entry.entry.number in
    let free : owner_of s n ≡ None = ap (λ (t : TableState). owner_of t n) (sym c.table.ensures) ∙ sym c.in_default.ensures in
    let new = free_is_new s c.args.self.now.names c.requires.numbered c.entry_of.new.names c.args.name.now n free c.in_ok-entry.ensures.interned in
    record {
      in_range = subst (λ m. n < m) c.requires.numbered.as_many new.0;
      may = c.requires.may;
      counted = c.requires.counted;
      left = c.requires.left;
      another = λ mine. some_not_none (owner_of s n) c.args.key mine free;
      label = λ h held. absurd (some_not_none (owner_of s n) h held free);
    }

is_free : (c : goal.After-lock_number) → owner_of c.args.self.now.table.table c.in_ok-entry.entry.number ≡ None
is_free c = ap (λ (t : TableState). owner_of t c.in_ok-entry.entry.number) (sym c.table.ensures) ∙ sym c.in_default.ensures

gets : (c : goal.After-lock_number) → Locks c.args.self.now.table.table c.args.key c.in_ok-entry.entry.number (Ok locked.Granted) c.lock_number.new.table.table
gets c = free_granted c.args.self.now.table.table c.lock_number.new.table.table c.args.key c.in_ok-entry.entry.number c.lock_number.result (is_free c) c.lock_number.ensures.locks

pub returns-clause-tried : goal.returns-clause-tried
returns-clause-tried c = (c.in_ok-entry.entry.number, c.in_ok-entry.ensures.interned, gets c)

pub returns-clause-named : goal.returns-clause-named
returns-clause-named c = c.in_ok-entry.ensures.allowed

pub returns-clause-numbered : goal.returns-clause-numbered
returns-clause-numbered c =
    let s = c.args.self.now.table.table in
    let u = c.lock_number.new.table.table in
    numbered_granted s c.args.self.now.names c.requires.numbered c.entry_of.new.names c.args.name.now c.in_ok-entry.entry.number c.is_at_rest.ensures.laws c.args.key u
    (granted_is s u c.args.key c.in_ok-entry.entry.number (gets c)) c.in_ok-entry.ensures.interned
