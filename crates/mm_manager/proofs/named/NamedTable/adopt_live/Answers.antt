use Rattle.std.proofs.Common.{◌≡◌, ◌<◌, Some, None, sym, ap, subst, ◌∙◌}
use Rattle.mm_rules.specs.TableState.{TableState, owner_of}
use Rattle.mm_names.specs.Names.{NameTable, name_of}
use Rattle.mm_manager.specs.Calls.{AdoptsNumber}
use Rattle.mm_manager.specs.private.Numbers.{AreNumbered, bare}
use Rattle.mm_manager.specs.Refused.{AdoptRefused}
use Rattle.mm_manager.specs.declared.refusal.Refusal.{Refusal}
use Rattle.mm_manager.specs.declared.reply.TryLock.{TryLock}
use Rattle.mm_manager.proofs.Lemmas.Adopted.{adopted_is}
use Rattle.mm_manager.proofs.Lemmas.May.{may_own_is}
use Rattle.mm_manager.proofs.Lemmas.Requests.{free_is_new, numbered_granted, owned_is_known, adoption_finds, adoption_refused, if_refused}
use Rattle.mm_manager.proofs.named.NamedTable.adopt_live.Goals as goal

-- ---- the name gets no number

pub returns-in_err-entry-clause-refused : goal.returns-in_err-entry-clause-refused
returns-in_err-entry-clause-refused c =
    let s = c.args.self.now.table.table in
    let t = c.args.self.now.names in
    if_refused c.from_residual.result c.in_err-entry.field-0.0 (λ (refusal : Refusal). AdoptRefused (bare s t) c.args.key c.args.name.now refusal) c.from_residual.ensures
    (adoption_refused s t c.args.key c.args.name.now c.in_err-entry.field-0.0 c.requires.may c.in_err-entry.ensures.refused)

-- ---- somebody owns it

owned : (c : goal.After-tried) → owner_of c.args.self.now.table.table c.in_ok-entry.entry.number ≡ Some c.in-Some.holder
owned c = ap (λ (t : TableState). owner_of t c.in_ok-entry.entry.number) (sym c.table.ensures) ∙ (sym c.owner_of.ensures ∙ c.in-Some.is)

known : (c : goal.After-tried) → (name_of c.args.self.now.names c.in_ok-entry.entry.number ≡ Some c.args.name.now) × (c.entry_of.new.names ≡ c.args.self.now.names)
known c =
    owned_is_known c.args.self.now.table.table c.args.self.now.names c.requires.numbered c.entry_of.new.names c.args.name.now c.in_ok-entry.entry.number c.in-Some.holder (owned c) c.in_ok-entry.ensures.interned

pub returns-in-Some-clause-adopted : goal.returns-in-Some-clause-adopted
returns-in-Some-clause-adopted c =
    let s = c.args.self.now.table.table in
    let t = c.args.self.now.names in
    let u = c.entry_of.new.names in
    subst (λ (answer : TryLock). AdoptsNumber s t c.args.key c.args.name.now answer s u) (sym c.tried.ensures)
    (adoption_finds s t u c.args.key c.in-Some.holder c.args.name.now c.in_ok-entry.entry.number (known c).0 (owned c) (known c).1)

pub returns-in-Some-clause-numbered : goal.returns-in-Some-clause-numbered
returns-in-Some-clause-numbered c = subst (λ (v : NameTable). AreNumbered c.args.self.now.table.table v) (sym (known c).1) c.requires.numbered

pub returns-in-Some-clause-named : goal.returns-in-Some-clause-named
returns-in-Some-clause-named c = c.in_ok-entry.ensures.allowed

-- ---- nobody does

pub adopt-requires : goal.adopt-requires
adopt-requires c =
    let s = c.args.self.now.table.table in
    let n = c.in_ok-entry.entry.number in
    let free : owner_of s n ≡ None = ap (λ (t : TableState). owner_of t n) (sym c.table.ensures) ∙ sym c.in_default.ensures in
    let new = free_is_new s c.args.self.now.names c.requires.numbered c.entry_of.new.names c.args.name.now n free c.in_ok-entry.ensures.interned in
    record { live = (may_own_is s c.args.key c.requires.may).0; resource = subst (λ m. n < m) c.requires.numbered.as_many new.0; free = free }

pub returns-clause-adopted : goal.returns-clause-adopted
returns-clause-adopted c = (c.in_ok-entry.entry.number, c.in_ok-entry.ensures.interned, c.adopt.ensures.adopts)

pub returns-clause-named : goal.returns-clause-named
returns-clause-named c = c.in_ok-entry.ensures.allowed

pub returns-clause-numbered : goal.returns-clause-numbered
returns-clause-numbered c =
    let s = c.args.self.now.table.table in
    let u = c.adopt.new.self.table in
    let n = c.in_ok-entry.entry.number in
    numbered_granted s c.args.self.now.names c.requires.numbered c.entry_of.new.names c.args.name.now n c.is_at_rest.ensures.laws c.args.key u
    (adopted_is s u c.args.key n c.adopt.ensures.adopts) c.in_ok-entry.ensures.interned
