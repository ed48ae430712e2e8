use Rattle.std.proofs.Common.{◌≡◌, ◌<◌, Some, Err, true, false, inl, inr, sym, ◌∙◌, refl, subst, ap, is_some}
use Rattle.mm_names.specs.Names.{NameTable, name_of, with_name, IsFree, IsNamed}
use Rattle.mm_names.proofs.Lemmas.Index.{some_in_range}
use Rattle.mm_manager.specs.Permit.{first_refusal}
use Rattle.mm_manager.specs.private.Numbers.{AreNumbered}
use Rattle.mm_manager.specs.private.Requests.{may_ask_more}
use Rattle.mm_manager.proofs.Lemmas.Answered.{new_requested, new_numbered, named_requested, named_numbered, number_refused}
use Rattle.mm_manager.proofs.Lemmas.Requests.{interned_name}
use Rattle.mm_manager.proofs.named.NamedTable.lock.Goals as goal

-- ---- the name is new

fresh : (c : goal.After-request_new) → ¬ IsNamed c.args.self.now.names c.args.name.now
fresh c = c.in-Ok.ensures.new.0 c.if-is_new.true

given : (c : goal.After-request_new) → IsFree c.args.self.now.names c.in-Ok.field-0.number × (c.entry_of.new.names ≡ with_name c.args.self.now.names c.in-Ok.field-0.number (Some c.args.name.now))
given c = elim c.in-Ok.ensures.interned [
  | inl known ↦ absurd (fresh c (c.in-Ok.field-0.number, known.0))
  | inr new ↦ (new.1, new.2)
]

pub returns-in-Ok-clause-requested : goal.returns-in-Ok-clause-requested
returns-in-Ok-clause-requested c =
    new_requested c.args.self.now.table.table c.request_new.new.self.table.table c.args.self.now.names c.entry_of.new.names c.args.totals.now c.args.key c.args.name.now c.in-Ok.field-0.number c.in-Ok.ensures.allowed
    c.request_new.new.self.names (fresh c) (given c).0 (given c).1 c.request_new.result c.request_new.ensures.answers

pub returns-in-Ok-clause-numbered : goal.returns-in-Ok-clause-numbered
returns-in-Ok-clause-numbered c =
    new_numbered c.args.self.now.table.table c.request_new.new.self.table.table c.args.self.now.names c.entry_of.new.names c.args.totals.now c.args.key c.args.name.now c.in-Ok.field-0.number c.in-Ok.ensures.allowed
    c.request_new.new.self.names (fresh c) (given c).0 (given c).1 c.requires.sound.numbered c.is_at_rest.ensures.laws c.request_new.result c.request_new.ensures.answers

-- ---- the name has a number

known : (c : goal.After-request_named) → (name_of c.args.self.now.names c.in-Ok.field-0.number ≡ Some c.args.name.now) × (c.entry_of.new.names ≡ c.args.self.now.names)
known c = elim c.in-Ok.ensures.interned [
  | inl is ↦ is
  | inr new ↦ (let never : false ≡ true = sym c.if-is_new.false ∙ c.in-Ok.ensures.new.1 new.0 in absurd (cc))
]

pub returns-in-Ok-2-clause-requested : goal.returns-in-Ok-2-clause-requested
returns-in-Ok-2-clause-requested c =
    named_requested c.args.self.now.table.table c.request_named.new.table.table c.args.self.now.names c.entry_of.new.names c.args.totals.now c.args.key c.args.name.now c.in-Ok.field-0.number c.in-Ok.ensures.allowed
    (known c).0 (known c).1 c.request_named.result c.request_named.ensures

pub returns-in-Ok-2-clause-numbered : goal.returns-in-Ok-2-clause-numbered
returns-in-Ok-2-clause-numbered c =
    named_numbered c.args.self.now.table.table c.request_named.new.table.table c.args.self.now.names c.entry_of.new.names c.args.totals.now c.args.key c.args.name.now c.in-Ok.field-0.number c.in-Ok.ensures.allowed
    (known c).0 (known c).1 c.requires.sound.numbered c.is_at_rest.ensures.laws c.request_named.result c.request_named.ensures

-- ---- the name gets no number

pub returns-in-Err-clause-requested : goal.returns-in-Err-clause-requested
returns-in-Err-clause-requested c = (
  number_refused c.args.self.now.table.table c.args.self.now.names c.args.totals.now c.args.key c.args.name.now c.in-Err.refusal c.refused_first.result c.in-Err.ensures.refused
      (subst (λ t. Err c.refused_first.result ≡ first_refusal (may_ask_more t c.args.key) (Err c.in-Err.refusal)) c.table.ensures c.refused_first.ensures),
  refl,
  c.in-Err.ensures.same,
)

pub returns-in-Err-clause-numbered : goal.returns-in-Err-clause-numbered
returns-in-Err-clause-numbered c = subst (λ (v : NameTable). AreNumbered c.args.self.now.table.table v) (sym c.in-Err.ensures.same) c.requires.sound.numbered

-- ---- what the requests require

free : (c : goal.After-request_new-arg-1) → IsFree c.args.self.now.names c.in-Ok.field-0.number
free c = elim c.in-Ok.ensures.interned [
  | inl known ↦ absurd (c.in-Ok.ensures.new.0 c.if-is_new.true (c.in-Ok.field-0.number, known.0))
  | inr new ↦ new.1
]

pub request_new-requires-clause-in_range : goal.request_new-requires-clause-in_range
request_new-requires-clause-in_range c = subst (λ m. c.in-Ok.field-0.number < m) c.requires.sound.numbered.as_many (free c).0

pub request_new-requires-clause-free : goal.request_new-requires-clause-free
request_new-requires-clause-free c = (c.requires.sound.numbered.named c.in-Ok.field-0.number).0 (free c).1

pub request_new-requires-clause-named : goal.request_new-requires-clause-named
request_new-requires-clause-named c = ap is_some (interned_name c.args.self.now.names c.entry_of.new.names c.args.name.now c.in-Ok.field-0.number c.in-Ok.ensures.interned)

pub request_named-requires-clause-in_range : goal.request_named-requires-clause-in_range
request_named-requires-clause-in_range c =
    let t = c.args.self.now.names in
    let n = c.in-Ok.field-0.number in
    let is : name_of t n ≡ Some c.args.name.now = elim c.in-Ok.ensures.interned [
      | inl known ↦ known.0
      | inr new ↦ (let never : false ≡ true = sym c.if-is_new.false ∙ c.in-Ok.ensures.new.1 new.0 in absurd (cc))
    ] in
    subst (λ m. n < m) c.requires.sound.numbered.as_many (some_in_range t n (ap is_some is))
