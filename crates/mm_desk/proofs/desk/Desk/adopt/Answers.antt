use Rattle.std.proofs.Common.{rules, ◌<◌, ℕ, List, refl, sym, ap, ◌∙◌, subst}
use Rattle.std.specs.Prelude.{Option, slice_get, ◌/◌}
use Rattle.mm_arena.specs.declared.key.Key.{Key}
use Rattle.mm_lists.specs.Members.{Among}
use Rattle.mm_thin.specs.declared.worker.TheConstants.{RECORDS}
use Rattle.mm_thin.specs.Parts.{OfficeState}
use Rattle.mm_desk.specs.Desk.{DeskState}
use Rattle.mm_desk.specs.Calls.{GrowsBy, IsOffered, IsTakenOver, FailsToAdopt, OwnersStay, WaitsStay}
use Rattle.mm_desk.proofs.Keeps.{desk_same, desk_free, desk_lent, desk_refused, still_fat, not_adopted}
use Rattle.mm_desk.proofs.desk.Desk.adopt.Goals as goal

pub invariant_of-self : goal.invariant_of-self
invariant_of-self c = desk_same c.self.inside.books c.self.inside.office c.self.inside.keys.items c.self.inside.lent_to.items c.self.invariant c.fatten.new.self (ap (λ (o : OfficeState). o.of) c.fatten.ensures.rest) c.in-WasFat.ensures.gets.0

pub invariant_of-self-in-WasFree : goal.invariant_of-self-in-WasFree
invariant_of-self-in-WasFree c =
    desk_free c.self.inside.books c.self.inside.office c.self.inside.keys.items c.self.inside.lent_to.items c.self.invariant c.fatten.new.self (ap (λ (o : OfficeState). o.of) c.fatten.ensures.rest) c.args.bucket c.in-WasFree.ensures.gets.0

pub invariant_of-self-in-Changed : goal.invariant_of-self-in-Changed
invariant_of-self-in-Changed c = desk_same c.self.inside.books c.self.inside.office c.self.inside.keys.items c.self.inside.lent_to.items c.self.invariant c.fatten.new.self (ap (λ (o : OfficeState). o.of) c.fatten.ensures.rest) c.in-Changed.ensures.gets.0

pub invariant_of-self-in-Ok : goal.invariant_of-self-in-Ok
invariant_of-self-in-Ok c =
    let low = subst (λ (s : DeskState). c.args.bucket < s.office.of.table.words) (sym c.self.view_is) c.requires in
    desk_lent c.self.inside.books c.self.inside.office c.self.inside.keys.items c.self.inside.lent_to.items c.self.invariant c.offer.new.books c.offer.ensures.spread c.fatten.new.self (ap (λ (o : OfficeState). o.of) c.fatten.ensures.rest)
    c.args.bucket c.in-WasThin.number c.in-WasThin.name c.offer.ensures.stay c.in-WasThin.ensures.gets.1 c.in-WasThin.ensures.gets.0 low
    (subst (λ (name : List ℕ). GrowsBy c.self.inside.books.manager name c.offer.new.books.manager) c.as_slice.ensures c.offer.ensures.grows)
    (subst (λ (name : List ℕ). IsTakenOver c.offer.new.books (slice_get c.self.inside.keys.items (c.in-WasThin.number / RECORDS)) c.args.bucket name) c.as_slice.ensures
    (subst (λ (key : Option Key). IsTakenOver c.offer.new.books key c.args.bucket c.as_slice.result.now) c.key_of_record.ensures c.in-Ok.ensures.ok))

pub invariant_of-self-in-Err : goal.invariant_of-self-in-Err
invariant_of-self-in-Err c =
    desk_refused c.self.inside.books c.self.inside.office c.self.inside.keys.items c.self.inside.lent_to.items c.self.invariant c.offer.new.books c.offer.ensures.spread c.thin_again.new.self
    (ap (λ (o : OfficeState). o.of) c.thin_again.ensures.rest ∙ ap (λ (o : OfficeState). o.of) c.fatten.ensures.rest)
    c.args.bucket c.in-WasThin.number c.in-WasThin.name c.offer.ensures.stay c.in-WasThin.ensures.gets.1 c.fatten.new.self.desk c.in-WasThin.ensures.gets.0 c.thin_again.result c.thin_again.ensures.thins c.in-Err.ensures.err

pub returns-in-Err-clause-keeps : goal.returns-in-Err-clause-keeps
returns-in-Err-clause-keeps c =
    let of = ap (λ (o : OfficeState). o.of) c.thin_again.ensures.rest ∙ ap (λ (o : OfficeState). o.of) c.fatten.ensures.rest in
    record {
      of = of ∙ ap (λ (s : DeskState). s.office.of) c.self.view_is;
      keys = ap (λ (s : DeskState). s.keys) c.self.view_is;
      fat = subst (λ (s : DeskState). (b : ℕ) → Among b s.office.desk.fat → Among b c.thin_again.new.self.desk.fat) c.self.view_is
          (still_fat c.self.inside.books c.self.inside.office c.self.inside.keys.items c.self.inside.lent_to.items c.self.invariant c.offer.new.books c.offer.ensures.spread c.thin_again.new.self of
          c.args.bucket c.in-WasThin.number c.in-WasThin.name c.offer.ensures.stay c.in-WasThin.ensures.gets.1 c.fatten.new.self.desk c.in-WasThin.ensures.gets.0 c.thin_again.result c.thin_again.ensures.thins);
      stay = subst (λ (s : DeskState). OwnersStay s.manager c.offer.new.books.manager) c.self.view_is c.offer.ensures.stay;
      waits = subst (λ (s : DeskState). WaitsStay s.manager c.offer.new.books.manager) c.self.view_is c.offer.ensures.waits;
    }

pub returns-in-Err-clause-refused : goal.returns-in-Err-clause-refused
returns-in-Err-clause-refused c =
    let new : DeskState = record { manager = c.offer.new.books.manager; office = c.thin_again.new.self; keys = c.self.inside.keys.items } in
    subst (λ (s : DeskState). FailsToAdopt s c.args.bucket c.in-Err.refusal new) c.self.view_is
    (not_adopted c.self.inside.books c.offer.new.books c.self.inside.office c.self.inside.keys.items (c.in-WasThin.number / RECORDS) c.args.bucket c.as_slice.result.now c.in-Err.refusal new c.self.invariant.spread refl
    (subst (λ (key : Option Key). IsOffered c.self.inside.books key c.args.bucket c.as_slice.result.now c.in-Err.refusal c.offer.new.books) c.key_of_record.ensures c.in-Err.ensures.refused))

pub returns-in-Ok-clause-keeps : goal.returns-in-Ok-clause-keeps
returns-in-Ok-clause-keeps c = record {
  of = search rules;
  keys = search rules;
  fat = search rules;
  stay = search rules;
  waits = subst (λ (s : DeskState). WaitsStay s.manager c.offer.new.books.manager) c.self.view_is c.offer.ensures.waits;
}
