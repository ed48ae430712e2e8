use Rattle.std.proofs.Common.{◌++◌, Some, length, arith, ap, subst, ◌∙◌, inr, length-set}
use Rattle.std.specs.Option.{option_to_list}
use Rattle.mm_names.specs.Names.{NameTable, IsFree, Interns}
use Rattle.mm_names.proofs.Lemmas.Index.{free_not_full, at_none, last_is_free, AreIndexed-given}
use Rattle.mm_names.proofs.names.Names.enter.Goals as goal

pub push-requires-clause-unlisted : goal.push-requires-clause-unlisted
push-requires-clause-unlisted c =
    let n = c.self.inside in
    let rest = c.pop.new.self.items in
    let is = c.pop.ensures.items ∙ ap (λ o. rest ++ option_to_list o) c.in-Some-pop.is in
    at_none n.places n.index n.spots n.free.items c.self.invariant.0 c.in-Some-pop.number
    (last_is_free n.places n.index n.spots n.free.items c.self.invariant.0 c.in-Some-pop.number rest is)

pub put-requires-clause-in_range : goal.put-requires-clause-in_range
put-requires-clause-in_range c =
    let n = c.self.inside in
    let rest = c.pop.new.self.items in
    let is = c.pop.ensures.items ∙ ap (λ o. rest ++ option_to_list o) c.in-Some-pop.is in
    (last_is_free n.places n.index n.spots n.free.items c.self.invariant.0 c.in-Some-pop.number rest is).0

pub push-requires-clause-item_in_range : goal.push-requires-clause-item_in_range
push-requires-clause-item_in_range c =
    let n = c.self.inside in
    let rest = c.pop.new.self.items in
    let is = c.pop.ensures.items ∙ ap (λ o. rest ++ option_to_list o) c.in-Some-pop.is in
    omega (arith, (last_is_free n.places n.index n.spots n.free.items c.self.invariant.0 c.in-Some-pop.number rest is).0, c.self.invariant.0.size)

pub invariant_of-self-2 : goal.invariant_of-self-2
invariant_of-self-2 c =
    let n = c.self.inside in
    let rest = c.pop.new.self.items in
    let is = c.pop.ensures.items ∙ ap (λ o. rest ++ option_to_list o) c.in-Some-pop.is in (
      rw (c.put.ensures, c.push.ensures, c.of-spot.ensures.spot)
          (AreIndexed-given n.places n.index n.spots n.free.items c.self.invariant.0 c.in-Some-pop.number rest is c.args.name.now c.in_default.ensures),
      omega (arith, c.self.invariant.1, c.pop.ensures.capacity, ap (λ (t : NameTable). length t.names) c.put.ensures, length-set n.places.names c.in-Some-pop.number (Some c.args.name.now)),
    )

pub returns-clause-entered : goal.returns-clause-entered
returns-clause-entered c =
    let n = c.self.inside in
    let rest = c.pop.new.self.items in
    let is = c.pop.ensures.items ∙ ap (λ o. rest ++ option_to_list o) c.in-Some-pop.is in
    let free = last_is_free n.places n.index n.spots n.free.items c.self.invariant.0 c.in-Some-pop.number rest is in
    subst (λ t. Interns t c.args.name.now c.in-Some-pop.number c.put.new.self) c.self.view_is (inr (c.in_default.ensures, free, c.put.ensures))

pub returns-clause-full : goal.returns-clause-full
returns-clause-full c =
    let n = c.self.inside in
    let rest = c.pop.new.self.items in
    let is = c.pop.ensures.items ∙ ap (λ o. rest ++ option_to_list o) c.in-Some-pop.is in
    let free = last_is_free n.places n.index n.spots n.free.items c.self.invariant.0 c.in-Some-pop.number rest is in (
      λ is. cc,
      λ refused. absurd (free_not_full c.args.self.now c.in-Some-pop.number (subst (λ t. IsFree t c.in-Some-pop.number) c.self.view_is free) refused.full),
    )
