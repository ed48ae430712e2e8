use Rattle.std.proofs.Common.{rules, ◌≡◌, None, is_some, true, length, ap, ◌∙◌, arith, length-set}
use Rattle.std.proofs.lemmas.Grind.{common_steps}
use Rattle.mm_names.specs.Names.{NameTable, name_of}
use Rattle.mm_names.proofs.Lemmas.Index.{AreIndexed-taken, some_in_range, few_free}
use Rattle.mm_names.proofs.names.Names.forget.Goals as goal

pub push_reserved-requires : goal.push_reserved-requires
push_reserved-requires c =
    let n = c.self.inside in
    let named : is_some (name_of n.places c.args.number) ≡ true = ap (λ t. is_some (name_of t c.args.number)) c.self.view_is ∙ c.has_name.ensures.0 (search (rules, c.if-not-has_name.false)) in
    omega (arith, few_free n.places n.index n.spots n.free.items c.self.invariant.0 c.args.number named, c.self.invariant.1, n.free.ok)

pub invariant_of-self : goal.invariant_of-self
invariant_of-self c =
    let n = c.self.inside in
    let named : is_some (name_of n.places c.args.number) ≡ true = ap (λ t. is_some (name_of t c.args.number)) c.self.view_is ∙ c.has_name.ensures.0 (search (rules, c.if-not-has_name.false)) in (
      rw (c.clear.ensures, c.remove.ensures, c.push_reserved.ensures.items)
          (AreIndexed-taken n.places n.index n.spots n.free.items c.self.invariant.0 c.args.number (some_in_range n.places c.args.number named) named),
      omega (arith, c.self.invariant.1, c.push_reserved.ensures.capacity, ap (λ (t : NameTable). length t.names) c.clear.ensures, length-set n.places.names c.args.number None),
    )

pub remove-requires : goal.remove-requires
remove-requires c = grind (arith, common_steps)

pub clear-requires : goal.clear-requires
clear-requires c = grind (arith, common_steps)
