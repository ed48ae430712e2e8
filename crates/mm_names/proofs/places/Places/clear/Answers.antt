use Rattle.std.proofs.Common.{None, ap, arith, ◌∙◌, refl}
use Rattle.mm_names.specs.Names.{with_name}
use Rattle.mm_names.proofs.Lemmas.Places.{as_many}
use Rattle.mm_names.proofs.Lemmas.Written.{names_in-cleared, ArePlaced-set}
use Rattle.mm_names.proofs.places.Places.clear.Goals as goal

pub index_mut-requires : goal.index_mut-requires
index_mut-requires c =
    let p = c.self.inside in
    omega (arith, c.requires, as_many c.args.self.now p.name_bytes p.lengths.items p.bytes.items c.self.view_is c.self.invariant)

pub invariant_of-self : goal.invariant_of-self
invariant_of-self c =
    ArePlaced-set c.self.inside.name_bytes c.self.inside.lengths.items c.self.inside.bytes.items c.self.invariant c.args.number None c.self.inside.bytes.items refl (λ k is. cc)

pub returns : goal.returns
returns c =
    let p = c.self.inside in
    ap (λ names. record { names = names; name_bytes = p.name_bytes }) (names_in-cleared p.name_bytes p.lengths.items p.bytes.items c.args.number)
    ∙ ap (λ t. with_name t c.args.number None) c.self.view_is
