use Rattle.std.proofs.Common.{◌≡◌, ◌*◌, ◌+◌, ◌-◌, Some, ap, length, arith, ◌∙◌, refl, set}
use Rattle.mm_names.specs.Names.{with_name}
use Rattle.mm_names.specs.private.Places.{names_in}
use Rattle.mm_names.proofs.Lemmas.Places.{as_many, as_wide, has_place}
use Rattle.mm_names.proofs.Lemmas.Written.{IsWritten-put_mid, names_in-written, ArePlaced-set}
use Rattle.mm_names.proofs.places.Places.put.Goals as goal

pub slice_bounds-copy-end : goal.slice_bounds-copy-end
slice_bounds-copy-end c =
    let p = c.self.inside in
    let place = has_place c.args.self.now p.name_bytes p.lengths.items p.bytes.items c.self.view_is c.self.invariant c.args.number c.requires.in_range in
    let wide = as_wide c.args.self.now p.name_bytes p.lengths.items p.bytes.items c.self.view_is c.self.invariant in
    omega (arith, place, wide, c.requires.short, ap length c.deref_mut.ensures.value)

pub index_mut-requires : goal.index_mut-requires
index_mut-requires c =
    let p = c.self.inside in
    omega (arith, c.requires.in_range, as_many c.args.self.now p.name_bytes p.lengths.items p.bytes.items c.self.view_is c.self.invariant)

pub invariant_of-self : goal.invariant_of-self
invariant_of-self c =
    let p = c.self.inside in
    let place = has_place c.args.self.now p.name_bytes p.lengths.items p.bytes.items c.self.view_is c.self.invariant c.args.number c.requires.in_range in
    let wide = as_wide c.args.self.now p.name_bytes p.lengths.items p.bytes.items c.self.view_is c.self.invariant in
    let written = IsWritten-put_mid p.bytes c.deref_mut.result.now c.copy.new.place c.args.name.now (c.args.number * p.name_bytes) (c.args.number * p.name_bytes + length c.args.name.now - c.args.number * p.name_bytes) c.deref_mut.ensures.value c.deref_mut.ensures.len c.copy.ensures (omega arith) (omega (arith, place, wide, c.requires.short)) in
    rw c.of.ensures
    (ArePlaced-set p.name_bytes p.lengths.items p.bytes.items c.self.invariant c.args.number (Some (length c.args.name.now)) _ written.size
    (λ k is. (let same : length c.args.name.now ≡ k = cc in (omega (arith, same, c.requires.some), omega (arith, same, wide, c.requires.short)))))

pub returns : goal.returns
returns c =
    let p = c.self.inside in
    let place = has_place c.args.self.now p.name_bytes p.lengths.items p.bytes.items c.self.view_is c.self.invariant c.args.number c.requires.in_range in
    let wide = as_wide c.args.self.now p.name_bytes p.lengths.items p.bytes.items c.self.view_is c.self.invariant in
    let many = as_many c.args.self.now p.name_bytes p.lengths.items p.bytes.items c.self.view_is c.self.invariant in
    let written = IsWritten-put_mid p.bytes c.deref_mut.result.now c.copy.new.place c.args.name.now (c.args.number * p.name_bytes) (c.args.number * p.name_bytes + length c.args.name.now - c.args.number * p.name_bytes) c.deref_mut.ensures.value c.deref_mut.ensures.len c.copy.ensures (omega arith) (omega (arith, place, wide, c.requires.short)) in
    rw c.of.ensures
    (ap (λ names. record { names = names; name_bytes = p.name_bytes })
    (ap (names_in p.name_bytes (set p.lengths.items c.args.number (Some (length c.args.name.now)))) written.items
    ∙ names_in-written p.name_bytes p.lengths.items p.bytes.items c.self.invariant c.args.number c.args.name.now (length c.args.name.now) refl (omega (arith, wide, c.requires.short)) (omega (arith, many, c.requires.in_range)))
    ∙ ap (λ t. with_name t c.args.number (Some c.args.name.now)) c.self.view_is)
