use Rattle.std.proofs.Common.{◌≡◌, length, vec_len, arith, sym, ◌∙◌}
use Rattle.mm_names.proofs.Lemmas.Places.{as_many}
use Rattle.mm_names.proofs.places.Places.numbers.Goals as goal

pub returns : goal.returns
returns c =
    let p = c.self.inside in
    let len : length p.lengths.items ≡ vec_len p.lengths = omega (arith, p.lengths.ok) in
    c.len.ensures ∙ sym len ∙ sym (as_many c.args.self.now p.name_bytes p.lengths.items p.bytes.items c.self.view_is c.self.invariant)
