use Rattle.std.proofs.Common.{◌≡◌, ◌*◌, Some, None, ap, length, arith, sym, ◌∙◌, get_or, take, drop}
use Rattle.std.proofs.lemmas.List.{get_or_read}
use Rattle.mm_names.proofs.Lemmas.Places.{as_many, has_place, name_at, name_in}
use Rattle.mm_names.proofs.places.Places.get.Goals as goal

pub index-requires : goal.index-requires
index-requires c =
    let p = c.self.inside in
    omega (arith, c.requires, as_many c.args.self.now p.name_bytes p.lengths.items p.bytes.items c.self.view_is c.self.invariant)

pub returns-in_err-length : goal.returns-in_err-length
returns-in_err-length c =
    let p = c.self.inside in
    let many = as_many c.args.self.now p.name_bytes p.lengths.items p.bytes.items c.self.view_is c.self.invariant in
    let is : None ≡ get_or p.lengths.items c.args.number None = sym c.in_err-length.was ∙ c.get.ensures ∙ get_or_read p.lengths.items c.args.number c.index.result.now (omega (arith, c.requires, many)) c.index.ensures None in
    rw c.from_residual.ensures
    (ap (name_in p.name_bytes c.args.number p.bytes.items) is ∙ sym (name_at c.args.self.now p.name_bytes p.lengths.items p.bytes.items c.self.view_is c.self.invariant c.args.number))

pub slice_bounds-result-end : goal.slice_bounds-result-end
slice_bounds-result-end c =
    let p = c.self.inside in
    let many = as_many c.args.self.now p.name_bytes p.lengths.items p.bytes.items c.self.view_is c.self.invariant in
    let is : get_or p.lengths.items c.args.number None ≡ Some c.in_ok-length.length = sym (get_or_read p.lengths.items c.args.number c.index.result.now (omega (arith, c.requires, many)) c.index.ensures None) ∙ sym c.get.ensures ∙ c.in_ok-length.was in
    omega (arith, c.self.invariant.fits c.args.number c.in_ok-length.length is, has_place c.args.self.now p.name_bytes p.lengths.items p.bytes.items c.self.view_is c.self.invariant c.args.number c.requires, ap length c.deref.ensures.value)

pub returns : goal.returns
returns c =
    let p = c.self.inside in
    let many = as_many c.args.self.now p.name_bytes p.lengths.items p.bytes.items c.self.view_is c.self.invariant in
    let is : get_or p.lengths.items c.args.number None ≡ Some c.in_ok-length.length = sym (get_or_read p.lengths.items c.args.number c.index.result.now (omega (arith, c.requires, many)) c.index.ensures None) ∙ sym c.get.ensures ∙ c.in_ok-length.was in
    ap (λ n. Some (take n (drop (c.args.number * p.name_bytes) c.deref.result.now))) (omega arith)
    ∙ ap (λ bytes. name_in p.name_bytes c.args.number bytes (Some c.in_ok-length.length)) c.deref.ensures.value
    ∙ ap (name_in p.name_bytes c.args.number p.bytes.items) (sym is)
    ∙ sym (name_at c.args.self.now p.name_bytes p.lengths.items p.bytes.items c.self.view_is c.self.invariant c.args.number)
