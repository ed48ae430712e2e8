use Rattle.mm_names.proofs.Lemmas.Places.{IsInRange-seen}
use Rattle.mm_names.proofs.places.Places.keep_range.Goals as goal

pub returns : goal.returns
returns c =
    let p = c.self.inside in
    IsInRange-seen c.args.self.now p.name_bytes p.lengths.items p.bytes.items c.self.view_is c.self.invariant
