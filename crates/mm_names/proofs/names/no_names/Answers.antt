use Rattle.std.proofs.Common.{◌≡◌, None, length, ap, ◌∙◌, arith}
use Rattle.std.proofs.lemmas.List.{length-replicate}
use Rattle.mm_tagged_lists.specs.TaggedLists.{unlisted}
use Rattle.mm_names.specs.Names.{NameTable}
use Rattle.mm_names.proofs.Lemmas.Index.{AreIndexed-nameless}
use Rattle.mm_names.proofs.names.no_names.Goals as goal

pub invariant_of-result : goal.invariant_of-result
invariant_of-result c =
    let config = c.args.config in
    let made = c.in_ok-index.ensures ∙ ap (λ n. unlisted n config.names) c.lists.ensures in
    let long : length c.in_ok-places.places.names ≡ config.names = ap (λ (t : NameTable). length t.names) c.in_ok-places.ensures ∙ length-replicate config.names None in (
      AreIndexed-nameless c.in_ok-places.places c.in_ok-index.index c.new-spots.result c.in_ok-free.free.items config.names config.name_bytes c.requires.few_names c.in_ok-places.ensures made c.in_ok-free.ensures.all,
      omega (arith, long, c.in_ok-free.ensures.room),
    )
