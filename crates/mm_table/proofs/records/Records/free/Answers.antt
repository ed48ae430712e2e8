use Rattle.std.proofs.Common.{None, ap, length-set}
use Rattle.std.proofs.lemmas.List.{length-map}
use Rattle.mm_lists.specs.Members.{without}
use Rattle.mm_tagged_lists.specs.TaggedLists.{Listing}
use Rattle.mm_table.proofs.Fields.Ownership.{owned_sized, owner_written}
use Rattle.mm_table.proofs.records.Records.free.Goals as goal

pub invariant_of-self : goal.invariant_of-self
invariant_of-self c = record {
  sizes = rw c.remove.ensures (owned_sized _ (length-map c.self.inside.owned.lists (without c.args.resource)) (length-set c.self.inside.owned.spots c.args.resource None) c.self.invariant.sizes);
  arrivals = c.self.invariant.arrivals;
}

pub returns : goal.returns
returns c = owner_written c.self.inside c.args.self.now c.args.resource None c.remove.new.self c.self.view_is (ap (λ (o : Listing). o.spots) c.remove.ensures)
