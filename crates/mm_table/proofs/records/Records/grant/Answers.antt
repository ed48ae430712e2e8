use Rattle.std.proofs.Common.{ap, length-set}
use Rattle.mm_tagged_lists.specs.TaggedLists.{Listing}
use Rattle.mm_table.proofs.Fields.Ownership.{owned_sized, owner_written}
use Rattle.mm_table.proofs.records.Records.grant.Goals as goal

pub invariant_of-self : goal.invariant_of-self
invariant_of-self c = record {
  sizes = rw c.push.ensures (owned_sized _ (length-set c.self.inside.owned.lists c.args.key.process _) (length-set c.self.inside.owned.spots c.args.resource _) c.self.invariant.sizes);
  arrivals = c.self.invariant.arrivals;
}

pub returns : goal.returns
returns c = owner_written c.self.inside c.args.self.now c.args.resource _ c.push.new.self c.self.view_is (ap (λ (o : Listing). o.spots) c.push.ensures)
