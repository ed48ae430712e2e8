use Rattle.std.proofs.Common.{[], length, ap, ◌∙◌, arith, None}
use Rattle.std.proofs.lemmas.List.{length-replicate}
use Rattle.std.proofs.lemmas.List.FromFn.{length-map-range_with_len}
use Rattle.mm_tagged_lists.specs.TaggedLists.{Listing}
use Rattle.mm_transactions.specs.Transactions.{Transactions}
use Rattle.mm_table.specs.private.Labels.{opening_labels}
use Rattle.mm_table.specs.private.Records.{owners_of}
use Rattle.mm_table.proofs.Fields.Opening.{no_owners, opened}
use Rattle.mm_table.proofs.records.Records.open.Goals as goal

pub invariant_of-result : goal.invariant_of-result
invariant_of-result c = record {
  sizes = record {
    config = c.requires;
    slots = ap (λ (t : Transactions). length t.live) c.in-Ok.ensures ∙ length-replicate c.args.config.processes _;
    last_generation = ap (λ (t : Transactions). t.generation_limit) c.in-Ok.ensures;
    queues = ap (λ (t : Transactions). t.resources) c.in-Ok.ensures;
    labels = ap length c.in-Ok-open.ensures ∙ length-map-range_with_len opening_labels 0 c.args.config.processes;
    lists = ap (λ (o : Listing). length o.lists) c.in-Ok-new.ensures ∙ length-replicate c.args.config.processes [];
    owners = ap (λ (o : Listing). length o.spots) c.in-Ok-new.ensures ∙ length-replicate c.args.config.resources None;
  };
  arrivals = omega (arith, ap (λ (t : Transactions). t.latest) c.in-Ok.ensures);
}

pub returns-clause-opened : goal.returns-clause-opened
returns-clause-opened c =
    opened c.args.config c.in-Ok.transactions c.in-Ok-open.labels (owners_of c.in-Ok-new.owned) c.in-Ok.ensures c.in-Ok-open.ensures (ap owners_of c.in-Ok-new.ensures ∙ no_owners c.args.config.resources)
