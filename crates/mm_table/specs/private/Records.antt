-- What the fields of `Records` stand for, and what holds of them.
use Rattle.std.specs.Prelude.{◌≡◌, ◌≤◌, List, length, Option, option_map, map}
use Rattle.mm_arena.specs.declared.key.Key.{Key}
use Rattle.mm_tagged_lists.specs.declared.spot.Spot.{Spot}
use Rattle.mm_tagged_lists.specs.TaggedLists.{Listing}
use Rattle.mm_rules.specs.declared.config.Config.{Config}
use Rattle.mm_rules.specs.declared.reply.Totals.{Totals}
use Rattle.mm_rules.specs.TableState.{TableState, IsWide}
use Rattle.mm_table.specs.declared.records.Records.TheInside.{Inside}
use Rattle.mm_table.specs.declared.labels.ProcessLabels.{ProcessLabels}
use Rattle.mm_transactions.specs.Transactions.{Transactions}

-- the key of a spot: the list is its process, the tag its generation
abbrev pub key_of : Spot → Key
key_of spot = record { process = spot.list; generation = spot.tag }

-- the owner of each resource
abbrev pub owners_of : Listing → List (Option Key)
owners_of o = map (option_map key_of) o.spots

-- the state that the fields of a table stand for
abbrev pub state_of_fields : Config → Transactions → List ProcessLabels → List (Option Key) → Totals → TableState
state_of_fields config transactions labels owners totals = record {
  config = config;
  generations = transactions.generations;
  live = transactions.live;
  free = transactions.free;
  owners = owners;
  waits = transactions.waits;
  private = map (λ l. l.private) labels;
  public = map (λ l. l.public) labels;
  verdicts = transactions.verdicts;
  totals = totals;
}

-- the state that a table stands for
abbrev pub state_of_records : Inside → TableState
state_of_records t = state_of_fields t.config t.transactions t.labels (owners_of t.owned) t.totals

-- There is one slot, one pair of labels and one list of owned resources for each process, and one owner and one queue for each resource.
pub record FieldsAreSized (c : Config) (t : Transactions) (ls : List ProcessLabels) (o : Listing) : Type 0 where
  pub config : IsWide c
  pub slots : length t.live ≡ c.processes
  pub last_generation : t.generation_limit ≡ c.generation_limit
  pub queues : t.resources ≡ c.resources
  pub labels : length ls ≡ c.processes
  pub lists : length o.lists ≡ c.processes
  pub owners : length o.spots ≡ c.resources

-- the fields are of one table, and no wait arrived after the last accepted event
pub record IsConsistent (t : Inside) : Type 0 where
  pub sizes : FieldsAreSized t.config t.transactions t.labels t.owned
  pub arrivals : t.transactions.latest ≤ t.totals.accepted
