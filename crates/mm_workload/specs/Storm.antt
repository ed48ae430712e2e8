-- The workload that is made from a seed, of the words that a generator gives.
use Rattle.std.specs.Prelude.{ℕ, zero, suc, ◌+◌, ◌%◌, ◌==◌, List, [], ◌∷◌, ◌++◌, map, Bool, false, if◌then◌else◌}
use Rattle.std.specs.List.{fold, list_any}
use Rattle.rand_pcg.specs.Lcg.{Lcg, started, increment_of}
use Rattle.rand_pcg.specs.Pcg.{multiplier_64, pcg32}
use Rattle.mm_workload.specs.declared.step.WorkStep.{WorkStep}
use Rattle.mm_workload.specs.declared.step.WorkStep.TheVariants.{Acquire, Release, Meet}
use Rattle.mm_rules.specs.declared.config.Config.{Config}
use Rattle.mm_workload.specs.Shapes.{Shape, usual}
use Rattle.mm_workload.specs.Work.{Origin, Work}

-- the generator of a seed, on this stream
abbrev pub generator_on : ℕ → ℕ → Lcg
generator_on seed stream = started 64 multiplier_64 seed (increment_of 64 stream)

-- on stream 0, which gives the first transactions of all clients
abbrev pub generator : ℕ → Lcg
generator seed = generator_on seed 0

-- the next this many words of a generator
unfoldable pub words : ℕ → Lcg → List ℕ
words zero g = []
words (suc n) g = (pcg32 g).0 ∷ words n (pcg32 g).1

-- the generator after this many words
unfoldable pub after : ℕ → Lcg → Lcg
after zero g = g
after (suc n) g = after n (pcg32 g).1

-- a transaction's first word says how many words give it a resource: 1 to that many
abbrev pub draws : Shape → Lcg → ℕ
draws shape g = 1 + (pcg32 g).0 % shape.acquires

-- each of the words after it gives one of the resources
abbrev pub drawn : Shape → Lcg → List ℕ
drawn shape g = map (λ word. word % shape.resources) (words (draws shape g) (after 1 g))

-- the step acquires this resource
abbrev pub acquires : ℕ → WorkStep → Bool
acquires r (Acquire had) = had == r
acquires r (Release had) = false
acquires r (Meet arrivals) = false

-- the client acquires the resource, unless it has it already
abbrev pub with_resource : List WorkStep → ℕ → List WorkStep
with_resource steps r = if list_any (acquires r) steps then steps else steps ++ Acquire r ∷ []

-- the steps of a client, from its first word on
abbrev pub client_of : Shape → Lcg → List WorkStep
client_of shape g = fold with_resource [] (drawn shape g)

-- this many transactions, each by the words that follow those of the one before it
unfoldable pub clients_from : Shape → ℕ → Lcg → List (List WorkStep)
clients_from shape zero g = []
clients_from shape (suc n) g = client_of shape g ∷ clients_from shape n (after (1 + draws shape g) g)

-- the table of a storm: as many processes as clients, and limits that leave room for each transaction
abbrev pub storm_config : Shape → ℕ → Config
storm_config shape clients = record {
  processes = clients;
  resources = shape.resources;
  label_limit = if shape.transactions == 1 then 1000000000 else 17592186044415;
  generation_limit = if shape.transactions == 1 then 9 else 4294967295;
}

-- a storm of this shape
abbrev pub storm_with : Shape → ℕ → ℕ → ℕ → Work
storm_with shape seed clients transmitters = record {
  config = storm_config shape clients;
  transmitters = transmitters;
  turns = 10000000;
  clients = clients_from shape clients (generator seed);
  further = record { seed = seed; shape = shape };
}

-- the storm: of 8 resources, of which a client acquires 4 at most
abbrev pub storm_of : ℕ → ℕ → ℕ → Work
storm_of seed clients transmitters = storm_with usual seed clients transmitters

-- what is left to draw of the further transactions of one client
pub record Stream : Type 0 where
  pub shape : Shape
  pub words : Lcg

-- the further transactions of the client of this number are drawn from the stream of its number; clients count from 1
abbrev pub stream_of : Origin → ℕ → Stream
stream_of origin stream = record { shape = origin.shape; words = generator_on origin.seed stream }
