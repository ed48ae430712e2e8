-- Which workload a JSON value says, and which one the bytes of a file say.
use Rattle.std.specs.Prelude.{◌≡◌, ℕ, ◌≤◌, ◌+◌, ◌&&◌, List, [], ◌∷◌, length, nat_le, if◌then◌else◌, Option, Some, None, is_some, option_map, option_and_then, codes, IsUtf8}
use Rattle.std.specs.Str.{bytes_eq}
use Rattle.serde_json.specs.Data.{Data, Items, no_items, item}
use Rattle.serde_json.specs.Find.{get, at, as_number, as_u64, as_str, as_array}
use Rattle.serde_json.specs.Read.{read}
use Rattle.mm_limits.specs.declared.TheConstants.{MAX_CLIENTS, MAX_STEPS, MAX_TRANSMITTERS}
use Rattle.mm_workload.specs.declared.limits.TheConstants.{MAX_BYTES, MAX_TURNS}
use Rattle.mm_rules.specs.declared.config.Config.{Config}
use Rattle.mm_workload.specs.declared.step.WorkStep.{WorkStep}
use Rattle.mm_workload.specs.declared.step.WorkStep.TheVariants.{Acquire, Release, Meet}
use Rattle.mm_workload.specs.Work.{Work, no_further}

-- the number, if it is in this range
abbrev pub in_range : ℕ → ℕ → ℕ → Option ℕ
in_range least most n = if nat_le least n && nat_le n most then Some n else None

-- the whole number that a value is, in plain digits, if it is in this range
abbrev pub whole : ℕ → ℕ → Data → Option ℕ
whole least most d = option_and_then (in_range least most) (option_and_then as_u64 (as_number d))

-- the whole number under a key of an object
abbrev pub whole_at : ℕ → ℕ → List ℕ → Data → Option ℕ
whole_at least most key d = option_and_then (whole least most) (get key d)

-- the step of a word and a number
abbrev pub step_by : List ℕ → ℕ → Option WorkStep
step_by word n =
    if bytes_eq word (codes "acquire") then Some (Acquire n)
    else (if bytes_eq word (codes "release") then Some (Release n)
    else (if bytes_eq word (codes "meet") then Some (Meet n) else None))

-- a step: an array of a word and a number, and of nothing else
abbrev pub step_of : Data → Option WorkStep
step_of d = if is_some (at 2 d) then None
    else option_and_then (λ word. option_and_then (step_by word) (option_and_then (whole 0 4294967295) (at 1 d)))
    (option_and_then as_str (at 0 d))

-- what each item is, if each is something
abbrev pub all_of : {X : Type 0} → (Data → Option X) → Items → Option (List X)
all_of f no_items = Some []
all_of f (item d ds) = option_and_then (λ x. option_map (λ xs. x ∷ xs) (all_of f ds)) (f d)

-- how many items there are
abbrev pub count : Items → ℕ
count no_items = 0
count (item d ds) = 1 + count ds

-- the same, if there are this many items
abbrev pub all_in : {X : Type 0} → ℕ → ℕ → (Data → Option X) → Items → Option (List X)
all_in least most f ds = if nat_le least (count ds) && nat_le (count ds) most then all_of f ds else None

-- the steps of a client: an array of this many steps at most
abbrev pub steps_of : Data → Option (List WorkStep)
steps_of d = option_and_then (all_in 0 MAX_STEPS step_of) (as_array d)

-- the clients: an array of arrays of steps, one at least and this many at most
abbrev pub clients_of : Data → Option (List (List WorkStep))
clients_of d = option_and_then (all_in 1 MAX_CLIENTS steps_of) (as_array d)

-- the clients under their key
abbrev pub clients_in : Data → Option (List (List WorkStep))
clients_in d = option_and_then clients_of (get (codes "clients") d)

-- an object says these numbers of a table
pub record SaysConfig (d : Data) (c : Config) : Type 0 where
  pub processes : whole_at 0 4294967295 (codes "processes") d ≡ Some c.processes
  pub resources : whole_at 0 4294967295 (codes "resources") d ≡ Some c.resources
  pub label_limit : whole_at 0 18446744073709551615 (codes "label_limit") d ≡ Some c.label_limit
  pub generation_limit : whole_at 0 4294967295 (codes "generation_limit") d ≡ Some c.generation_limit

-- an object says this workload, by seven keys; no client makes a further transaction
pub record SaysWork (d : Data) (w : Work) : Type 0 where
  pub config : SaysConfig d w.config
  pub transmitters : whole_at 0 MAX_TRANSMITTERS (codes "transmitters") d ≡ Some w.transmitters
  pub turns : whole_at 1 MAX_TURNS (codes "turns") d ≡ Some w.turns
  pub clients : clients_in d ≡ Some w.clients
  pub further : w.further ≡ no_further

-- this many bytes at most say this workload: they are UTF-8, and the text of a JSON value that says it
pub record Says (bytes : List ℕ) (w : Work) : Type 0 where
  pub few : length bytes ≤ MAX_BYTES
  pub utf8 : IsUtf8 bytes
  pub value : (d : Data) × (read bytes ≡ Some d) × SaysWork d w

-- the bytes say no workload
abbrev pub SaysNone : List ℕ → Type 0
SaysNone bytes = (w : Work) → ¬ Says bytes w
