-- A table that was just opened.
use Rattle.std.proofs.Common.{◌≡◌, ℕ, zero, suc, ◌+◌, List, Option, None, option_map, replicate, map, refl, arith}
use Rattle.std.specs.List.{range_with_len}
use Rattle.mm_arena.specs.declared.key.Key.{Key}
use Rattle.mm_label.specs.Label.{opening_label}
use Rattle.mm_rules.specs.declared.config.Config.{Config}
use Rattle.mm_rules.specs.TableState as states
use Rattle.mm_table.specs.declared.labels.ProcessLabels.{ProcessLabels}
use Rattle.mm_table.specs.private.Labels.{opening_labels, AreAtMost}
use Rattle.mm_table.specs.private.Records.{key_of, state_of_fields}
use Rattle.mm_transactions.specs.Transactions.{Transactions, opening}

each_its_own : {X : Type 0} (f : ProcessLabels → X) (g : ℕ → X) → ((i : ℕ) → f (opening_labels i) ≡ g i) → (a n : ℕ) → map f (map opening_labels (range_with_len a n)) ≡ map g (range_with_len a n)
each_its_own f g h a zero = refl
each_its_own f g h a (suc n) = cc (h a, each_its_own f g h (a + 1) n)

pub no_owners : (n : ℕ) → map (option_map key_of) (replicate n None) ≡ replicate n None
no_owners zero = refl
no_owners (suc n) = cc (no_owners n)

-- the fields of a table that was just opened stand for the opening of its configuration
pub opened : (c : Config) (transactions : Transactions) (labels : List ProcessLabels) (owners : List (Option Key))
    → transactions ≡ opening c.processes c.resources c.generation_limit → labels ≡ map opening_labels (range_with_len 0 c.processes) → owners ≡ replicate c.resources None
    → state_of_fields c transactions labels owners (record { accepted = 0; verdicts = 0; aborts = 0 }) ≡ states.opening c
opened c transactions labels owners t l o =
    let private = each_its_own (λ l. l.private) opening_label (λ i. refl) 0 c.processes in
    let public = each_its_own (λ l. l.public) opening_label (λ i. refl) 0 c.processes in
    rw (t, l, o, private, public) refl

-- at the opening no label has a counter, so none is above this one
pub opened_counters : (greatest a n : ℕ) → AreAtMost greatest (map opening_labels (range_with_len a n))
opened_counters greatest a zero = tt
opened_counters greatest a (suc n) = (omega arith, opened_counters greatest (a + 1) n)
