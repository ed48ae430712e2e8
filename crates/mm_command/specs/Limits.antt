-- The limits that a lock service can have, and those of what the clients of a storm do.
use Rattle.std.specs.Prelude.{ℕ, ◌≤◌}
use Rattle.mm_limits.specs.declared.TheConstants.{MAX_ACQUIRES, MAX_NAMES, MAX_NAME_BYTES, MAX_PROCESSES, MAX_RESOURCES, MAX_TRANSACTIONS}

-- how many transactions and names there can be at once, and how many bytes a name may have
pub record AreLimits (transactions names name_bytes : ℕ) : Type 0 where
  pub few_transactions : (1 ≤ transactions) × (transactions ≤ MAX_PROCESSES)
  pub few_names : (1 ≤ names) × (names ≤ MAX_NAMES)
  pub short_names : (1 ≤ name_bytes) × (name_bytes ≤ MAX_NAME_BYTES)

-- how many resources there are, how many words give a transaction a resource at most, and how many transactions each client makes
pub record AreShape (resources acquires transactions : ℕ) : Type 0 where
  pub some_resources : (1 ≤ resources) × (resources ≤ MAX_RESOURCES)
  pub some_acquires : (1 ≤ acquires) × (acquires ≤ MAX_ACQUIRES)
  pub some_transactions : (1 ≤ transactions) × (transactions ≤ MAX_TRANSACTIONS)
