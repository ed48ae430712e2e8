-- The hash of a name. All that is proved of it is that it is a function of the bytes.
use Rattle.std.specs.Prelude.{ℕ, zero, suc, ◌+◌, ◌-◌, ◌*◌, ◌/◌, ◌%◌, ◌^◌, List, length, drop, fold, if◌then◌else◌, nat_lt, bit_or, bit_xor}
use Rattle.std.specs.Hash
use Rattle.std.specs.Hash.DefaultHasher.{initial, write, finish}
use Rattle.std.specs.Hash.FoldHasher.{folded_multiply, read_u64, read_short}
use Rattle.mm_names.specs.declared.hash.NameHash.{NameHash}
use Rattle.mm_names.specs.declared.hash.TheConstants.{LENGTH_FACTOR}

-- the two numbers that SipHash-1-3 makes of a seed
abbrev pub hash_by : ℕ → NameHash
hash_by seed =
    let once = fold write initial (Hash.u64 seed) in
    record { first = finish once; second = bit_or (finish (fold write once (Hash.u64 (finish once)))) 1 }

-- the state after the words at i and at j
abbrev pub step : NameHash → List ℕ → ℕ → ℕ → ℕ → ℕ
step h name state i j = folded_multiply (bit_xor (read_u64 name i) state) (bit_xor (read_u64 name j) h.second)

-- the state after the first n blocks of 16 bytes
unfoldable pub after_blocks : NameHash → List ℕ → ℕ → ℕ
after_blocks h name zero = h.first
after_blocks h name (suc n) = step h name (after_blocks h name n) (16 * n) (16 * n + 8)

-- the state after the last one to sixteen bytes
unfoldable pub last_step : NameHash → ℕ → List ℕ → ℕ
last_step h state rest =
    if nat_lt 8 (length rest) then step h rest state 0 (length rest - 8) else folded_multiply (bit_xor (read_short rest) state) h.second

-- what the steps make of a name, without its length
unfoldable pub steps_of : NameHash → List ℕ → ℕ
steps_of h name = let n = (length name - 1) / 16 in last_step h (after_blocks h name n) (drop (16 * n) name)

-- the length, times a constant, is added last, in 64 bits
abbrev pub hash_of : NameHash → List ℕ → ℕ
hash_of h name = (steps_of h name + length name * LENGTH_FACTOR % 2 ^ 64) % 2 ^ 64
