-- What a configuration is refused for.
use Rattle.std.specs.Prelude.{ℕ, ◌/◌, Bool, if◌then◌else◌, ◌||◌, nat_eq, nat_lt}
use Rattle.mm_names.specs.declared.config.TheConstants.NamesConfig.{MAX_NAMES, MAX_NAME_BYTES}
use Rattle.mm_rules.specs.declared.config.TheConstants.Config.{MAX_PROCESSES}
use Rattle.pashkure.specs.declared.plain.PlainConfig.{PlainConfig}

-- the number is not from 1 to this one
abbrev pub is_out : ℕ → ℕ → Bool
is_out n most = nat_eq n 0 || nat_lt most n

-- the number of the first fault, in the order of the members; 0 if there is none. A header is served that has the library's major and minor numbers, 0 and 1
abbrev pub config_fault : PlainConfig → ℕ
config_fault c =
    if nat_eq (c.header / 1000) 2 then
    if is_out c.transactions MAX_PROCESSES then 35 else
    if is_out c.names MAX_NAMES then 36 else
    if is_out c.name_bytes MAX_NAME_BYTES then 37 else
    if nat_eq c.buckets 0 then 0 else 40
    else 34
