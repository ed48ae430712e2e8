use Rattle.std.proofs.Common.{ℕ, ◌≡◌, ◌+◌, ◌<◌, ◌≤◌, List, Result, Ok, Err, length, map, sym, ap, ◌∙◌, arith, vec_len}
use Rattle.std.specs.Result.{IfOk}
use Rattle.std.proofs.lemmas.List.{length-map}
use Rattle.std.proofs.lemmas.Result.{IfOk-weaker}
use Rattle.mm_counts.specs.Shares.{all_parts}
use Rattle.mm_workers.proofs.run.run_workers.Goals as goal

-- ---- one gate for each client, and the rest for the transmitters

same_length : {A B : Type 0} (f : A → B) (xs : List A) (ys : List B) → map f xs ≡ ys → length xs ≡ length ys
same_length f xs ys e = sym (length-map xs f) ∙ ap length e

enough : (gates listed clients transmitters : ℕ) → gates ≡ clients + transmitters → listed ≡ clients → listed ≤ gates
enough gates listed clients transmitters p q = omega arith

others : (rest gates listed clients transmitters : ℕ) → gates ≡ clients + transmitters → listed ≡ clients → rest + listed ≡ gates → rest ≡ transmitters
others rest gates listed clients transmitters p q r = omega arith

pub split_off-requires : goal.split_off-requires
split_off-requires g c = enough (vec_len c.args.gates) (length c.clients.result.now) (length c.args.workload.now.clients) c.args.workload.now.transmitters c.requires.gates (same_length _ _ _ c.clients.ensures.value)

pub client_jobs-requires-clause-gates : goal.client_jobs-requires-clause-gates
client_jobs-requires-clause-gates g c = c.in_ok-transmitter_gates.ensures.len ∙ same_length _ _ _ c.clients.ensures.value

pub transmitter_jobs-requires-clause-gates : goal.transmitter_jobs-requires-clause-gates
transmitter_jobs-requires-clause-gates g c =
    others (vec_len c.in_ok-transmitter_gates.transmitter_gates) (vec_len c.args.gates) (length c.clients.result.now) (length c.args.workload.now.clients) c.args.workload.now.transmitters
    c.requires.gates (same_length _ _ _ c.clients.ensures.value) c.in_ok-transmitter_gates.ensures.tail_len

-- ---- the parts of the pass

few_of : (gates listed parts all : ℕ) → gates ≡ listed → listed ≤ 64 → parts ≡ all → 64 < all → gates < parts
few_of gates listed parts all p q r s = omega arith

left_over : (left jobs clients listed parts all : ℕ) → left + jobs ≡ parts → jobs ≡ clients → listed ≡ clients → listed ≤ 64 → parts ≡ all → 128 < all → 64 < left
left_over left jobs clients listed parts all p q r s t u = omega arith

pub client_jobs-requires-clause-parts : goal.client_jobs-requires-clause-parts
client_jobs-requires-clause-parts g c =
    few_of (vec_len c.split_off.new.self) (length c.clients.result.now) (g.S.Steps.shares c.args.table.now).parts all_parts c.in_ok-transmitter_gates.ensures.len c.clients.ensures.range.1 c.requires.all.0 (omega arith)

pub transmitter_jobs-requires-clause-parts : goal.transmitter_jobs-requires-clause-parts
transmitter_jobs-requires-clause-parts g c =
    left_over (g.S.Steps.shares c.client_jobs.new.table).parts (vec_len c.in_ok-clients.clients) (length c.args.workload.now.clients) (length c.clients.result.now) (g.S.Steps.shares c.args.table.now).parts all_parts
    c.in_ok-clients.ensures.parts c.in_ok-clients.ensures.each (same_length _ _ _ c.clients.ensures.value) c.clients.ensures.range.1 c.requires.all.0 (omega arith)

-- ---- what comes back

-- of so many parts two numbers are given away, and both come back
all_back : {T E : Type 0} (r : Result T E) (f g : T → ℕ) (left first second mid was all : ℕ) →
    mid + first ≡ was → was ≡ all → left + second ≡ mid → IfOk r (λ x. f x ≡ first) → IfOk r (λ x. g x ≡ second) → IfOk r (λ x. left + f x + g x ≡ all)
all_back (Ok x) f g left first second mid was all p q o u v = omega arith
all_back (Err e) f g left first second mid was all p q o u v = tt

pub returns-clause-each : goal.returns-clause-each
returns-clause-each g c = IfOk-weaker c.run_jobs.result _ _ (λ done own. own ∙ c.in_ok-clients.ensures.each) c.run_jobs.ensures.first

pub returns-clause-parts : goal.returns-clause-parts
returns-clause-parts g c =
    all_back c.run_jobs.result (λ done. vec_len done.0) (λ done. vec_len done.1) (g.S.Steps.shares c.transmitter_jobs.new.table).parts (vec_len c.in_ok-clients.clients) (vec_len c.in_ok-transmitters.transmitters) (g.S.Steps.shares c.client_jobs.new.table).parts (g.S.Steps.shares c.args.table.now).parts all_parts
    c.in_ok-clients.ensures.parts c.requires.all.0 c.in_ok-transmitters.ensures.parts c.run_jobs.ensures.first c.run_jobs.ensures.second

pub returns-clause-aborts : goal.returns-clause-aborts
returns-clause-aborts g c = c.transmitter_jobs.ensures.aborts ∙ c.client_jobs.ensures.aborts ∙ c.requires.all.1
