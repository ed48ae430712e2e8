use Rattle.std.proofs.Common.{ℕ, ◌≡◌, ◌+◌, ◌≤◌, List, length, map, sym, ap, ◌∙◌, arith, vec_len, vec_capacity, count_by}
use Rattle.std.proofs.lemmas.List.{length-map}
use Rattle.std.proofs.lemmas.Result.{IfOk-weaker}
use Rattle.mm_clients.specs.End.{is_aborted}
use Rattle.mm_clients.specs.declared.earlier.EarlierEnds.{EarlierEnds}
use Rattle.mm_counts.specs.Shares.{all_parts}
use Rattle.mm_workers.proofs.run.ends_of.Goals as goal

all_back : (left first second mid last all : ℕ) → left + first + second ≡ all → mid ≡ left + first → last ≡ mid + second → last ≡ all
all_back left first second mid last all p q r = omega arith

all_counted : (before count earlier own mid last : ℕ) → before ≡ 0 → mid ≡ before + count + earlier → last ≡ mid → own ≡ earlier → count + own ≡ last
all_counted before count earlier own mid last p q r s = omega arith

pub returns : goal.returns
returns g c =
    let all : (g.S.Steps.shares c.gather_transmitters.new.table).parts ≡ all_parts =
    all_back (g.S.Steps.shares c.run_workers.new.table).parts (vec_len c.in_ok-ended.ended) (vec_len c.in_ok-ended.stopped) (g.S.Steps.shares c.gather_clients-earlier.new.table).parts (g.S.Steps.shares c.gather_transmitters.new.table).parts all_parts
    c.in_ok-ended.ensures.parts c.gather_clients-earlier.ensures.parts c.gather_transmitters.ensures.parts in
    let counted : (n : ℕ) → n ≡ c.gather_clients-earlier.result.aborted → count_by is_aborted c.gather_clients-earlier.new.ends.items + n ≡ (g.S.Steps.shares c.gather_transmitters.new.table).aborts =
    λ n same.
    all_counted (g.S.Steps.shares c.run_workers.new.table).aborts (count_by is_aborted c.gather_clients-earlier.new.ends.items) c.gather_clients-earlier.result.aborted n
    (g.S.Steps.shares c.gather_clients-earlier.new.table).aborts (g.S.Steps.shares c.gather_transmitters.new.table).aborts
    c.run_workers.ensures.aborts c.gather_clients-earlier.ensures.aborts c.gather_transmitters.ensures.aborts same in
    record {
      each = IfOk-weaker c.checked_ends.result _ _ (λ own same. rw same.0 (c.gather_clients-earlier.ensures.each ∙ c.in_ok-ended.ensures.each)) c.checked_ends.ensures.same;
      parts = IfOk-weaker c.checked_ends.result _ _ (λ own same. all) c.checked_ends.ensures.same;
      aborts = IfOk-weaker c.checked_ends.result _ _ (λ own same. rw same.0 (counted own.1.aborted (ap (λ (e : EarlierEnds). e.aborted) same.1))) c.checked_ends.ensures.same;
      alone = c.checked_ends.ensures.alone;
    }

-- ---- what is listed has room, and is of few clients

same_length : {A B : Type 0} (f : A → B) (xs : List A) (ys : List B) → map f xs ≡ ys → length xs ≡ length ys
same_length f xs ys e = sym (length-map xs f) ∙ ap length e

below : (ended clients listed most : ℕ) → ended ≡ clients → listed ≡ clients → listed ≤ most → ended ≤ most
below ended clients listed most p q r = omega arith

pub gather_clients-earlier-requires-clause-empty : goal.gather_clients-earlier-requires-clause-empty
gather_clients-earlier-requires-clause-empty g c = c.in_ok-ends.ensures.len

pub gather_clients-earlier-requires-clause-room : goal.gather_clients-earlier-requires-clause-room
gather_clients-earlier-requires-clause-room g c =
    below (vec_len c.in_ok-ended.ended) (length c.args.workload.now.clients) (length c.clients.result.now) (vec_capacity c.in_ok-ends.ends) c.in_ok-ended.ensures.each (same_length _ _ _ c.clients.ensures.value) c.in_ok-ends.ensures.capacity

pub gather_clients-earlier-requires-clause-few : goal.gather_clients-earlier-requires-clause-few
gather_clients-earlier-requires-clause-few g c =
    below (vec_len c.in_ok-ended.ended) (length c.args.workload.now.clients) (length c.clients.result.now) 64 c.in_ok-ended.ensures.each (same_length _ _ _ c.clients.ensures.value) c.clients.ensures.range.1
