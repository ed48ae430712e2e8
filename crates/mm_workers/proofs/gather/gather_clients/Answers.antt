use Rattle.std.proofs.Common.{ℕ, ◌≡◌, ◌+◌, ◌*◌, ◌≤◌, ◌<◌, List, [], ◌∷◌, ◌++◌, ap, arith, vec_len, vec_capacity, count_by}
use Rattle.std.specs.Vec.Iter.{into_iter_len}
use Rattle.std.proofs.lemmas.List.Sums.{sum_by-append}
use Rattle.mm_clients.specs.declared.end.End.{End}
use Rattle.mm_clients.specs.End.{is_aborted, aborts_of}
use Rattle.mm_counts.specs.Shares.{Shares, joined}
use Rattle.mm_workers.proofs.gather.gather_clients.Goals as goal

-- one more listed, one less to come
still_each : (listed now coming before all : ℕ) → now ≡ listed + 1 → coming + 1 ≡ before → listed + before ≡ all → now + coming ≡ all
still_each listed now coming before all p q r = omega arith

still_room : (all before now : ℕ) → all ≤ before → now ≡ before → all ≤ now
still_room all before now p q = omega arith

joined_parts : (was new other : Shares) → new ≡ joined was other → new.parts ≡ was.parts + other.parts
joined_parts was new other e = ap (λ (s : Shares). s.parts) e

joined_aborts : (was new other : Shares) → new ≡ joined was other → new.aborts ≡ was.aborts + other.aborts
joined_aborts was new other e = ap (λ (s : Shares). s.aborts) e

still_parts : (parts new own start listed now : ℕ) → new ≡ parts + own → own ≡ 1 → parts ≡ start + listed → now ≡ listed + 1 → new ≡ start + now
still_parts parts new own start listed now p q r s = omega arith

counts_one : (es new : List End) (last : End) → new ≡ es ++ last ∷ [] → count_by is_aborted new ≡ count_by is_aborted es + aborts_of last
counts_one es new last e =
    let both : count_by is_aborted new ≡ count_by is_aborted es + (0 + aborts_of last) = rw e (sum_by-append aborts_of es (last ∷ [])) in
    omega arith

still_aborts : (aborts new own start count next earlier more one : ℕ) →
    new ≡ aborts + own → own ≡ more + one → aborts ≡ start + count + earlier → next ≡ count + one → new ≡ start + next + (earlier + more)
still_aborts aborts new own start count next earlier more one p q r s = omega arith

still_few : (finished aborted more_finished more_aborted listed now : ℕ) →
    finished + aborted ≤ listed * 1000000 → more_finished + more_aborted < 1000000 → now ≡ listed + 1 →
    finished + more_finished + (aborted + more_aborted) ≤ now * 1000000
still_few finished aborted more_finished more_aborted listed now p q r = omega arith

pub loop-one-preserved : goal.loop-one-preserved
loop-one-preserved g c =
    let kept = c.loop-one.invariant in
    let own = c.into_parts-part.result.0 in
    let part : Shares = g.S.Steps.shares c.into_parts-part.result.1 in
    let before : Shares = g.S.Steps.shares c.loop-one.table in
    let after : Shares = g.S.Steps.shares c.join.new.self in
    let start : Shares = g.S.Steps.shares c.args.table.now in
    let pushed = c.push_reserved.ensures in (
      still_each (vec_len c.loop-one.ends) (vec_len c.push_reserved.new.self) (into_iter_len c.next.new.self) (into_iter_len c.loop-one.one-iterator) (vec_len c.args.ended)
          pushed.len c.in-Some.ensures.steps.1 kept.0,
      still_room (vec_len c.args.ended) (vec_capacity c.loop-one.ends) (vec_capacity c.push_reserved.new.self) kept.1 pushed.capacity,
      still_parts before.parts after.parts part.parts start.parts (vec_len c.loop-one.ends) (vec_len c.push_reserved.new.self)
          (joined_parts before after part c.join.ensures) c.into_parts-part.ensures.one_part kept.2 pushed.len,
      still_aborts before.aborts after.aborts part.aborts start.aborts (count_by is_aborted c.loop-one.ends.items) (count_by is_aborted c.push_reserved.new.self.items)
          c.loop-one.earlier.aborted own.earlier.aborted (aborts_of own.last)
          (joined_aborts before after part c.join.ensures) c.into_parts-part.ensures.counted kept.3 (counts_one c.loop-one.ends.items c.push_reserved.new.self.items own.last pushed.items),
      still_few c.loop-one.earlier.finished c.loop-one.earlier.aborted own.earlier.finished own.earlier.aborted (vec_len c.loop-one.ends) (vec_len c.push_reserved.new.self)
          kept.4 c.into_parts-part.ensures.few pushed.len,
    )
