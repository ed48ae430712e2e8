use Rattle.std.proofs.Common.{◌≡◌, ◌≤◌, ◌<◌, ℕ, Bool, false, List, Option, Some, None, inl, inr, subst, length, refl, sym, ap, ◌∙◌, arith, rules, length-set}
use Rattle.std.proofs.lemmas.Grind.{common_steps}
use Rattle.std.proofs.lemmas.Bool.{cases_lt}
use Rattle.std.specs.Option.{option_map_or}
use Rattle.mm_lists.proofs.Lemmas.Set.{true_within}
use Rattle.mm_bit_set.specs.BitSet.{has}
use Rattle.mm_rules.specs.TableState.{holder_of}
use Rattle.mm_settle_lemmas.specs.Steps.Marked.{IsNoneMarked}
use Rattle.mm_settle_lemmas.proofs.Lemmas.Changed.{loading_starts, loading_turn}
use Rattle.mm_settle_lemmas.proofs.Lemmas.Quiet.{quiet_unchanged}
use Rattle.mm_table.proofs.records.Records.load.Goals as goal

-- nobody is left in a set that has none below a number and none from there on
none_left : (changed : List Bool) (from : ℕ) → ((k : ℕ) → k < from → has changed k ≡ false) → ((k : ℕ) → from ≤ k → has changed k ≡ false) → IsNoneMarked changed
none_left changed from below above k = elim (cases_lt k from) [ inl less ↦ below k less | inr more ↦ above k more ]

-- and so no holder is
holder_out : (changed : List Bool) (o : Option ℕ) → IsNoneMarked changed → option_map_or (has changed) o false ≡ false
holder_out changed None none = refl
holder_out changed (Some h) none = none h

pub loop-process-init : goal.loop-process-init
loop-process-init c = record {
  way = loading_starts c.args.self.now c.args.changed.now c.args.pending.now c.requires.changed;
  changed_sized = c.requires.changed_sized;
  pending_sized = c.requires.pending_sized;
  first = λ start. refl;
  within = omega arith;
}

pub loop-process-preserved : goal.loop-process-preserved
loop-process-preserved c =
    let n = c.in-Some.process in
    let cleared = c.in-Some.ensures.member.1 in
    let inside : n < c.args.self.now.config.processes = omega (arith, true_within c.loop-process.changed n c.in-Some.ensures.member.0.member, c.loop-process.invariant.changed_sized) in
    record {
      way = loading_turn c.args.self.now c.loop-process.from c.loop-process.changed c.loop-process.pending c.load_one.new.pending c.loop-process.invariant.way n
          c.in-Some.ensures.member.0 (inr c.load_one.ensures.process) c.load_one.ensures.waiters c.take_next.new.self cleared;
      changed_sized = ap length cleared ∙ length-set c.loop-process.changed n _ ∙ c.loop-process.invariant.changed_sized;
      pending_sized = c.load_one.ensures.waiters.sized ∙ c.loop-process.invariant.pending_sized;
      first = λ start. absurd (omega (arith, start));
      within = omega arith;
    }

pub returns-clause-quiet : goal.returns-clause-quiet
returns-clause-quiet c idle =
    let start : c.loop-process.from ≡ 0 = search rules in
    let none = c.in_default.ensures.none.0 in
    quiet_unchanged c.args.self.now c.args.changed.now c.requires.changed
    (λ k. ap (λ set. has set k) (sym (c.loop-process.invariant.first start)) ∙ none k (omega (arith, start)))

pub returns-clause-marked : goal.returns-clause-marked
returns-clause-marked c = λ checks sized.
    let s = c.args.self.now in
    let way = c.loop-process.invariant.way in
    let none = none_left c.loop-process.changed c.loop-process.from way.below c.in_default.ensures.none.0 in
    record {
      laws = c.requires.laws;
      transmits = λ k out. way.transmits k (none k) (holder_out c.loop-process.changed (holder_of s k) none) out;
      detects = λ k out checked. way.detects k (none k) (holder_out c.loop-process.changed (holder_of s k) none) out;
      pending_sized = c.loop-process.invariant.pending_sized;
      checks_sized = sized;
    }

pub returns-clause-none : goal.returns-clause-none
returns-clause-none c =
    subst IsNoneMarked (sym c.in_default.ensures.none.1)
    (none_left c.loop-process.changed c.loop-process.from c.loop-process.invariant.way.below c.in_default.ensures.none.0)

pub load_one-requires-clause-process : goal.load_one-requires-clause-process
load_one-requires-clause-process c = grind (arith, common_steps)

pub overflow_add-from : goal.overflow_add-from
overflow_add-from c = grind (arith, common_steps)

pub loop-process-smaller : goal.loop-process-smaller
loop-process-smaller c = grind (arith, common_steps)
