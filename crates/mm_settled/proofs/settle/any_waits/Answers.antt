use Rattle.std.proofs.Common.{◌≡◌, true, false, None, option_map, slice_index_or, refl, sym, ap, subst, ◌∙◌}
use Rattle.std.specs.Prelude.{is_some, option_and_then}
use Rattle.std.proofs.lemmas.List.{take_all}
use Rattle.mm_arena.specs.declared.key.Key.{Key}
use Rattle.mm_lists.specs.Members.{Among}
use Rattle.mm_lists.proofs.Lemmas.Among.{all_from}
use Rattle.mm_rules.specs.TableState.{owner_of, wait_of}
use Rattle.mm_rules.proofs.States.Lookups.{none_of_is_some}
use Rattle.mm_settled.proofs.Lemmas.Loops.{all_index, among_more}
use Rattle.mm_settled.proofs.settle.any_waits.Goals as goal

pub loop-process-init : goal.loop-process-init
loop-process-init c = λ n among. absurd among

pub loop-process-preserved : goal.loop-process-preserved
loop-process-preserved c =
    let s = c.args.table.now in
    let ns = c.args.processes.now in
    let i = c.loop-process.process-index in
    let idle : wait_of s (slice_index_or ns i 0) ≡ None = (let none = none_of_is_some c.holder.result (sym c.is_some.ensures ∙ c.if-is_some.false) in rw none at c.holder.ensures.idle) in
    among_more (λ n. wait_of s n ≡ None) ns i c.loop-process-test.true c.loop-process.invariant idle

pub returns-then-is_some : goal.returns-then-is_some
returns-then-is_some c =
    let s = c.args.table.now in
    let ns = c.args.processes.now in
    let i = c.loop-process.process-index in
    let listed : Among (slice_index_or ns i 0) ns = all_index (λ n. Among n ns) ns i (all_from (λ n. Among n ns) ns (λ n among. among)) c.loop-process-test.true in (
      λ fails. absurd (cc),
      λ none.
          let quiet : c.holder.result ≡ None
          = c.holder.ensures.holder ∙ ap (λ w. option_map (λ (k : Key). k.process) (option_and_then (owner_of s) w)) (none (slice_index_or ns i 0) listed) in
          let never : true ≡ false = sym c.if-is_some.true ∙ c.is_some.ensures ∙ ap (λ o. is_some o) quiet in
          absurd (cc),
    )

pub returns : goal.returns
returns c = (
  λ fails n among. c.loop-process.invariant n (subst (Among n) (sym (take_all c.loop-process.process-index c.args.processes.now c.loop-process-test.false)) among),
  λ none. refl,
)
