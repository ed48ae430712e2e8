use Rattle.std.proofs.Common.{◌≡◌, ◌∷◌, length, refl, sym, ap, subst, ◌∙◌, inl, inr, arith}
use Rattle.mm_lists.specs.Members.{Among}
use Rattle.mm_tagged_lists.specs.TaggedLists.{list_at}
use Rattle.mm_tagged_lists.proofs.Lemmas.ListsMatchSpots.{in_range}
use Rattle.mm_tagged_lists.proofs.Lemmas.Walk.{rest_from, Among-head, Among-next, rest_from-head, rest_from-next}
use Rattle.mm_rules.specs.TableState.{waiters_of}
use Rattle.mm_settle_lemmas.proofs.Lemmas.Waiters.{adds_by_queues}
use Rattle.mm_table.proofs.Fields.Ownership.{listed}
use Rattle.mm_table.proofs.records.Records.add_waiters.Goals as goal

pub loop-next-init : goal.loop-next-init
loop-next-init c =
    let list = list_at c.self.inside.owned c.args.holder in
    let first = c.first-next.ensures.first in
    record {
      listed = λ q is. Among-head list q (sym first ∙ is);
      kept = λ k was. was;
      added = λ q among. inr (subst (Among q) (sym (ap (rest_from list) first ∙ rest_from-head list)) among);
      sized = refl;
    }

pub add_queue-requires-clause-resource : goal.add_queue-requires-clause-resource
add_queue-requires-clause-resource c =
    (listed c.self.inside c.args.self.now c.self.invariant c.self.view_is c.first-next.ensures.matched).within c.args.holder c.in-Some.resource (c.loop-next.invariant.listed c.in-Some.resource c.in-Some.is)

pub next-next-requires : goal.next-next-requires
next-next-requires c =
    in_range c.self.inside.owned c.first-next.ensures.matched c.args.holder c.in-Some.resource (c.loop-next.invariant.listed c.in-Some.resource c.in-Some.is)

pub loop-next-smaller : goal.loop-next-smaller
loop-next-smaller c =
    let owned = c.self.inside.owned in
    let list = list_at owned c.args.holder in
    let among = c.loop-next.invariant.listed c.in-Some.resource c.in-Some.is in
    let rest : rest_from list c.loop-next.next ≡ c.in-Some.resource ∷ rest_from list c.next-next.result =
    ap (rest_from list) c.in-Some.is ∙ rest_from-next owned c.args.holder _ _ among c.next-next.ensures.listed (c.first-next.ensures.matched.once c.args.holder) in
    omega (arith, ap length rest)

pub loop-next-preserved : goal.loop-next-preserved
loop-next-preserved c =
    let owned = c.self.inside.owned in
    let list = list_at owned c.args.holder in
    let s = c.args.self.now in
    let queue = c.add_queue.ensures in
    let among = c.loop-next.invariant.listed c.in-Some.resource c.in-Some.is in
    let rest : rest_from list c.loop-next.next ≡ c.in-Some.resource ∷ rest_from list c.next-next.result =
    ap (rest_from list) c.in-Some.is ∙ rest_from-next owned c.args.holder _ _ among c.next-next.ensures.listed (c.first-next.ensures.matched.once c.args.holder) in
    record {
      listed = Among-next owned c.args.holder _ _ among c.next-next.ensures.listed;
      kept = λ k was. queue.kept k (c.loop-next.invariant.kept k was);
      added = λ q there. elim (c.loop-next.invariant.added q there) [
        | inl before ↦ inl (λ w waits. queue.kept w.key.process (before w waits))
        | inr left ↦ elim (subst (Among q) rest left) [
          | inl same ↦ inl (λ w waits. queue.added w (subst (λ r. Among w (waiters_of s r)) same waits))
          | inr later ↦ inr later
        ]
      ];
      sized = queue.sized ∙ c.loop-next.invariant.sized;
    }

pub returns : goal.returns
returns c =
    let list = list_at c.self.inside.owned c.args.holder in
    let s = c.args.self.now in
    let lists = listed c.self.inside s c.self.invariant c.self.view_is c.first-next.ensures.matched in
    adds_by_queues s c.args.holder c.args.set.now c.loop-next.set c.loop-next.invariant.kept c.loop-next.invariant.sized
    (λ r owned w waits. elim (c.loop-next.invariant.added r (lists.all c.args.holder r owned)) [
      | inl added ↦ added w waits
      | inr left ↦ absurd (subst (Among r) (ap (rest_from list) c.in_default.is) left)
    ])
