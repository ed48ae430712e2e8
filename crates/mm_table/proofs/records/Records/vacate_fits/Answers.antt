use Rattle.std.proofs.Common.{◌≡◌, ◌∷◌, length, IsTrue, sym, ap, subst, ◌∙◌, inl, inr, arith}
use Rattle.mm_lists.specs.Members.{Among}
use Rattle.mm_tagged_lists.specs.TaggedLists.{list_at}
use Rattle.mm_tagged_lists.proofs.Lemmas.ListsMatchSpots.{in_range}
use Rattle.mm_tagged_lists.proofs.Lemmas.Walk.{rest_from, Among-head, Among-next, rest_from-head, rest_from-next}
use Rattle.mm_rules.specs.Change.{hand_over_fits}
use Rattle.mm_table.proofs.Fields.Ownership.{listed, some_past, all_fit}
use Rattle.mm_table.proofs.Fields.Labels.{vacate_then_fits}
use Rattle.mm_table.proofs.records.Records.vacate_fits.Goals as goal

pub loop-next-init : goal.loop-next-init
loop-next-init c =
    let list = list_at c.self.inside.owned c.args.process in
    let first = c.first-next.ensures.first in (
      λ q is. Among-head list q (sym first ∙ is),
      λ q among. inr (subst (Among q) (sym (ap (rest_from list) first ∙ rest_from-head list)) among),
    )

pub returns-then-not-hand_over_fits : goal.returns-then-not-hand_over_fits
returns-then-not-hand_over_fits c =
    let lists = listed c.self.inside c.args.self.now c.self.invariant c.self.view_is c.first-next.ensures.matched in
    sym (some_past c.args.self.now c.self.inside.owned lists c.args.process c.in-Some.resource (c.loop-next.invariant.0 c.in-Some.resource c.in-Some.is) (sym c.hand_over_fits.ensures ∙ c.if-not-hand_over_fits.true))

pub hand_over_fits-requires : goal.hand_over_fits-requires
hand_over_fits-requires c =
    (listed c.self.inside c.args.self.now c.self.invariant c.self.view_is c.first-next.ensures.matched).within c.args.process c.in-Some.resource (c.loop-next.invariant.0 c.in-Some.resource c.in-Some.is)

pub next-next-requires : goal.next-next-requires
next-next-requires c =
    in_range c.self.inside.owned c.first-next.ensures.matched c.args.process c.in-Some.resource (c.loop-next.invariant.0 c.in-Some.resource c.in-Some.is)

pub loop-next-smaller : goal.loop-next-smaller
loop-next-smaller c =
    let owned = c.self.inside.owned in
    let list = list_at owned c.args.process in
    let among = c.loop-next.invariant.0 c.in-Some.resource c.in-Some.is in
    let rest : rest_from list c.loop-next.next ≡ c.in-Some.resource ∷ rest_from list c.next-next.result =
    ap (rest_from list) c.in-Some.is ∙ rest_from-next owned c.args.process _ _ among c.next-next.ensures.listed (c.first-next.ensures.matched.once c.args.process) in
    omega (arith, ap length rest)

pub loop-next-preserved : goal.loop-next-preserved
loop-next-preserved c =
    let owned = c.self.inside.owned in
    let list = list_at owned c.args.process in
    let among = c.loop-next.invariant.0 c.in-Some.resource c.in-Some.is in
    let rest : rest_from list c.loop-next.next ≡ c.in-Some.resource ∷ rest_from list c.next-next.result =
    ap (rest_from list) c.in-Some.is ∙ rest_from-next owned c.args.process _ _ among c.next-next.ensures.listed (c.first-next.ensures.matched.once c.args.process) in (
      Among-next owned c.args.process _ _ among c.next-next.ensures.listed,
      λ q there. elim (c.loop-next.invariant.1 q there) [
        | inl fits ↦ inl fits
        | inr left ↦ elim (subst (Among q) rest left) [
          | inl same ↦ inl (subst (λ x. IsTrue (hand_over_fits c.args.self.now x)) (sym same) (sym c.hand_over_fits.ensures ∙ c.if-not-hand_over_fits.false))
          | inr later ↦ inr later
        ]
      ],
    )

pub returns : goal.returns
returns c =
    let list = list_at c.self.inside.owned c.args.process in
    let lists = listed c.self.inside c.args.self.now c.self.invariant c.self.view_is c.first-next.ensures.matched in
    sym (all_fit c.args.self.now c.self.inside.owned lists c.args.process (λ q among. elim (c.loop-next.invariant.1 q among) [
      | inl fits ↦ fits
      | inr left ↦ absurd (subst (Among q) (ap (rest_from list) c.in_default.is) left)
    ]))

pub returns-then-all_labels_fit : goal.returns-then-all_labels_fit
returns-then-all_labels_fit c = sym (vacate_then_fits c.args.self.now c.args.process (c.all_labels_fit.ensures c.if-all_labels_fit.true))
