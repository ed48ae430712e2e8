use Rattle.std.proofs.Common.{◌≡◌, Some, option_map, length, arith, ap, sym, subst, ◌∙◌, inl, inr, IsTrue, rules}
use Rattle.mm_lists.specs.Members.{Among}
use Rattle.mm_tagged_lists.specs.TaggedLists.{list_at}
use Rattle.mm_tagged_lists.proofs.Lemmas.ListsMatchSpots.{in_range, in_its_list}
use Rattle.mm_tagged_lists.proofs.Lemmas.Walk.{rest_from, rest_from-head, Among-head, Among-next, rest_from-next}
use Rattle.mm_names.specs.Names.{name_of}
use Rattle.mm_names.proofs.names.find_in_list.Goals as goal
use Rattle.mm_names.proofs.names.find_in_list.Goals.{else-has_tag-via-then-has_tag+else-has, else-has_tag-via-else-has_tag}

pub list-init : goal.list-init
list-init c =
    let list = list_at c.args.index.now c.args.spot.list in
    let first = c.first-next.ensures.first in
    record {
      among = λ q is. Among-head list q (sym first ∙ is);
      left = λ n is. subst (Among n) (sym (ap (rest_from list) first ∙ rest_from-head list)) (in_its_list c.args.index.now c.first-next.ensures.matched n c.args.spot (c.requires.at_spot n is));
    }

pub has_tag-requires : goal.has_tag-requires
has_tag-requires c =
    in_range c.args.index.now c.first-next.ensures.matched c.args.spot.list c.in-Some.number (c.list.invariant.among c.in-Some.number c.in-Some.is)

pub next-next-requires : goal.next-next-requires
next-next-requires c =
    in_range c.args.index.now c.first-next.ensures.matched c.args.spot.list c.in-Some.number (c.list.invariant.among c.in-Some.number c.in-Some.is)

pub list-smaller : goal.list-smaller
list-smaller c =
    let s = c.args.index.now in
    let among = c.list.invariant.among c.in-Some.number c.in-Some.is in
    let here = ap (rest_from (list_at s c.args.spot.list)) c.in-Some.is
    ∙ rest_from-next s c.args.spot.list c.in-Some.number c.next-next.result among c.next-next.ensures.listed (c.first-next.ensures.matched.once c.args.spot.list) in
    omega (arith, ap length here)

pub list-preserved : goal.list-preserved
list-preserved c =
    let s = c.args.index.now in
    let among = c.list.invariant.among c.in-Some.number c.in-Some.is in
    let here = ap (rest_from (list_at s c.args.spot.list)) c.in-Some.is
    ∙ rest_from-next s c.args.spot.list c.in-Some.number c.next-next.result among c.next-next.ensures.listed (c.first-next.ensures.matched.once c.args.spot.list) in
    record {
      among = λ q is. Among-next s c.args.spot.list c.in-Some.number c.next-next.result among c.next-next.ensures.listed q is;
      left = λ n is. elim (subst (Among n) here (c.list.invariant.left n is)) [
        | inl same ↦
            let there : name_of c.args.places.now c.in-Some.number ≡ Some c.args.name.now = ap (name_of c.args.places.now) (sym same) ∙ is in
            let tagged : IsTrue c.has_tag.result = c.has_tag.ensures.1 (ap (option_map (λ spot. spot.tag)) (c.requires.at_spot c.in-Some.number there)) in
            absurd (elim c.else-has_tag.branch [
              | else-has_tag-via-then-has_tag+else-has w ↦ (let yes : IsTrue w.has.result = w.has.ensures.1 there in search (rules, yes, w.if-has.false))
              | else-has_tag-via-else-has_tag w ↦ search (rules, tagged, w.if-has_tag.false)
            ])
        | inr later ↦ later
      ];
    }
