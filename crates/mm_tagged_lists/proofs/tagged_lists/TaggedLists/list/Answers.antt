use Rattle.std.proofs.Common.{◌<◌, ◌++◌, ◌∷◌, [], length, arith, ap, sym, ◌∙◌, append_assoc, length-append}
use Rattle.mm_tagged_lists.specs.TaggedLists.{list_at}
use Rattle.mm_tagged_lists.proofs.Lemmas.Walk.{rest_from, rest_from-head, Among-head, Among-next, rest_from-next, rest_from-some, among_in_range, length-list}
use Rattle.mm_tagged_lists.proofs.tagged_lists.TaggedLists.list.Goals as goal

pub list-init : goal.list-init
list-init c = record {
  among = λ q is. Among-head (list_at c.args.self.now c.args.list) q (sym c.first-next.ensures.first ∙ is);
  whole = ap (λ rs. rs ++ rest_from (list_at c.args.self.now c.args.list) c.first-next.result) c.clear.ensures.items
      ∙ ap (rest_from (list_at c.args.self.now c.args.list)) c.first-next.ensures.first ∙ rest_from-head (list_at c.args.self.now c.args.list);
  room = c.clear.ensures.capacity;
}

pub push_reserved-requires : goal.push_reserved-requires
push_reserved-requires c =
    let s = c.args.self.now in
    let list = list_at s c.args.list in
    let some : 0 < length (rest_from list c.list.next) = rest_from-some list c.list.next c.in-Some.item c.in-Some.is (c.list.invariant.among c.in-Some.item c.in-Some.is) in
    omega (arith, some, ap length c.list.invariant.whole, length-append c.list.items.items (rest_from list c.list.next), length-list s c.args.list c.first-next.ensures.matched, c.requires.room, c.list.invariant.room, c.list.items.ok)

pub next-next-requires : goal.next-next-requires
next-next-requires c = among_in_range c.args.self.now c.args.list c.in-Some.item c.first-next.ensures.matched (c.list.invariant.among c.in-Some.item c.in-Some.is)

pub list-smaller : goal.list-smaller
list-smaller c =
    let s = c.args.self.now in
    let among = c.list.invariant.among c.in-Some.item c.in-Some.is in
    let here = ap (rest_from (list_at s c.args.list)) c.in-Some.is
    ∙ rest_from-next s c.args.list c.in-Some.item c.next-next.result among c.next-next.ensures.listed (c.first-next.ensures.matched.once c.args.list) in
    omega (arith, ap length here)

pub list-preserved : goal.list-preserved
list-preserved c =
    let s = c.args.self.now in
    let list = list_at s c.args.list in
    let among = c.list.invariant.among c.in-Some.item c.in-Some.is in
    let here = ap (rest_from list) c.in-Some.is
    ∙ rest_from-next s c.args.list c.in-Some.item c.next-next.result among c.next-next.ensures.listed (c.first-next.ensures.matched.once c.args.list) in
    record {
      among = λ q is. Among-next s c.args.list c.in-Some.item c.next-next.result among c.next-next.ensures.listed q is;
      whole = ap (λ rs. rs ++ rest_from list c.next-next.result) c.push_reserved.ensures.items
          ∙ append_assoc c.list.items.items (c.in-Some.item ∷ []) (rest_from list c.next-next.result)
          ∙ ap (λ rs. c.list.items.items ++ rs) (sym here) ∙ c.list.invariant.whole;
      room = c.push_reserved.ensures.capacity ∙ c.list.invariant.room;
    }
