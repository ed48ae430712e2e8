use Rattle.std.proofs.Common.{◌≡◌, ◌∙◌, ℕ, Bool, true, false, [], Option, Some, None, if◌then◌else◌, take, append-nil, ap, refl, subst, sym, arith}
use Rattle.mm_arena.specs.declared.key.Key.{Key}
use Rattle.mm_tagged_lists.specs.TaggedLists.{list_at}
use Rattle.mm_service.proofs.Lemmas.Pieces.{writes_printed}
use Rattle.mm_connections.specs.Begun.{aside_list, has_first, open_list}
use Rattle.mm_connections.specs.Hub.{Hub}
use Rattle.mm_connections.specs.Text.{EndsBy, EndsFront, long_first, to_end}
use Rattle.mm_connections.specs.private.Served.{hub_of}
use Rattle.mm_connections.proofs.Lemmas.Drops.{long_first_part}
use Rattle.mm_connections.proofs.served.ServedManager.end_part.Goals as goal

pub returns-then-has_open-clause-ends : goal.returns-then-has_open-clause-ends
returns-then-has_open-clause-ends g c =
    let h : Hub = hub_of c.args.self.now in
    let n = c.args.connection in
    let items = c.args.output.now.items in
    let left : has_first h.begun (open_list n) ≡ true = sym c.has_open.ensures ∙ c.if-has_open.true in
    let none : to_end h.begun n ≡ [] = ap (λ (b : Bool). if b then [] else take 256 (list_at h.begun (aside_list n))) left in
    ([], items, subst (λ ps. EndsFront n ps h [] h) (sym none) (refl, refl), writes_printed _ items [] items (sym (append-nil items)), refl)

-- those that may end are the front of the list, and its first one is theirs
over_part : (h : Hub) (n : ℕ) → has_first h.begun (open_list n) ≡ false → to_end h.begun n ≡ take 256 (list_at h.begun (aside_list n))
over_part h n over = ap (λ (b : Bool). if b then [] else take 256 (list_at h.begun (aside_list n))) over

first_part : (h : Hub) (n : ℕ) → long_first h (take 256 (list_at h.begun (aside_list n))) ≡ long_first h (list_at h.begun (aside_list n))
first_part h n = long_first_part h 255 256 (list_at h.begun (aside_list n)) (omega arith)

pub returns-in-Some-clause-ends : goal.returns-in-Some-clause-ends
returns-in-Some-clause-ends g c =
    let h : Hub = hub_of c.args.self.now in
    let new : Hub = hub_of c.give_back.new.self in
    let n = c.args.connection in
    let gives = c.give_back.ensures.gives in
    let part = over_part h n (sym c.has_open.ensures ∙ c.if-has_open.false) in
    let first : long_first h (to_end h.begun n) ≡ Some c.in-Some.key = ap (long_first h) part ∙ first_part h n ∙ sym c.long_first.ensures.first ∙ c.in-Some.is in
    let ends = subst (λ (o : Option Key). EndsBy o n (to_end h.begun n) h gives.0 new) (sym first) (c.in-Some.ensures.own, gives.2) in
    (gives.0, gives.1, ends, gives.3, gives.4)

pub returns-in-None-clause-ends : goal.returns-in-None-clause-ends
returns-in-None-clause-ends g c =
    let h : Hub = hub_of c.args.self.now in
    let new : Hub = hub_of c.drop_part.new.self in
    let n = c.args.connection in
    let drops = c.drop_part.ensures.drops in
    let ps = take 256 (list_at h.begun (aside_list n)) in
    let part = over_part h n (sym c.has_open.ensures ∙ c.if-has_open.false) in
    let first : long_first h ps ≡ None = first_part h n ∙ sym c.long_first.ensures.first ∙ c.in-None.is in
    let front : EndsFront n ps h drops.0 new = subst (λ (o : Option Key). EndsBy o n ps h drops.0 new) (sym first) drops.2 in
    (drops.0, drops.1, subst (λ qs. EndsFront n qs h drops.0 new) (sym part) front, drops.3, drops.4)
