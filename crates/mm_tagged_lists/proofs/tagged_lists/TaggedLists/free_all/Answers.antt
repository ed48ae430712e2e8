use Rattle.std.proofs.Common.{refl, ◌≡◌, ◌++◌, None, length, fold, set, take, drop, ap, ◌∙◌, arith}
use Rattle.mm_tagged_lists.specs.TaggedLists.{freed, list_at}
use Rattle.mm_tagged_lists.specs.private.Linked.{links_of, spots_of, AreLinked}
use Rattle.mm_tagged_lists.specs.private.Path.{IsPath, freed_in}
use Rattle.mm_tagged_lists.proofs.Lemmas.Linked.{first_is}
use Rattle.mm_tagged_lists.proofs.Lemmas.Path.{chain_path}
use Rattle.mm_tagged_lists.proofs.Lemmas.FreedAll.{unlinked_at, all_linked, links_freed, spots_freed, length_freed}
use Rattle.mm_tagged_lists.proofs.Lemmas.Items.{links_now, length-links_of, shown_written, IsShown}
use Rattle.mm_tagged_lists.proofs.tagged_lists.TaggedLists.free_all.Goals as goal

path : (c : goal.After-deref_mut) → IsPath (links_of c.deref_mut.result.now) c.replace-first.result (list_at c.args.self.now c.args.list)
path c =
    let rs = c.self.inside.items.items in
    let s = c.args.self.now in
    let linked = links_now s c.self.inside.firsts.items rs c.self.view_is c.self.invariant in
    let first = first_is s c.self.inside.firsts.items (links_of rs) linked c.args.list c.replace-first.result c.index_mut.result.now c.requires (c.replace-first.ensures.value ∙ c.index_mut.ensures.value) in
    rw (c.deref_mut.ensures.value, first) (chain_path (links_of rs) None (list_at s c.args.list) (linked.chains c.args.list))

pub free_from-requires : goal.free_from-requires
free_from-requires c =
    let s = c.args.self.now in
    let linked = links_now s c.self.inside.firsts.items c.self.inside.items.items c.self.view_is c.self.invariant in
    (list_at s c.args.list, linked.matched.once c.args.list, path c)

shown : (c : goal.After-self-2-1) → IsShown (fold freed c.args.self.now (list_at c.args.self.now c.args.list)) (set c.self.inside.firsts.items c.args.list c.replace-first.new.dest)
    (take c.self.inside.items.len (c.free_from.new.items ++ drop (length c.free_from.new.items) c.self.inside.items.items))
shown c =
    let inside = c.self.inside in
    let rs = inside.items.items in
    let s = c.args.self.now in
    let p = c.args.list in
    let list = list_at s p in
    let linked = links_now s inside.firsts.items rs c.self.view_is c.self.invariant in
    let first = first_is s inside.firsts.items (links_of rs) linked p c.replace-first.result c.index_mut.result.now c.requires (c.replace-first.ensures.value ∙ c.index_mut.ensures.value) in
    let along : IsPath (links_of c.deref_mut.result.now) c.replace-first.result list = rw (c.deref_mut.ensures.value, first) (chain_path (links_of rs) None list (linked.chains p)) in
    let new : c.free_from.new.items ≡ fold freed_in rs list = c.free_from.ensures list (linked.matched.once p) along ∙ ap (λ now. fold freed_in now list) c.deref_mut.ensures.value in
    let links : links_of c.free_from.new.items ≡ fold unlinked_at (links_of rs) list = ap links_of new ∙ links_freed list rs in
    let spots : spots_of c.free_from.new.items ≡ (fold freed s list).spots = ap spots_of new ∙ spots_freed list rs s (ap (λ o. o.spots) c.self.view_is) in
    let all = all_linked p list s inside.firsts.items (links_of rs) linked c.requires refl in
    let after : AreLinked (fold freed s list) (set inside.firsts.items p c.replace-first.new.dest) (links_of c.free_from.new.items) = rw (links, c.replace-first.ensures.after) all in
    shown_written (fold freed s list) (set inside.firsts.items p c.replace-first.new.dest) inside.items.len c.free_from.new.items _ (omega (arith, linked.size, length-links_of rs, length_freed list s, inside.items.ok)) after spots

pub invariant_of-self : goal.invariant_of-self
invariant_of-self c = (shown c).kept

pub returns-clause-freed : goal.returns-clause-freed
returns-clause-freed c = (shown c).is

pub returns-clause-matched : goal.returns-clause-matched
returns-clause-matched c = (links_now c.args.self.now c.self.inside.firsts.items c.self.inside.items.items c.self.view_is c.self.invariant).matched
