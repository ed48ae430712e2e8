use Rattle.std.proofs.Common.{◌≡◌, ℕ, ◌<◌, ap, sym, subst, ◌∙◌, arith, fold, length, Some, None}
use Rattle.mm_lists.specs.Members.{Among}
use Rattle.mm_tagged_lists.specs.TaggedLists.{list_at}
use Rattle.mm_tagged_lists.proofs.Lemmas.Walk.{Among-head}
use Rattle.mm_rules.specs.TableState.{TableState, resources_of}
use Rattle.mm_rules.specs.Change.{hand_over}
use Rattle.mm_rules.proofs.States.HandOverAll.{IsUnderWay, starts, handed_one, fewer_left, stays_in}
use Rattle.mm_settle_lemmas.specs.Steps.Vacating.{IsVacating}
use Rattle.mm_settle_lemmas.proofs.Lemmas.Vacated.{vacating_starts, vacating_next}
use Rattle.mm_table.proofs.Fields.Ownership.{listed, in_resources, none_left, below, follows}
use Rattle.mm_table.proofs.records.Records.hand_over_each.Goals as goal
use Rattle.mm_table.proofs.records.Records.hand_over_each.Goals.{in-Some-following, in-None}

pub loop-next-init : goal.loop-next-init
loop-next-init c =
    let s = c.args.self.now in
    let n = c.args.process in
    let owned = c.self.inside.owned in
    let lists = listed c.self.inside s c.self.invariant c.self.view_is c.first-next.ensures.matched in
    record {
      way = starts s n c.requires.laws c.requires.active c.requires.fits;
      vacating = vacating_starts s n c.args.touched.now;
      owned = λ r is. in_resources s owned lists n r (Among-head (list_at owned n) r (sym c.first-next.ensures.first ∙ is));
      none = λ is. none_left s owned lists n (sym c.first-next.ensures.first ∙ is);
    }

pub next-following-requires : goal.next-following-requires
next-following-requires c =
    omega (arith, c.self-in-Some.invariant.sizes.owners, ap (λ s. s.config.resources) c.self-in-Some.view_is, below c.loop-next.self c.args.process c.in-Some.resource (c.loop-next.invariant.owned c.in-Some.resource c.in-Some.is))

pub hand_over-requires-clause-resource : goal.hand_over-requires-clause-resource
hand_over-requires-clause-resource c = below c.loop-next.self c.args.process c.in-Some.resource (c.loop-next.invariant.owned c.in-Some.resource c.in-Some.is)

pub hand_over-requires-clause-fits : goal.hand_over-requires-clause-fits
hand_over-requires-clause-fits c = c.loop-next.invariant.way.now.fits c.in-Some.resource (c.loop-next.invariant.owned c.in-Some.resource c.in-Some.is)

way_then : (c : goal.Joined-following) → IsUnderWay c.args.self.now c.hand_over.new.self c.args.process
way_then c =
    let way = c.loop-next.invariant.way in
    subst (λ (t : TableState). IsUnderWay c.args.self.now t c.args.process) (sym c.hand_over.ensures.state)
    (handed_one c.args.self.now c.loop-next.self c.args.process c.in-Some.resource way (c.loop-next.invariant.owned c.in-Some.resource c.in-Some.is))

pub first-next-requires-in-None : goal.first-next-requires-in-None
first-next-requires-in-None c =
    let then = handed_one c.args.self.now c.loop-next.self c.args.process c.in-Some.resource c.loop-next.invariant.way (c.loop-next.invariant.owned c.in-Some.resource c.in-Some.is) in
    let same = ap (λ (t : TableState). t.config.processes) (c.self-in-Some-2.view_is ∙ c.hand_over.ensures.state) in
    omega (arith, c.self-in-Some-2.invariant.sizes.lists, same, ap (λ k. k.processes) then.config, c.requires.process)

pub loop-next-smaller : goal.loop-next-smaller
loop-next-smaller c =
    let s = c.loop-next.self in
    let n = c.args.process in
    subst (λ (t : TableState). length (resources_of t n) < length (resources_of s n)) (sym c.hand_over.ensures.state)
    (fewer_left c.args.self.now s n c.in-Some.resource c.loop-next.invariant.way (c.loop-next.invariant.owned c.in-Some.resource c.in-Some.is))

pub loop-next-preserved : goal.loop-next-preserved
loop-next-preserved c =
    let old = c.args.self.now in
    let s = c.loop-next.self in
    let t = c.hand_over.new.self in
    let n = c.args.process in
    let r = c.in-Some.resource in
    let way = c.loop-next.invariant.way in
    let found = c.loop-next.invariant.owned r c.in-Some.is in
    let owner = way.now.owned r found in
    let laws = way.now.keeps.laws in
    let within : r < length s.owners = omega (arith, laws.lawful.well_formed.sizes.owners, below s n r found) in
    let inside = c.self-in-Some.inside in
    let lists = listed inside s c.self-in-Some.invariant c.self-in-Some.view_is c.next-following.ensures.matched in
    let then = c.self-in-Some-2.inside in
    let now : (q : ℕ) → Among q (resources_of (hand_over s r) n) → Among q (resources_of t n) =
    λ q among. subst (λ (u : TableState). Among q (resources_of u n)) (sym c.hand_over.ensures.state) among in
    record {
      way = way_then c;
      vacating = subst (λ (u : TableState). IsVacating old n u c.args.touched.now c.hand_over.new.touched) (sym c.hand_over.ensures.state)
          (vacating_next old s n r owner.0 c.args.touched.now c.loop-next.touched c.hand_over.new.touched laws within owner.1 owner.2 way.now.active
          c.loop-next.invariant.vacating c.hand_over.ensures.touched);
      owned = λ q is. elim c.match-following.branch [
        | in-Some-following w ↦
            let other = follows s inside.owned lists n r c.next-following.result (c.next-following.ensures.matched.once n) c.next-following.ensures.listed found q (sym w.next-is ∙ is) in
            now q (stays_in old s n r way found q other.0 other.1)
        | in-None w ↦
            let first = w.first-next-in-None in
            in_resources t then.owned (listed then t c.self-in-Some-2.invariant c.self-in-Some-2.view_is first.ensures.matched) n q
            (Among-head (list_at then.owned n) q (sym first.ensures.first ∙ sym w.next-is ∙ is))
      ];
      none = λ is. elim c.match-following.branch [
        | in-Some-following w ↦ let never : Some w.in-Some-following.field-0 ≡ None = sym w.in-Some-following.is ∙ sym w.next-is ∙ is in absurd (cc)
        | in-None w ↦
            let first = w.first-next-in-None in
            none_left t then.owned (listed then t c.self-in-Some-2.invariant c.self-in-Some-2.view_is first.ensures.matched) n (sym first.ensures.first ∙ sym w.next-is ∙ is)
      ];
    }

pub returns-clause-state : goal.returns-clause-state
returns-clause-state c =
    ap (fold hand_over c.loop-next.self) (sym (c.loop-next.invariant.none c.in_default.is)) ∙ c.loop-next.invariant.way.rest
