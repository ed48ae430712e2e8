use Rattle.std.proofs.Common.{◌≡◌, ◌∙◌, ◌-◌, ◌+◌, suc, ap, sym, subst, take, arith}
use Rattle.mm_tagged_lists.specs.TaggedLists.{Listing, list_at}
use Rattle.mm_connections.specs.Begun.{open_list}
use Rattle.mm_connections.specs.Hub.{Hub}
use Rattle.mm_connections.specs.Text.{SetsAside, SetsAllAside, to_set_aside}
use Rattle.mm_connections.specs.private.Served.{hub_of}
use Rattle.mm_service.proofs.Lemmas.Config.{cancels_config}
use Rattle.mm_connections.proofs.Lemmas.Drops.{sets_more, sets_end, take_none}
use Rattle.mm_connections.proofs.served.ServedManager.set_part_aside.Goals as goal

pub aside-preserved : goal.aside-preserved
aside-preserved c =
    let inv = c.aside.invariant in
    let n = c.args.connection in
    let key = c.in-Some.key in
    let put = c.in-Some.ensures.aside in
    let start : Hub = hub_of c.args.self.now in
    let old : Hub = hub_of c.aside.self in
    let mid : Hub = record { manager = c.cancel-answer.new.self; begun = c.set_first_aside.new.self; counts = c.aside.self.counts; options = c.aside.self.options } in
    let with_begun : Listing → Hub = λ b. record { manager = c.cancel-answer.new.self; begun = b; counts = c.aside.self.counts; options = c.aside.self.options } in
    let one : SetsAside n key.process old mid = record {
      generation = key.generation;
      was = put.2;
      answer = c.cancel-answer.result;
      did = record { cancels = c.cancel-answer.ensures.cancels; totals = c.cancel-answer.ensures.totals };
      lawful = c.keeps_laws-in-aside.ensures;
      rest = ap with_begun put.0;
    } in
    let more : 256 - c.aside.counter ≡ suc (256 - (c.aside.counter + 1)) = omega (arith, c.aside-test.true) in
    record {
      options = inv.options;
      lists = c.in-Some.ensures.lists ∙ inv.lists;
      spots = c.in-Some.ensures.spots ∙ inv.spots;
      matched = c.keeps_laws-in-aside-2.ensures;
      config = cancels_config c.aside.self.manager c.cancel-answer.new.self key c.cancel-answer.result c.cancel-answer.ensures.cancels ∙ inv.config;
      sets = sets_more n key.process (256 - (c.aside.counter + 1)) (256 - c.aside.counter) start old mid more inv.matched put.1 one inv.sets;
    }

pub returns-in_default-clause-sets : goal.returns-in_default-clause-sets
returns-in_default-clause-sets c =
    let n = c.args.connection in
    let none = c.in_default.ensures.aside in
    let start : Hub = hub_of c.args.self.now in
    let last : Hub = hub_of c.aside.self in
    let all = sets_end n (256 - c.aside.counter) start last (take_none (256 - c.aside.counter) (list_at last.begun (open_list n)) none.0) c.aside.invariant.sets in
    subst (λ (b : Listing). SetsAllAside n (to_set_aside start.begun n) start (record { manager = c.aside.self.manager; begun = b; counts = c.aside.self.counts; options = c.aside.self.options })) (sym none.1) all

pub returns-clause-sets : goal.returns-clause-sets
returns-clause-sets c =
    let n = c.args.connection in
    let last : Hub = hub_of c.aside.self in
    let list = list_at last.begun (open_list n) in
    let over : 256 - c.aside.counter ≡ 0 = omega (arith, c.aside-test.false) in
    sets_end n (256 - c.aside.counter) (hub_of c.args.self.now) last (ap (λ left. take left list) over) c.aside.invariant.sets
