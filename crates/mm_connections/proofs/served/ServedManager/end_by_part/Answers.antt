use Rattle.std.proofs.Common.{◌∙◌, ap, ◌++◌, refl}
use Rattle.mm_tagged_lists.specs.TaggedLists.{Listing}
use Rattle.mm_service.proofs.Lemmas.Config.{cancels_config}
use Rattle.mm_connections.specs.Hub.{Hub}
use Rattle.mm_connections.specs.Text.{more_text}
use Rattle.mm_connections.proofs.Lemmas.Lines.{writes_told}
use Rattle.mm_connections.proofs.served.ServedManager.end_by_part.Goals as goal

pub returns-clause-ends : goal.returns-clause-ends
returns-clause-ends g c =
    let gives = c.give_back-outcome.ensures.gives in
    let end = more_text c.args.key in
    let with_begun : Listing → Hub = λ b. record { manager = c.cancel-answer.new.self; begun = b; counts = c.args.self.now.counts; options = c.args.self.now.options } in
    let idle : Hub = with_begun c.set_aside.new.self in
    let written =
    writes_told _ _ _ c.args.output.now.items gives.0 gives.1 c.give_back-outcome.new.output.items end c.write_more_after.new.output.items c.give_back-outcome.result c.write_more_after.result gives.3 gives.4
    c.write_more_after.ensures.more in (
      gives.0 ++ end,
      written.0,
      record {
        idle = idle;
        answer = c.cancel-answer.result;
        did = record { cancels = c.cancel-answer.ensures.cancels; totals = c.cancel-answer.ensures.totals };
        back = c.keeps_laws.ensures;
        rest = ap with_begun c.set_aside.ensures.aside;
        told = gives.0;
        gives = gives.2;
        lawful = record { manager = c.keeps_laws-2.ensures; lists = c.keeps_laws-3.ensures };
        text = refl;
      },
      written.1,
      written.2,
    )

pub returns-clause-config : goal.returns-clause-config
returns-clause-config g c = c.give_back-outcome.ensures.config ∙ cancels_config c.args.self.now.manager c.cancel-answer.new.self c.args.key c.cancel-answer.result c.cancel-answer.ensures.cancels
