use Rattle.std.proofs.Common.{◌∙◌, ◌++◌, [], refl, sym, append-nil, rules}
use Rattle.mm_service.proofs.Lemmas.Pieces.{writes_printed}
use Rattle.mm_connections.specs.Hub.{Hub}
use Rattle.mm_connections.specs.Text.{GivesBack, told_text}
use Rattle.mm_connections.specs.private.Served.{hub_of}
use Rattle.mm_connections.proofs.Lemmas.Lines.{writes_told}
use Rattle.mm_connections.proofs.Lemmas.Parts.{gives_config, gives_more, gives_none}
use Rattle.mm_connections.proofs.served.ServedManager.give_back.Goals as goal

pub name-init : goal.name-init
name-init g c = record {
  options = refl;
  begun = refl;
  config = refl;
  told = [];
  lost = c.args.output.now.items;
  gives = gives_none c.args.but c.args.key (hub_of c.args.self.now);
  writes = writes_printed _ c.args.output.now.items [] c.args.output.now.items (sym (append-nil c.args.output.now.items));
  kept = refl;
  fault = search rules;
}

pub name-preserved : goal.name-preserved
name-preserved g c =
    let inv = c.name.invariant in
    let key = c.args.key in
    let start : Hub = hub_of c.args.self.now in
    let old : Hub = hub_of c.name.self in
    let mid : Hub = record { manager = c.unlock_any-answer.new.self; begun = c.name.self.begun; counts = c.name.self.counts; options = c.name.self.options } in
    let one = told_text c.args.but mid in
    let given : GivesBack c.args.but key old one mid = record {
      answer = c.unlock_any-answer.result;
      did = record { unlocks = c.unlock_any-answer.ensures.unlocks; totals = c.unlock_any-answer.ensures.totals };
      lawful = c.keeps_laws.ensures;
      rest = refl;
      text = refl;
    } in
    let written =
    writes_told _ _ _ c.args.output.now.items inv.told inv.lost c.name.output.items one c.write_told_after-written.new.output.items c.name.written c.write_told_after-written.result inv.writes inv.kept
    c.write_told_after-written.ensures.told in
    record {
      options = inv.options;
      begun = inv.begun;
      config = gives_config c.name.self.manager c.unlock_any-answer.new.self key c.unlock_any-answer.result c.unlock_any-answer.ensures.unlocks ∙ inv.config;
      told = inv.told ++ one;
      lost = written.0;
      gives = gives_more c.args.but key c.name.counter start old inv.told one mid inv.gives given;
      writes = written.1;
      kept = written.2;
      fault = c.write_told_after-written.ensures.fault;
    }
