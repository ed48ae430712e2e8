use Rattle.std.proofs.Common.{◌≡◌, ◌∙◌, ap, refl, subst, arith, length, drop, length-drop}
use Rattle.mm_lines.specs.Words.{words_of}
use Rattle.mm_lines.specs.WordsLeft.{words_left}
use Rattle.mm_service.specs.Reply.{line_text}
use Rattle.mm_connections.specs.Names.{LocksNames, stop_text}
use Rattle.mm_connections.proofs.Lemmas.Config.{names_config}
use Rattle.mm_connections.proofs.Lemmas.Few.{few_words}
use Rattle.mm_connections.proofs.Lemmas.Outcomes.{came_to}
use Rattle.mm_connections.proofs.served.ServedManager.lock_all.Goals as goal

pub lock_names-stop-requires : goal.lock_names-stop-requires
lock_names-stop-requires g c =
    let words = words_of c.args.line.now in
    let left : words_left c.skip_words.new.words ≡ drop 2 words = c.skip_words.ensures ∙ ap (drop 2) c.new-names.ensures in
    omega (arith, ap length left, length-drop 2 words, few_words c.args.line.now, c.requires.short)

pub returns-clause-replies : goal.returns-clause-replies
returns-clause-replies g c =
    let words = words_of c.args.line.now in
    let left : words_left c.skip_words.new.words ≡ drop 2 words = c.skip_words.ensures ∙ ap (drop 2) c.new-names.ensures in
    let k = c.args.key in
    let m = c.lock_names-stop.new.manager in
    let stop = c.lock_names-stop.result in
    let all = subst (λ ws. LocksNames 0 k ws c.args.self.now.manager stop m) left c.lock_names-stop.ensures in
    let effect = c.stop_effect.result in
    let written = c.write_stop-outcome.ensures.written in
    (line_text (stop_text m k stop), effect, written.0, (stop, all, refl, c.stop_effect.ensures, refl), written.1, rw c.and.ensures (came_to _ effect _ written.2))

pub returns-clause-config : goal.returns-clause-config
returns-clause-config g c = names_config 0 c.args.key _ c.args.self.now.manager c.lock_names-stop.result c.lock_names-stop.new.manager c.lock_names-stop.ensures
