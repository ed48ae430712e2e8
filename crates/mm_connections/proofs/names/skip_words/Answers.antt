use Rattle.std.proofs.Common.{◌∙◌, ap, drop}
use Rattle.std.proofs.lemmas.List.{drop-drop}
use Rattle.mm_lines.specs.WordsLeft.{words_left}
use Rattle.mm_connections.proofs.names.skip_words.Goals as goal

pub word-preserved : goal.word-preserved
word-preserved c = c.skip_word.ensures ∙ ap (drop 1) c.word.invariant ∙ drop-drop 1 c.word.counter (words_left c.args.words.now)
