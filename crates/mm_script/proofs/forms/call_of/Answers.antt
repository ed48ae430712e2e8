use Rattle.std.proofs.Common.{◌≡◌, ◌∙◌, sym, ap, rules, Some, map, option_map}
use Rattle.std.proofs.lemmas.Map.Made.{lookup-map_values}
use Rattle.std.specs.Map.{lookup}
use Rattle.std.specs.Str.{bytes_eq}
use Rattle.mm_lines.specs.Words.{◌>>=◌}
use Rattle.mm_lines.specs.WordsLeft.{words_left}
use Rattle.mm_script.specs.private.Forms.{call_by}
use Rattle.mm_script.specs.declared.forms.TheConstants.{FORMS}
use Rattle.mm_script.proofs.forms.call_of.Goals as goal

pub returns-in-Some : goal.returns-in-Some
returns-in-Some c =
    let is = bytes_eq c.args.word.now in
    let table = map (λ form. (form.0.now, form.1)) FORMS in
    let found : lookup is table ≡ Some c.in-Some.form = search rules in
    let made = lookup-map_values call_by is table ∙ ap (option_map call_by) found in
    c.call.ensures ∙ sym (ap (λ form. form >>= λ make. make (words_left c.args.arguments.now)) made)
