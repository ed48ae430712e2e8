use Rattle.std.proofs.Common.{◌≡◌, ◌&&◌}
use Rattle.std.specs.List.{list_all}
use Rattle.mm_lines.specs.WordsLeft.{words_left}
use Rattle.mm_connections.specs.Forms.{are_names, is_name}
use Rattle.mm_connections.proofs.forms.are_names.Given as goal

-- those so far and those that are left
abbrev pub invariant-word : goal.invariant-word
invariant-word l = (l.all && list_all is_name (words_left l.arguments)) ≡ are_names (words_left l.fn.arguments)
