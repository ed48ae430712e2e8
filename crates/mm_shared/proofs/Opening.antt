-- A new board shows a table that was just opened.
use Rattle.std.proofs.Common.{◌≡◌, ℕ, None, subst, sym, ap, ◌∙◌, arith}
use Rattle.std.proofs.lemmas.List.FromFn.{get_or-map-range_with_len}
use Rattle.mm_label.specs.Label.{opening_label}
use Rattle.mm_lists.proofs.Lemmas.Set.{read_replicate}
use Rattle.mm_board.specs.declared.views.Published.{Published}
use Rattle.mm_board.specs.Views.{opening_published}
use Rattle.mm_board.proofs.Current.{current_label_at_first}
use Rattle.mm_board.proofs.Opens.{length-opening_histories, length-opening_holders}
use Rattle.mm_rules.specs.declared.config.Config.{Config}
use Rattle.mm_rules.specs.TableState.{TableState, opening}
use Rattle.mm_shared.specs.Published.{IsPublished}

opening_shown : (c : Config) → IsPublished (opening_published c.processes) (opening c)
opening_shown c = record {
  histories = length-opening_histories c.processes;
  holders = length-opening_holders c.processes;
  shown = λ n within. record {
    label = current_label_at_first c.processes n within ∙ sym (get_or-map-range_with_len opening_label 0 c.processes n n (opening_label n) within (omega arith));
    holder = read_replicate None c.processes n;
  };
}

pub opening_is_published : (p : Published) (processes : ℕ) (s : TableState) (c : Config) → p ≡ opening_published processes → processes ≡ c.processes → s ≡ opening c → IsPublished p s
opening_is_published p processes s c is same opened =
    subst (λ (s : TableState). IsPublished p s) (sym opened) (subst (λ (p : Published). IsPublished p (opening c)) (sym (is ∙ ap opening_published same)) (opening_shown c))
