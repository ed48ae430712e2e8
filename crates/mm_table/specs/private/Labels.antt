-- The labels of all processes, as the table keeps them.
use Rattle.std.specs.Prelude.{⊤, ℕ, ◌≤◌, ◌<◌, Bool, true, List, [], ◌∷◌, length, map, fold, slice_index_or, slice_set}
use Rattle.std.specs.List.{AllByRecursion}
use Rattle.mm_label.specs.Label.{Label, opening_label, fresh_label, counter_range, process_range}
use Rattle.mm_table.specs.declared.labels.ProcessLabels.{ProcessLabels}

-- both labels of a process are this one
abbrev pub both : Label → ProcessLabels
both label = record { private = label; public = label }

-- the labels of process n at first
abbrev pub opening_labels : ℕ → ProcessLabels
opening_labels n = both (opening_label n)

abbrev pub private_in : List ProcessLabels → ℕ → Label
private_in ls n = slice_index_or (map (λ l. l.private) ls) n (opening_label n)

abbrev pub public_in : List ProcessLabels → ℕ → Label
public_in ls n = slice_index_or (map (λ l. l.public) ls) n (opening_label n)

-- the label that process n gets by waiting for one that shows this label
abbrev pub label_under : List ProcessLabels → ℕ → Label → Label
label_under ls n shown = fresh_label (public_in ls n) shown n

-- the labels after process n got its own by waiting for one that shows this label
abbrev pub written_under : List ProcessLabels → ℕ → Label → List ProcessLabels
written_under ls n shown = slice_set ls n (both (label_under ls n shown))

-- the labels after each of these processes, in turn, did
abbrev pub labels_under : List ProcessLabels → Label → List ℕ → List ProcessLabels
labels_under ls shown ns = fold (λ now n. written_under now n shown) ls ns

-- each of them has labels, and when its turn comes its new counter is in range
unfoldable pub FitUnder : List ProcessLabels → Label → List ℕ → Type 0
FitUnder ls shown [] = ⊤
FitUnder ls shown (n ∷ ns) = (n < length ls) × (n < process_range) × ((label_under ls n shown).counter < counter_range) × FitUnder (written_under ls n shown) shown ns

-- the set after each of these numbers was added
abbrev pub added_each : List Bool → List ℕ → List Bool
added_each set ns = fold (λ now n. slice_set now n true) set ns

-- no public label of these has a greater counter
abbrev pub AreAtMost : ℕ → List ProcessLabels → Type 0
AreAtMost greatest labels = AllByRecursion (λ l. l.public.counter ≤ greatest) labels
