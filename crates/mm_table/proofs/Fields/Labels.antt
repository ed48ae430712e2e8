-- The labels of all processes: how they are written and read.
use Rattle.std.proofs.Common.{◌≡◌, ℕ, zero, suc, ◌<◌, ◌≤◌, true, List, [], ◌∷◌, arith, subst, length, map, slice_index_or, slice_set, Option, refl, ◌∙◌}
use Rattle.std.proofs.lemmas.List.{map-set}
use Rattle.mm_arena.specs.declared.key.Key.{Key}
use Rattle.std.proofs.lemmas.Bool.{le-leb}
use Rattle.mm_label.specs.Label.{Label, opening_label}
use Rattle.mm_lists.proofs.Lemmas.Among.{list_all_from}
use Rattle.mm_rules.specs.declared.config.Config.{Config}
use Rattle.mm_rules.specs.declared.reply.Totals.{Totals}
use Rattle.mm_rules.specs.TableState.{TableState, Wait, public_of, waiters_of, resources_of}
use Rattle.mm_rules.specs.Change.{label_against, block_fits, give_to_fits, hand_over_fits, vacate_fits}
use Rattle.mm_tagged_lists.specs.TaggedLists.{Listing}
use Rattle.mm_table.specs.declared.labels.ProcessLabels.{ProcessLabels}
use Rattle.mm_table.specs.declared.records.Records.TheInside.{Inside}
use Rattle.mm_table.specs.private.Labels.{both, public_in, AreAtMost}
use Rattle.mm_table.specs.private.LabelLimit.{labelled, AllLabelsFit}
use Rattle.mm_table.specs.private.Records.{state_of_fields, state_of_records, FieldsAreSized}
use Rattle.mm_transactions.specs.Transactions.{Transactions}

-- both labels of process n are new
pub labels_written : (c : Config) (s : Transactions) (ls : List ProcessLabels) (os : List (Option Key)) (t : Totals) (n : ℕ) (l : Label)
    → state_of_fields c s (slice_set ls n (both l)) os t ≡ labelled (state_of_fields c s ls os t) n l
labels_written c s ls os t n l = rw (map-set (λ q. q.private) ls n (both l), map-set (λ q. q.public) ls n (both l)) refl

pub sized_labels : {c : Config} {t : Transactions} {ls : List ProcessLabels} {o : Listing} (new : List ProcessLabels) → length new ≡ length ls → FieldsAreSized c t ls o → FieldsAreSized c t new o
sized_labels new long sizes = record {
  config = sizes.config;
  slots = sizes.slots;
  last_generation = sizes.last_generation;
  queues = sizes.queues;
  labels = long ∙ sizes.labels;
  lists = sizes.lists;
  owners = sizes.owners;
}

-- ---- no public label has a counter above the greatest

pub at_most_set : (g : ℕ) (ls : List ProcessLabels) (n : ℕ) (l : ProcessLabels) → l.public.counter ≤ g → AreAtMost g ls → AreAtMost g (slice_set ls n l)
at_most_set g [] n l new all = tt
at_most_set g (k ∷ ls) zero l new all = (new, all.1)
at_most_set g (k ∷ ls) (suc n) l new all = (all.0, at_most_set g ls n l new all.1)

-- a greater one is as good
pub at_most_more : (g h : ℕ) (ls : List ProcessLabels) → g ≤ h → AreAtMost g ls → AreAtMost h ls
at_most_more g h [] more all = tt
at_most_more g h (l ∷ ls) more all = (omega (arith, more, all.0), at_most_more g h ls more all.1)

at_most_read : (g : ℕ) (ls : List ProcessLabels) (n : ℕ) (d : Label) → d.counter ≤ g → AreAtMost g ls → (slice_index_or (map (λ q. q.public) ls) n d).counter ≤ g
at_most_read g [] n d default all = default
at_most_read g (l ∷ ls) zero d default all = all.0
at_most_read g (l ∷ ls) (suc n) d default all = at_most_read g ls n d default all.1

-- what a process shows is at most the greatest
pub shown_at_most : (g : ℕ) (ls : List ProcessLabels) (n : ℕ) → AreAtMost g ls → (public_in ls n).counter ≤ g
shown_at_most g ls n all = at_most_read g ls n (opening_label n) (omega arith) all

-- where what each process shows is below the limit, each label fits
pub all_fit : (t : Inside) (s : TableState) → state_of_records t ≡ s → ((n : ℕ) → (public_in t.labels n).counter < s.config.label_limit) → AllLabelsFit s
all_fit t s is below n h =
    let shown : (m : ℕ) → (public_of s m).counter < s.config.label_limit = λ m. subst (λ (u : TableState). (public_of u m).counter < s.config.label_limit) is (below m) in
    let own = shown n in
    let its = shown h in
    le-leb (label_against s n h).counter s.config.label_limit (omega arith)

-- each hand-over fits then
pub hand_over_then_fits : (s : TableState) (r : ℕ) → AllLabelsFit s → hand_over_fits s r ≡ true
hand_over_then_fits s r fits = from (waiters_of s r)
  where
    from : (ws : List Wait) → give_to_fits s ws ≡ true
    from [] = refl
    from (first ∷ others) = list_all_from (λ (w : Wait). block_fits s w.key.process first.key.process) others (λ w among. fits w.key.process first.key.process)

pub vacate_then_fits : (s : TableState) (n : ℕ) → AllLabelsFit s → vacate_fits s n ≡ true
vacate_then_fits s n fits = list_all_from (hand_over_fits s) (resources_of s n) (λ r among. hand_over_then_fits s r fits)
