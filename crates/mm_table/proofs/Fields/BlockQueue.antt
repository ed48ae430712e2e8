-- The waiters of a resource are blocked on its new owner, one after the other.
use Rattle.std.proofs.Common.{◌≡◌, ◌≢◌, ◌<◌, ◌≤◌, ℕ, List, [], ◌∷◌, length, map, slice_set, refl, ap, sym, ◌∙◌, subst, inl, inr, arith, IsTrue, get_or-set_other, length-set}
use Rattle.std.proofs.lemmas.Bool.{and_parts, leb-true}
use Rattle.std.specs.List.{list_all}
use Rattle.std.proofs.lemmas.List.{map-set}
use Rattle.mm_label.specs.Label.{Label, opening_label, counter_range, process_range}
use Rattle.mm_lists.specs.Members.{Among, NoRepeat}
use Rattle.mm_rules.specs.TableState.{TableState, Wait, public_of}
use Rattle.mm_rules.specs.Change.{block, block_fits, label_against}
use Rattle.mm_rules.specs.Stages.{blocked_on, NoneIs}
use Rattle.mm_rules.proofs.States.Queues.{fits_after}
use Rattle.mm_table.specs.declared.labels.ProcessLabels.{ProcessLabels}
use Rattle.mm_table.specs.private.Labels.{both, label_under, written_under, labels_under, FitUnder}
use Rattle.mm_table.proofs.Fields.Walk.{process}

-- the state with these labels
abbrev pub with_labels : TableState → List ProcessLabels → TableState
with_labels s ls = record s { private = map (λ l. l.private) ls; public = map (λ l. l.public) ls }

-- the first of these fits, and the others do after it
pub record FirstFits (ls : List ProcessLabels) (shown : Label) (n : ℕ) (ns : List ℕ) : Type 0 where
  pub within : n < length ls
  pub process : n < process_range
  pub counter : (label_under ls n shown).counter < counter_range
  pub others : FitUnder (written_under ls n shown) shown ns

pub first_fits : (ls : List ProcessLabels) (shown : Label) (n : ℕ) (ns all : List ℕ) → all ≡ n ∷ ns → FitUnder ls shown all → FirstFits ls shown n ns
unfolding FitUnder
first_fits ls shown n ns all steps fit =
    let parts : FitUnder ls shown (n ∷ ns) = subst (FitUnder ls shown) steps fit in
    record { within = parts.0; process = parts.1; counter = parts.2; others = parts.3 }

-- nobody among these is of a process that is not among theirs
pub none_is : (n : ℕ) (ws : List Wait) → (Among n (map process ws) → ⊥) → NoneIs n ws
none_is n [] none = tt
none_is n (w ∷ ws) none = ((λ same. none (inl (sym same))), none_is n ws (λ later. none (inr later)))

-- there are as many labels as before
pub length_under : (ls : List ProcessLabels) (shown : Label) (ns : List ℕ) → length (labels_under ls shown ns) ≡ length ls
length_under ls shown [] = refl
length_under ls shown (n ∷ ns) = length_under (written_under ls n shown) shown ns ∙ length-set ls n (both (label_under ls n shown))

-- the process h shows this label, and n is another one
module _ (s : TableState) (ls : List ProcessLabels) (h n : ℕ) (shown : Label) (is : shown ≡ public_of (with_labels s ls) h) where
  -- a block, by the labels that it writes
  written : block (with_labels s ls) n h ≡ with_labels s (written_under ls n shown)
  written =
      let label = label_against (with_labels s ls) n h in
      let same : label_under ls n shown ≡ label = ap (label_under ls n) is in
      sym (ap (λ l. with_labels s (slice_set ls n (both l))) same
      ∙ ap (λ ps. record s { private = ps; public = map (λ l. l.public) (slice_set ls n (both label)) }) (map-set (λ l. l.private) ls n (both label))
      ∙ ap (λ ps. record (block (with_labels s ls) n h) { public = ps }) (map-set (λ l. l.public) ls n (both label)))

  still_shown : n ≢ h → shown ≡ public_of (with_labels s (written_under ls n shown)) h
  still_shown apart =
      let t = with_labels s ls in
      is ∙ sym (get_or-set_other t.public n h (label_against t n h) (opening_label h) (λ same. apart (sym same))) ∙ ap (λ (u : TableState). public_of u h) written

-- all of them, by the labels that are written
pub blocked_under : (s : TableState) (ls : List ProcessLabels) (h : ℕ) (shown : Label) (ws : List Wait) → shown ≡ public_of (with_labels s ls) h → NoneIs h ws
    → blocked_on (with_labels s ls) h ws ≡ with_labels s (labels_under ls shown (map process ws))
blocked_under s ls h shown [] is none = refl
blocked_under s ls h shown (w ∷ ws) is none =
    let n = process w in
    ap (λ t. blocked_on t h ws) (written s ls h n shown is) ∙ blocked_under s (written_under ls n shown) h shown ws (still_shown s ls h n shown is none.0) none.1

-- each new label is in range, where the limit allows them all at first
pub fit_under : (s : TableState) (ls : List ProcessLabels) (h : ℕ) (shown : Label) (ws : List Wait) → shown ≡ public_of (with_labels s ls) h → NoneIs h ws → NoRepeat (map process ws)
    → IsTrue (list_all (λ w. block_fits (with_labels s ls) w.key.process h) ws) → s.config.label_limit < counter_range → length ls ≤ process_range
    → ((n : ℕ) → Among n (map process ws) → n < length ls) → FitUnder ls shown (map process ws)
unfolding FitUnder
fit_under s ls h shown [] is none once fits limit range within = tt
fit_under s ls h shown (w ∷ ws) is none once fits limit range within =
    let t = with_labels s ls in
    let n = process w in
    let parts = and_parts (block_fits t n h) (list_all (λ v. block_fits t v.key.process h) ws) fits in
    let fit = leb-true (label_against t n h).counter s.config.label_limit parts.0 in
    let same : (label_under ls n shown).counter ≡ (label_against t n h).counter = ap (λ l. (label_under ls n l).counter) is in
    let here : n < length ls = within n (inl refl) in
    let long = length-set ls n (both (label_under ls n shown)) in
    let no_other = none_is n ws (λ among. once.0 among) in
    let others = subst (λ (u : TableState). IsTrue (list_all (λ v. block_fits u v.key.process h) ws)) (written s ls h n shown is) (fits_after t n h none.0 ws no_other ∙ parts.1) in (
      here,
      omega (arith, here, range),
      omega (arith, fit, same, limit),
      fit_under s (written_under ls n shown) h shown ws (still_shown s ls h n shown is none.0) none.1 once.1 others limit (omega (arith, long, range)) (λ m among. omega (arith, within m (inr among), long)),
    )
