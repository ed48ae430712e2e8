-- What a settle leaves: the configuration, waits, owners and private labels are the same, and verdicts stand.
use Rattle.std.proofs.Common.{◌≡◌, ℕ, zero, suc, List, [], ◌∷◌, fold, Bool, true, false, Option, Some, None, Result, Ok, Err, MatchBool, option_map, option_and_then, IsTrue, inl, inr, refl, ap, ◌∙◌}
use Rattle.std.specs.Option.{option_map_or}
use Rattle.std.proofs.lemmas.Bool.{cases_Bool}
use Rattle.mm_label.specs.Label.{Label}
use Rattle.mm_arena.specs.declared.key.Key.{Key}
use Rattle.mm_lists.proofs.Lemmas.Set.{true_still}
use Rattle.mm_rules.specs.declared.refusal.Refusal.{Refusal}
use Rattle.mm_rules.specs.declared.reply.Settled.{Settled}
use Rattle.mm_rules.specs.TableState.{TableState, waited_for, holder_of, private_of, has_verdict, waiting_processes}
use Rattle.std.proofs.Common.{slice_index_or}
use Rattle.mm_label.specs.Label.{opening_label}
use Rattle.mm_rules.specs.Change.{greater_label, transmit, can_detect, detect, swept}
use Rattle.mm_rules.specs.Event.{Settle, Step, Gives, Settles, settled, decided, counts_exhausted}
use Rattle.mm_rules.proofs.States.Transmit.{shown}
use Rattle.mm_rules.proofs.States.Detect.{detect_still, detect_convicts}

pub record SettleKeeps (s t : TableState) : Type 0 where
  pub config : t.config ≡ s.config
  pub waits : t.waits ≡ s.waits
  pub owners : t.owners ≡ s.owners
  pub private : t.private ≡ s.private
  pub verdicts : (v : ℕ) → IsTrue (has_verdict s v) → IsTrue (has_verdict t v)

keeps_nothing_else : (s : TableState) → SettleKeeps s s
keeps_nothing_else s = record { config = refl; waits = refl; owners = refl; private = refl; verdicts = λ v was. was }

keeps_also : (a b c : TableState) → SettleKeeps a b → SettleKeeps b c → SettleKeeps a c
keeps_also a b c first second = record {
  config = second.config ∙ first.config;
  waits = second.waits ∙ first.waits;
  owners = second.owners ∙ first.owners;
  private = second.private ∙ first.private;
  verdicts = λ v was. second.verdicts v (first.verdicts v was);
}

pub same_holders : (s t : TableState) → SettleKeeps s t → (n : ℕ) → holder_of t n ≡ holder_of s n
same_holders s t keeps n =
    λ i. option_map (λ (k : Key). k.process) (option_and_then (λ r. slice_index_or (keeps.owners i) r None) (waited_for (keeps.waits i) n))

pub same_privates : (s t : TableState) → SettleKeeps s t → (n : ℕ) → private_of t n ≡ private_of s n
same_privates s t keeps n = ap (λ ls. slice_index_or ls n (opening_label n)) keeps.private

shown_keep : (s : TableState) (n : ℕ) (o : Option Label) → SettleKeeps s (option_map_or (shown s n) o s)
shown_keep s n None = keeps_nothing_else s
shown_keep s n (Some l) = record { config = refl; waits = refl; owners = refl; private = refl; verdicts = λ v was. was }

pub transmit_leaves : (s : TableState) (n : ℕ) → SettleKeeps s (transmit s n)
transmit_leaves s n = shown_keep s n (greater_label s n)

transmits_leave : (s : TableState) (ns : List ℕ) → SettleKeeps s (fold transmit s ns)
transmits_leave s [] = keeps_nothing_else s
transmits_leave s (n ∷ ns) = keeps_also s (transmit s n) (fold transmit (transmit s n) ns) (transmit_leaves s n) (transmits_leave (transmit s n) ns)

swept_leaves : (s : TableState) (n : ℕ) → SettleKeeps s (swept s n)
swept_leaves s zero = keeps_nothing_else s
swept_leaves s (suc n) = keeps_also s (swept s n) (swept s (suc n)) (swept_leaves s n) (transmits_leave (swept s n) (waiting_processes (swept s n)))

pub detect_leaves : (s : TableState) (n : ℕ) → SettleKeeps s (detect s n)
detect_leaves s n = elim (cases_Bool (can_detect s n)) [
  | inl can ↦ rw (detect_convicts s n can) record { config = refl; waits = refl; owners = refl; private = refl; verdicts = λ v was. true_still s.verdicts n v was }
  | inr no_detect ↦ rw (detect_still s n no_detect) (keeps_nothing_else s)
]

detects_leave : (s : TableState) (ns : List ℕ) → SettleKeeps s (fold detect s ns)
detects_leave s [] = keeps_nothing_else s
detects_leave s (n ∷ ns) = keeps_also s (detect s n) (fold detect (detect s n) ns) (detect_leaves s n) (detects_leave (detect s n) ns)

decided_leaves : {A : Type 0} (r : Result (Unit {0}) Refusal) (old new : TableState) (answer : A) → SettleKeeps old new → SettleKeeps old (decided r old answer new).state
decided_leaves (Err refusal) old new answer keeps = keeps_nothing_else old
decided_leaves (Ok u) old new answer keeps = record { config = keeps.config; waits = keeps.waits; owners = keeps.owners; private = keeps.private; verdicts = keeps.verdicts }

settled_leaves : (s : TableState) (n : ℕ) → SettleKeeps s (settled s n).state
settled_leaves s n = decided_leaves _ s _ _
    (keeps_also s (swept s n) (fold detect (swept s n) (waiting_processes (swept s n))) (swept_leaves s n) (detects_leave (swept s n) (waiting_processes (swept s n))))

settle_by : (old new : TableState) (reply : Result Settled Refusal) (b : Bool)
    → MatchBool b (Gives (settled old 0) reply new) ((n : ℕ) × Settles old n × Gives (settled old n) reply new) → SettleKeeps old new
settle_by old new reply true step = rw step.1 (settled_leaves old 0)
settle_by old new reply false (n, settles, step) = rw step.1 (settled_leaves old n)

pub settle_keeps : (old new : TableState) (reply : Result Settled Refusal) → Step Settle old reply new → SettleKeeps old new
settle_keeps old new reply step = settle_by old new reply (counts_exhausted old) step
