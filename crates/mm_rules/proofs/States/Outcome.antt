-- What an event has to keep, and that refusals and counting touch none of it.
use Rattle.std.proofs.Common.{◌++◌, ◌≡◌, ◌+◌, ℕ, true, false, [], ◌∷◌, Result, Ok, Err, IsTrue, count_by, refl}
use Rattle.std.specs.List.{AllByRecursion}
use Rattle.mm_label.specs.Label.{label_le}
use Rattle.mm_rules.specs.declared.refusal.Refusal.{Refusal}
use Rattle.mm_rules.specs.declared.reply.Totals.{Totals}
use Rattle.mm_rules.specs.TableState.{TableState, public_of}
use Rattle.mm_rules.specs.Event.{Tests, allowed, decided, outcome}
use Rattle.mm_rules.specs.Laws.{Laws}
use Rattle.mm_rules.proofs.States.IsSized.{same_lengths}
use Rattle.mm_rules.proofs.States.LabelOrder.{label_le_same, label_le_then}

-- the new state keeps all laws, and no public label fell
pub record KeepsLaws (old new : TableState) : Type 0 where
  pub laws : Laws new
  pub rise : (n : ℕ) → IsTrue (label_le (public_of old n) (public_of new n))

pub keeps_same : (s : TableState) → Laws s → KeepsLaws s s
keeps_same s laws = record { laws = laws; rise = λ n. label_le_same (public_of s n) }

pub keeps_then : (a b c : TableState) → KeepsLaws a b → KeepsLaws b c → KeepsLaws a c
keeps_then a b c first second = record {
  laws = second.laws;
  rise = λ n. label_le_then (public_of a n) (public_of b n) (public_of c n) (first.rise n) (second.rise n);
}

-- other counts, with as many verdicts as these count aborts and standing verdicts, touch no law
pub totals_keep_laws : (s : TableState) (t : Totals) → t.verdicts ≡ t.aborts + count_by (λ v. v) s.verdicts → Laws s → Laws (record s { totals = t })
totals_keep_laws s t counted laws = record {
  lawful = record {
    well_formed = record {
      config = laws.lawful.well_formed.config;
      sizes = same_lengths s _ laws.lawful.well_formed.sizes refl refl refl refl refl refl refl;
      owners = laws.lawful.well_formed.owners;
      waits = laws.lawful.well_formed.waits;
      waits_once = laws.lawful.well_formed.waits_once;
      verdicts = laws.lawful.well_formed.verdicts;
      free = laws.lawful.well_formed.free;
      free_once = laws.lawful.well_formed.free_once;
    };
    private_labels = record { own = laws.lawful.private_labels.own; at_most_public = laws.lawful.private_labels.at_most_public };
    label_bounds = record { made = laws.lawful.label_bounds.made; newest = laws.lawful.label_bounds.newest; limit = laws.lawful.label_bounds.limit };
    propagated = laws.lawful.propagated;
    rising = laws.lawful.rising;
    counted = counted;
  };
  convicted = laws.convicted;
  topped = laws.topped;
}

-- the number of accepted calls is set anew
abbrev pub counting : TableState → ℕ → TableState
counting s n = record s { totals = record s.totals { accepted = n } }

pub counting_keeps_laws : (s : TableState) (n : ℕ) → Laws s → Laws (counting s n)
counting_keeps_laws s n laws = totals_keep_laws s (record s.totals { accepted = n }) laws.lawful.counted laws

pub counting_keeps : (old new : TableState) (n : ℕ) → KeepsLaws old new → KeepsLaws old (counting new n)
counting_keeps old new n keeps = record { laws = counting_keeps_laws new n keeps.laws; rise = keeps.rise }

-- ---- refusals

-- where the tests allow a call, each of them is false
pub tests_false : (tests : Tests) → allowed tests ≡ Ok tt → AllByRecursion (λ t. t.0 ≡ false) tests
tests_false [] ok = tt
tests_false ((true, refusal) ∷ tests) ok = (let never : Err refusal ≡ Ok tt = ok in absurd (cc))
tests_false ((false, refusal) ∷ tests) ok = (refl, tests_false tests ok)

module _ (P : TableState → Type 0) (again : (s : TableState) (n : ℕ) → P s → P (counting s n)) {A : Type 0} (old : TableState) (answer : A) (new : TableState) where
  decided_keeps : (r : Result (Unit {0}) Refusal) → P old → (r ≡ Ok tt → P new) → P (decided r old answer new).state
  decided_keeps (Err refusal) before after = before
  decided_keeps (Ok u) before after = again new (new.totals.accepted + 1) (after refl)

  -- what holds of the old state, and of the changed one where all tests are false, holds of the outcome's
  pub outcome_keeps : (tests : Tests) → P old → (AllByRecursion (λ t. t.0 ≡ false) tests → P new) → P (outcome tests old answer new).state
  outcome_keeps tests before after = decided_keeps (allowed tests) before (λ ok. after (tests_false tests ok))

-- for `KeepsLaws`: the old state keeps its laws, and the changed one where all tests are false
pub outcome_keeps_laws : {A : Type 0} (old : TableState) (answer : A) (new : TableState) (tests : Tests) → Laws old
    → (AllByRecursion (λ t. t.0 ≡ false) tests → KeepsLaws old new) → KeepsLaws old (outcome tests old answer new).state
outcome_keeps_laws old answer new tests laws after =
    outcome_keeps (λ s. KeepsLaws old s) (λ s n. counting_keeps old s n) old answer new tests (keeps_same old laws) after

-- ---- tests, some of which are made apart from the others

-- what the first of them refuse, all of them refuse
pub refused_first : (first later : Tests) (refusal : Refusal) → allowed first ≡ Err refusal → allowed (first ++ later) ≡ Err refusal
refused_first [] later refusal is = let never : Ok tt ≡ Err refusal = is in cc
refused_first ((true, other) ∷ first) later refusal is = is
refused_first ((false, other) ∷ first) later refusal is = refused_first first later refusal is
