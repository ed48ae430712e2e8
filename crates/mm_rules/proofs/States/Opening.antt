-- The state of a table that was just opened keeps all laws: nobody waits, nothing is owned, and each process has its opening label twice.
use Rattle.std.proofs.Common.{◌≡◌, ℕ, zero, suc, ◌+◌, false, true, map, replicate, slice_index_or, Some, None, IsTrue, refl, sym, ap, ◌∙◌, arith, zero-add}
use Rattle.std.proofs.lemmas.List.{length-replicate}
use Rattle.std.proofs.lemmas.List.FromFn.{length-map-range_with_len}
use Rattle.std.specs.List.{range_with_len, count_by}
use Rattle.mm_label.specs.Label.{opening_label}
use Rattle.mm_lists.proofs.Lemmas.Among.{all_from}
use Rattle.mm_lists.proofs.Lemmas.Range.{among_range_gives, no_repeat_range}
use Rattle.mm_lists.proofs.Lemmas.Set.{read_replicate, slice_get-replicate}
use Rattle.mm_rules.proofs.States.LabelOrder.{label_le_same}
use Rattle.mm_rules.specs.declared.config.Config.{Config}
use Rattle.mm_rules.specs.TableState.{IsWide, opening, public_of}
use Rattle.mm_rules.specs.Laws.{Laws}

count_false : (n : ℕ) → count_by (λ v. v) (replicate n false) ≡ 0
count_false zero = refl
count_false (suc n) = count_false n

-- both labels of each process, those of no process included
label_read : (a n i : ℕ) → slice_index_or (map opening_label (range_with_len a n)) i (opening_label (a + i)) ≡ opening_label (a + i)
label_read a zero i = refl
label_read a (suc n) zero = ap opening_label (omega arith)
label_read a (suc n) (suc i) = let e : a + suc i ≡ (a + 1) + i = omega arith in rw e (label_read (a + 1) n i)

label_of_process : (n i : ℕ) → slice_index_or (map opening_label (range_with_len 0 n)) i (opening_label i) ≡ opening_label i
label_of_process n i = let e : 0 + i ≡ i = omega arith in rw e at (label_read 0 n i)

no_verdict : (n v : ℕ) → IsTrue (slice_index_or (replicate n false) v false) → ⊥
no_verdict n v h = let never : false ≡ true = sym (read_replicate false n v) ∙ h in cc

pub opening_lawful : (c : Config) → IsWide c → Laws (opening c)
opening_lawful c range = record {
  lawful = record {
    well_formed = record {
      config = range;
      sizes = record {
        generations = length-replicate c.processes 1;
        live = length-replicate c.processes false;
        private = length-map-range_with_len opening_label 0 c.processes;
        public = length-map-range_with_len opening_label 0 c.processes;
        verdicts = length-replicate c.processes false;
        owners = length-replicate c.resources None;
      };
      owners = λ r k owned. let never : None ≡ Some k = sym (read_replicate None c.resources r) ∙ owned in cc;
      waits = tt;
      waits_once = tt;
      verdicts = λ n h. absurd (no_verdict c.processes n h);
      free = all_from _ (range_with_len 0 c.processes) (λ i among. slice_get-replicate false c.processes i (omega (arith, among_range_gives 0 c.processes i among)));
      free_once = no_repeat_range 0 c.processes;
    };
    private_labels = record {
      own = λ n. ap (λ l. l.process) (label_of_process c.processes n);
      at_most_public = λ n. label_le_same (slice_index_or (map opening_label (range_with_len 0 c.processes)) n (opening_label n));
    };
    label_bounds = record {
      made = λ m h. let own : (public_of (opening c) m).process ≡ m = ap (λ l. l.process) (label_of_process c.processes m) in rw own h;
      newest = λ n m e. let zero_counter : (public_of (opening c) m).counter ≡ 0 = ap (λ l. l.counter) (label_of_process c.processes m) in omega arith;
      limit = λ m. let zero_counter : (public_of (opening c) m).counter ≡ 0 = ap (λ l. l.counter) (label_of_process c.processes m) in omega arith;
    };
    propagated = λ m h n waits. absurd (cc);
    rising = λ k h waits. absurd (cc);
    counted = sym (zero-add (count_by (λ v. v) (replicate c.processes false)) ∙ count_false c.processes);
  };
  convicted = λ v h. absurd (no_verdict c.processes v h);
  topped = λ k h waits. absurd (cc);
}
