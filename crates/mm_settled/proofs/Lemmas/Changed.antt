-- Who is among the changed processes of an event.
use Rattle.std.proofs.Common.{◌≡◌, ◌<◌, ℕ, true, [], inl, inr, subst, arith}
use Rattle.std.specs.List.{range_with_len}
use Rattle.std.proofs.lemmas.Bool.{cases_Bool}
use Rattle.mm_lists.specs.Members.{Among}
use Rattle.mm_lists.proofs.Lemmas.Filter.{filter_keeps}
use Rattle.mm_lists.proofs.Lemmas.Range.{among_range}
use Rattle.mm_rules.specs.TableState.{TableState}
use Rattle.mm_settle_lemmas.specs.Touched.{IsUnchanged, is_changed, changed_processes}
use Rattle.mm_settle_lemmas.proofs.Lemmas.Told.{unchanged_is}

pub listed_changed : (s t : TableState) (n : ℕ) → n < s.config.processes → is_changed s t n ≡ true → Among n (changed_processes s t)
listed_changed s t n within changed = filter_keeps (is_changed s t) (range_with_len 0 s.config.processes) n (among_range 0 s.config.processes n (omega arith) (omega arith)) changed

-- where nobody was changed, each process is as it was
pub nobody_is_changed : (s t : TableState) (n : ℕ) → n < s.config.processes → changed_processes s t ≡ [] → IsUnchanged s t n
nobody_is_changed s t n within none = elim (cases_Bool (is_changed s t n)) [
  | inr still ↦ unchanged_is s t n still
  | inl changed ↦ absurd (subst (λ ns. Among n ns) none (listed_changed s t n within changed))
]
