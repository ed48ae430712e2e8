-- A state whose lists have the lengths of those of a sized state is sized.
use Rattle.std.proofs.Common.{◌≡◌, length, ap, ◌∙◌, sym}
use Rattle.mm_rules.specs.TableState.{TableState, IsSized}

pub same_lengths : (s new : TableState) → IsSized s → new.config ≡ s.config → length new.generations ≡ length s.generations → length new.live ≡ length s.live
    → length new.private ≡ length s.private → length new.public ≡ length s.public → length new.verdicts ≡ length s.verdicts → length new.owners ≡ length s.owners
    → IsSized new
same_lengths s new sized config generations live private public verdicts owners = record {
  generations = generations ∙ sized.generations ∙ ap (λ c. c.processes) (sym config);
  live = live ∙ sized.live ∙ ap (λ c. c.processes) (sym config);
  private = private ∙ sized.private ∙ ap (λ c. c.processes) (sym config);
  public = public ∙ sized.public ∙ ap (λ c. c.processes) (sym config);
  verdicts = verdicts ∙ sized.verdicts ∙ ap (λ c. c.processes) (sym config);
  owners = owners ∙ sized.owners ∙ ap (λ c. c.resources) (sym config);
}
