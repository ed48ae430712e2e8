-- What a request came to, whether its reply was written or not.
use Rattle.std.proofs.Common.{◌≡◌, ℕ, List, Result, Ok, Err, IfOk, OnOk, refl}
use Rattle.std.specs.Result.{result_and}
use Rattle.mm_tagged_lists.specs.TaggedLists.{Listing}
use Rattle.mm_service.specs.Text.{EndsNobody}
use Rattle.mm_service.specs.declared.effect.Effect.{Effect}
use Rattle.mm_service.specs.declared.effect.Effect.TheVariants as effects
use Rattle.mm_connections.specs.Counts.{counted}

-- it came to this, if its reply was written
pub came_to : {T E : Type 0} (P : Type 0) (effect : Effect) (outcome : Result T E) → OnOk outcome P → IfOk (result_and outcome (Ok effect)) (λ (it : Effect). (it ≡ effect) × P)
came_to P effect (Ok done) kept = (refl, kept)
came_to P effect (Err fault) kept = tt

-- where no transaction ended, none is counted no longer
pub none_fewer : (begun : Listing) (counts : List ℕ) (effect : Effect) → EndsNobody effect → counted begun counts effect ≡ counts
none_fewer begun counts effects.Nothing nobody = refl
none_fewer begun counts (effects.Deadlock k holder place) nobody = refl
none_fewer begun counts effects.EndedWaits nobody = refl
none_fewer begun counts (effects.Ended k) nobody = absurd nobody
