-- A settle is its sweeps, its detects and a count.
use Rattle.std.proofs.Common.{◌≡◌, nat_le, ◌+◌, ◌<◌, ◌^◌, ℕ, Bool, true, false, [], ◌∷◌, fold, count_by, Ok, MatchBool, refl, ap, ◌∙◌}
use Rattle.std.proofs.lemmas.Bool.{or_parts, leb-false}
use Rattle.mm_rules.specs.declared.reply.Settled.{Settled}
use Rattle.mm_rules.specs.TableState.{TableState, waiting_processes}
use Rattle.mm_rules.specs.Change.{can_detect, detect, swept}
use Rattle.mm_rules.specs.Event.{counts_exhausted, Settle, Step, Gives, outcome}
use Rattle.mm_rules.specs.declared.refusal.Refusal.TheVariants.{CountsExhausted}
use Rattle.mm_rules.specs.Stages.{IsSwept}
use Rattle.mm_rules.proofs.States.Outcome.{counting}

pub below_limit : (s : TableState) → counts_exhausted s ≡ false → (s.totals.accepted < 2 ^ 62) × (s.totals.verdicts < 2 ^ 62)
below_limit s free =
    let both = or_parts (nat_le (2 ^ 62) s.totals.accepted) (nat_le (2 ^ 62) s.totals.verdicts) free in
    (leb-false (2 ^ 62) s.totals.accepted both.0, leb-false (2 ^ 62) s.totals.verdicts both.1)

-- ---- the whole

step_by : (b : Bool) (A B : Type 0) → b ≡ false → B → MatchBool b A B
step_by true A B never given = absurd (cc)
step_by false A B free given = given

gives_by : (b : Bool) (old rested new : TableState) (answer said : Settled) → b ≡ false → answer ≡ said → new ≡ counting rested (rested.totals.accepted + 1)
    → Gives (outcome ((b, CountsExhausted) ∷ []) old said rested) (Ok answer) new
gives_by true old rested new answer said never is state = absurd (cc)
gives_by false old rested new answer said free is state = (ap Ok is, state)

pub settle_gives : (old mid new : TableState) (raises verdicts : ℕ) → counts_exhausted old ≡ false → IsSwept old raises mid
    → verdicts ≡ count_by (can_detect mid) (waiting_processes mid)
    → new ≡ counting (fold detect mid (waiting_processes mid)) ((fold detect mid (waiting_processes mid)).totals.accepted + 1)
    → Step Settle old (Ok (record { raises = raises; verdicts = verdicts })) new
settle_gives old mid new raises verdicts free swept_all counted state =
    let last : TableState = swept old swept_all.sweeps in
    let is : mid ≡ last = swept_all.state in
    let verdicts_are : verdicts ≡ count_by (can_detect last) (waiting_processes last) = counted ∙ ap (λ (t : TableState). count_by (can_detect t) (waiting_processes t)) is in
    let rested : fold detect mid (waiting_processes mid) ≡ fold detect last (waiting_processes last) = ap (λ t. fold detect t (waiting_processes t)) is in
    step_by (counts_exhausted old) _ _ free (
      swept_all.sweeps,
      swept_all.settles,
      gives_by (counts_exhausted old) old (fold detect last (waiting_processes last)) new _ _ free
          (rw (swept_all.raised, verdicts_are) refl) (state ∙ ap (λ (t : TableState). counting t (t.totals.accepted + 1)) rested),
    )
