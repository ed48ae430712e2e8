-- An event has one reply and one new state.
use Rattle.std.proofs.Common.{◌≡◌, ℕ, Bool, true, false, Result, MatchBool, inl, inr, sym, subst, ◌∙◌, arith}
use Rattle.std.proofs.lemmas.Bool.{cases_eq, cases_lt}
use Rattle.mm_rules.specs.declared.refusal.Refusal.{Refusal}
use Rattle.mm_rules.specs.declared.reply.Settled.{Settled}
use Rattle.mm_rules.specs.TableState.{TableState}
use Rattle.mm_rules.specs.Event.{Event, Begin, Acquire, Release, Finish, Transmit, Detect, Abort, GiveUp, Settle, Answer, Outcome, Gives, Step, Settles, settled, counts_exhausted}

same_outcome : {A : Type 0} (o : Outcome A) (r q : Result A Refusal) (t u : TableState) → Gives o r t → Gives o q u → (r ≡ q) × (t ≡ u)
same_outcome o r q t u first second = (first.0 ∙ sym second.0, first.1 ∙ sym second.1)

-- the number of sweeps that a settle makes
one_number : (s : TableState) (m n : ℕ) → Settles s m → Settles s n → m ≡ n
one_number s m n first second = elim (cases_eq m n) [
  | inl same ↦ same
  | inr apart ↦ elim (cases_lt m n) [
    | inl less ↦ absurd (omega (arith, first.still, second.first m less))
    | inr more ↦ absurd (omega (arith, second.still, first.first n (omega arith)))
  ]
]

settle_determined : (b : Bool) (s t u : TableState) (r q : Result Settled Refusal) → MatchBool b (Gives (settled s 0) r t) ((n : ℕ) × Settles s n × Gives (settled s n) r t)
    → MatchBool b (Gives (settled s 0) q u) ((n : ℕ) × Settles s n × Gives (settled s n) q u) → (r ≡ q) × (t ≡ u)
settle_determined true s t u r q first second = same_outcome (settled s 0) r q t u first second
settle_determined false s t u r q first second =
    same_outcome (settled s first.0) r q t u first.2 (subst (λ (n : ℕ). Gives (settled s n) q u) (one_number s second.0 first.0 second.1 first.1) second.2)

pub steps_are_determined : (e : Event) (s t u : TableState) (r q : Result (Answer e) Refusal) → Step e s r t → Step e s q u → (r ≡ q) × (t ≡ u)
steps_are_determined Begin s t u r q first second = same_outcome _ r q t u first second
steps_are_determined (Acquire k n) s t u r q first second = same_outcome _ r q t u first second
steps_are_determined (Release k n) s t u r q first second = same_outcome _ r q t u first second
steps_are_determined (Finish k) s t u r q first second = same_outcome _ r q t u first second
steps_are_determined (Transmit k) s t u r q first second = same_outcome _ r q t u first second
steps_are_determined (Detect k) s t u r q first second = same_outcome _ r q t u first second
steps_are_determined (Abort k) s t u r q first second = same_outcome _ r q t u first second
steps_are_determined (GiveUp k) s t u r q first second = same_outcome _ r q t u first second
steps_are_determined Settle s t u r q first second = settle_determined (counts_exhausted s) s t u r q first second
