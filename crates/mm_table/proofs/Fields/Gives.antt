-- What an event gives: where its tests refuse it, and where they allow it.
use Rattle.std.proofs.Common.{◌≡◌, ◌≢◌, ◌+◌, ◌++◌, ◌∷◌, [], ℕ, Bool, true, false, not, nat_eq, Option, Some, None, Result, Ok, Err, refl, sym, ap, subst, ◌∙◌}
use Rattle.std.specs.Option.{option_map_or}
use Rattle.std.proofs.lemmas.Bool.{eq-eqb, ne_eqb}
use Rattle.mm_arena.specs.declared.key.Key.{Key}
use Rattle.mm_label.specs.Label.{Label}
use Rattle.mm_rules.specs.declared.refusal.Refusal.{Refusal}
use Rattle.mm_rules.specs.declared.refusal.Refusal.TheVariants.{AlreadyOwns, LabelsExhausted}
use Rattle.mm_rules.specs.declared.reply.Acquired.{Acquired}
use Rattle.mm_rules.specs.declared.reply.Acquired.TheVariants.{Granted, Waits}
use Rattle.mm_rules.specs.TableState.{TableState, owner_of}
use Rattle.mm_rules.specs.Change.{block_fits, label_against}
use Rattle.mm_rules.specs.Event.{Tests, Gives, allowed, outcome, decided, resource_tests, acquire_answer, acquire_change, acquired}
use Rattle.mm_rules.proofs.States.Outcome.{counting}
use Rattle.mm_table.specs.private.LabelLimit.{waiting}

-- ---- any event

pub gives_refused : {A : Type 0} (tests : Tests) (refusal : Refusal) (old : TableState) (answer : A) (new : TableState) → allowed tests ≡ Err refusal
    → Gives (outcome tests old answer new) (Err refusal) old
gives_refused tests refusal old answer new refused =
    let given = sym (ap (λ v. decided v old answer new) refused) in
    (ap (λ o. o.reply) given, ap (λ o. o.state) given)

pub gives_accepted : {A : Type 0} (tests : Tests) (old : TableState) (answer : A) (new : TableState) → allowed tests ≡ Ok tt
    → Gives (outcome tests old answer new) (Ok answer) (counting new (new.totals.accepted + 1))
gives_accepted tests old answer new passed =
    let given = sym (ap (λ v. decided v old answer new) passed) in
    (ap (λ o. o.reply) given, ap (λ o. o.state) given)

-- what the first tests allow, the others decide
pub allowed_then : (first later : Tests) → allowed first ≡ Ok tt → allowed (first ++ later) ≡ allowed later
allowed_then [] later passed = refl
allowed_then ((true, refusal) ∷ first) later passed = (let never : Err refusal ≡ Ok tt = passed in absurd (cc))
allowed_then ((false, refusal) ∷ first) later passed = allowed_then first later passed

-- ---- an acquire, by the owner of the resource

abbrev tests_of : TableState → Key → ℕ → Option Key → Tests
tests_of s k r owner =
    resource_tests s k r ++ (option_map_or (λ h. nat_eq h.process k.process) owner false, AlreadyOwns)
    ∷ (option_map_or (λ h. not (block_fits s k.process h.process)) owner false, LabelsExhausted) ∷ []

with_owner : (s : TableState) (k : Key) (r : ℕ) (owner : Option Key) (reply : Result Acquired Refusal) (new : TableState) → owner_of s r ≡ owner
    → Gives (outcome (tests_of s k r owner) s (acquire_answer s k owner) (acquire_change s k r owner)) reply new → Gives (acquired s k r) reply new
with_owner s k r owner reply new is gives =
    subst (λ o. Gives (outcome (tests_of s k r o) s (acquire_answer s k o) (acquire_change s k r o)) reply new) (sym is) gives

module _ (s : TableState) (k : Key) (r : ℕ) (passed : allowed (resource_tests s k r) ≡ Ok tt) where
  pub gives_granted : owner_of s r ≡ None → Gives (acquired s k r) (Ok Granted) (counting (acquire_change s k r None) (s.totals.accepted + 1))
  gives_granted free =
      with_owner s k r None (Ok Granted) (counting (acquire_change s k r None) (s.totals.accepted + 1)) free
      (gives_accepted (tests_of s k r None) s Granted (acquire_change s k r None) (allowed_then (resource_tests s k r) _ passed))

  pub gives_owned : (h : Key) → owner_of s r ≡ Some h → h.process ≡ k.process → Gives (acquired s k r) (Err AlreadyOwns) s
  gives_owned h owned same =
      with_owner s k r (Some h) (Err AlreadyOwns) s owned
      (gives_refused (tests_of s k r (Some h)) AlreadyOwns s (acquire_answer s k (Some h)) (acquire_change s k r (Some h))
      (allowed_then (resource_tests s k r) _ passed ∙ ap (λ b. allowed ((b, AlreadyOwns) ∷ (not (block_fits s k.process h.process), LabelsExhausted) ∷ [])) (eq-eqb h.process k.process same)))

  other : (h : Key) (fits : Bool) → h.process ≢ k.process → block_fits s k.process h.process ≡ fits
      → allowed (tests_of s k r (Some h)) ≡ allowed ((not fits, LabelsExhausted) ∷ [])
  other h fits apart is =
      allowed_then (resource_tests s k r) _ passed ∙ ap (λ b. allowed ((b, AlreadyOwns) ∷ (not (block_fits s k.process h.process), LabelsExhausted) ∷ [])) (ne_eqb h.process k.process apart)
      ∙ ap (λ b. allowed ((not b, LabelsExhausted) ∷ [])) is

  pub gives_exhausted : (h : Key) → owner_of s r ≡ Some h → h.process ≢ k.process → block_fits s k.process h.process ≡ false → Gives (acquired s k r) (Err LabelsExhausted) s
  gives_exhausted h owned apart full =
      with_owner s k r (Some h) (Err LabelsExhausted) s owned
      (gives_refused (tests_of s k r (Some h)) LabelsExhausted s (acquire_answer s k (Some h)) (acquire_change s k r (Some h)) (other h false apart full))

  pub gives_waits : (h : Key) (label : Label) (new : TableState) → owner_of s r ≡ Some h → h.process ≢ k.process → block_fits s k.process h.process ≡ true
      → label ≡ label_against s k.process h.process → new ≡ waiting s k r label → Gives (acquired s k r) (Ok (Waits h label)) new
  gives_waits h label new owned apart fits is state =
      let given = with_owner s k r (Some h) (Ok (Waits h (label_against s k.process h.process))) (waiting s k r (label_against s k.process h.process)) owned
      (gives_accepted (tests_of s k r (Some h)) s (acquire_answer s k (Some h)) (acquire_change s k r (Some h)) (other h true apart fits)) in
      (ap (λ l. Ok (Waits h l)) is ∙ given.0, state ∙ ap (waiting s k r) is ∙ given.1)
