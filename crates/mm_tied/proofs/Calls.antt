-- What a call owes between taking the lock and giving it back.
use Rattle.std.proofs.Common.{◌≡◌, ℕ, List, [], ◌∷◌, sym, ap, ◌∙◌, subst}
use Rattle.atomic_table.specs.Table.{Me, rest}
use Rattle.mm_tied.specs.declared.views.View.{View}
use Rattle.mm_tied.specs.History.{Chain}
use Rattle.mm_tied.specs.Rule.{Found, Makes}

abbrev head_or : {T : Type 0} → T → List (ℕ × T) → T
head_or x [] = x
head_or x (y ∷ ys) = y.1

module _ {T S E : Type 0} (state : T → S) where
  -- a pass that took the lock has the value in its hand
  pub in_hand : (v : View S E) (now : Me T (View S E)) → Found state v now → (value : T) × (now.1 ≡ (0, value) ∷ rest now.1)
  in_hand v now found = (found.1, let hand = ap (λ (m : Me T (View S E)). m.1) found.2 in hand ∙ ap (λ (l : List (ℕ × T)). (0, found.1) ∷ rest l) (sym hand))

  -- after these events
  pub made : (makes : S → E → S → Type 0) (v : View S E) (now : Me T (View S E)) (old new : T) (es : List E) → Found state v now → now.1 ≡ (0, old) ∷ rest now.1 → Chain makes (state old) es (state new)
      → Makes state makes es (now.0, (0, new) ∷ rest now.1)
  made makes v now old new es found hand run =
      let is = ap (λ (m : Me T (View S E)). m.1) found.2 in
      let same : found.1 ≡ old = ap (head_or found.1) (sym is ∙ hand) in (
        found.0,
        state found.1,
        new,
        ap (λ (m : Me T (View S E)). m.0.stage) found.2,
        ap (λ (l : List (ℕ × T)). (0, new) ∷ rest l) is,
        subst (λ (x : T). Chain makes (state x) es (state new)) (sym same) run,
      )
