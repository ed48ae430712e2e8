-- The processes along the links of the slots, and what a write of one slot leaves of it.
use Rattle.std.proofs.Common.{◌≡◌, ◌≢◌, ℕ, zero, suc, ◌≤◌, List, [], ◌∷◌, Option, Some, None, length, set, slice_get, refl, ap, subst, ◌∙◌, arith}
use Rattle.std.specs.List.{AllByRecursion}
use Rattle.mm_lists.proofs.Lemmas.Set.{slice_get-set_other}
use Rattle.mm_arena.specs.declared.slot.Slot.{Slot}
use Rattle.mm_arena.specs.private.Layout.{HasFree, IsLink, IsChain, link_of, walk}

module _ {T : Type 0} (slots : List (Slot T)) (unused : ℕ) where
  -- a write of a slot that is not listed keeps the links
  pub IsChain-set : (k : ℕ) (slot : Slot T) (listed : List ℕ) (first : Option ℕ) → AllByRecursion (λ other. other ≢ k) listed → IsChain slots unused listed first → IsChain (set slots k slot) unused listed first
  IsChain-set k slot [] first apart chain = chain
  IsChain-set k slot (process ∷ later) first apart chain =
      let kept = slice_get-set_other slots process k slot apart.0 in (
        chain.0,
        record { free = rw kept chain.1.free; used = chain.1.used; once = chain.1.once },
        rw kept (IsChain-set k slot later _ apart.1 chain.2),
      )

  -- a walk along the links gives the listed processes
  pub walk-IsChain : (listed : List ℕ) (first : Option ℕ) (most : ℕ) → IsChain slots unused listed first → length listed ≤ most → walk slots most first ≡ listed
  walk-IsChain [] first zero chain short = refl
  walk-IsChain [] first (suc most) chain short = ap (walk slots (suc most)) chain
  walk-IsChain (process ∷ later) first zero chain short = absurd (omega arith)
  walk-IsChain (process ∷ later) first (suc most) chain short =
      ap (walk slots (suc most)) chain.0
      ∙ ap (λ rest. process ∷ rest) (walk-IsChain later (link_of (slice_get slots process)) most chain.2 (omega arith))

  -- a process whose slot is not free is not listed
  pub IsChain-off : (k : ℕ) → (HasFree (slice_get slots k) → ⊥) → (listed : List ℕ) (first : Option ℕ) → IsChain slots unused listed first → AllByRecursion (λ other. other ≢ k) listed
  IsChain-off k taken [] first chain = tt
  IsChain-off k taken (process ∷ later) first chain = (
    λ same. taken (subst (λ p. HasFree (slice_get slots p)) same chain.1.free),
    IsChain-off k taken later _ chain.2,
  )

  -- the links from a process begin with it
  pub record StartsAt (process : ℕ) (listed : List ℕ) : Type 0 where
    pub later : List ℕ
    pub split : listed ≡ process ∷ later
    pub link : IsLink slots unused process later
    pub chain : IsChain slots unused later (link_of (slice_get slots process))

  pub IsChain-some : (process : ℕ) (listed : List ℕ) (first : Option ℕ) → first ≡ Some process → IsChain slots unused listed first → StartsAt process listed
  IsChain-some process [] first is chain = absurd (cc)
  IsChain-some process (head ∷ later) first is chain =
      let same : head ≡ process = cc in
      subst (λ p. StartsAt p (head ∷ later)) same (record { later = later; split = refl; link = chain.1; chain = chain.2 })

  -- with no first process there are none
  pub IsChain-none : (listed : List ℕ) (first : Option ℕ) → first ≡ None → IsChain slots unused listed first → listed ≡ []
  IsChain-none [] first is chain = refl
  IsChain-none (head ∷ later) first is chain = absurd (cc)
