-- Whoever waits for nothing once resources were handed over shows the label that it showed: new labels go to those alone that wait on.
use Rattle.std.proofs.Common.{◌≡◌, ◌<◌, ℕ, List, [], ◌∷◌, length, map, fold, slice_set, nat_eq, Some, None, IsTrue, subst, inl, inr, refl, sym, ap, ◌∙◌}
use Rattle.std.proofs.lemmas.Bool.{cases_eq}
use Rattle.mm_lists.specs.Members.{Among, NoRepeat}
use Rattle.mm_lists.proofs.Lemmas.Among.{among_map}
use Rattle.mm_lists.proofs.Lemmas.NoRepeat.{no_repeat_filter}
use Rattle.mm_lists.proofs.Lemmas.Range.{no_repeat_filter_range}
use Rattle.mm_rules.specs.TableState.{TableState, Wait, public_of, wait_of, waited_for, waiters_of, owns, resources_of}
use Rattle.mm_rules.specs.Change.{activate, give_to, hand_over, vacate, vacate_fits}
use Rattle.mm_rules.specs.Laws.{Laws}
use Rattle.mm_rules.proofs.States.Activate.{waits_else}
use Rattle.mm_rules.proofs.States.HandOverLaws.{owner_within}
use Rattle.mm_rules.proofs.States.Release.{may_hand_over}
use Rattle.mm_rules.proofs.States.Vacate.{Vacating, vacating_begins, vacating_next}
use Rattle.mm_settle_lemmas.specs.Shown.{IdleShowTheSame}
use Rattle.mm_settle_lemmas.specs.Steps.Vacating.{HeldAreUnchanged}
use Rattle.mm_settle_lemmas.proofs.Lemmas.Touched.{blocks_else, blocks_waits, hand_over_else}
use Rattle.mm_settle_lemmas.proofs.Lemmas.Vacated.{waits_or, held_at_first, holds, held_next, gone, free_slot_else}
use Rattle.mm_settle_lemmas.proofs.Lemmas.Waiters.{in_queue}

-- ---- one hand-over

module _ (s : TableState) (r : ℕ) (laws : Laws s) where
  idle_by : (ws : List Wait) → waiters_of s r ≡ ws → (k : ℕ) → wait_of s k ≡ Some r → wait_of (give_to s r ws) k ≡ None → public_of (give_to s r ws) k ≡ public_of s k
  idle_by [] queue k waits idle = absurd (let found = in_queue s r k waits in subst (Among found.0) queue found.1)
  idle_by (first ∷ others) queue k waits idle =
      let number : Wait → ℕ = λ w. w.key.process in
      let m = first.key.process in
      let owned = record (activate s m) { owners = slice_set s.owners r (Some first.key) } in
      elim (cases_eq k m) [
        | inl e ↦
            let once : NoRepeat (map number (first ∷ others)) = subst (λ ws. NoRepeat (map number ws)) queue (no_repeat_filter number (λ w. nat_eq w.resource r) s.waits laws.lawful.well_formed.waits_once) in
            (blocks_else owned m others k (λ w later same. once.0 (subst (λ i. Among i (map number others)) (sym same ∙ e) (among_map number others w later)))).public
        | inr apart ↦
            let still : wait_of (give_to s r (first ∷ others)) k ≡ Some r = ap (λ ws. waited_for ws k) (blocks_waits owned m others) ∙ waits_else s m k apart ∙ waits in
            let never : None ≡ Some r = sym idle ∙ still in
            absurd (cc)
      ]

  pub hand_over_idle : IdleShowTheSame s (hand_over s r)
  hand_over_idle k idle = elim (waits_or (wait_of s k) r) [
    | inl waits ↦ idle_by (waiters_of s r) refl k waits idle
    | inr other ↦ (hand_over_else s r laws k other).public
  ]

-- ---- one hand-over after the other

idle_all : (old s : TableState) (n : ℕ) (rs : List ℕ) → NoRepeat rs → Vacating old s n rs → IdleShowTheSame old s → HeldAreUnchanged old s n → IdleShowTheSame old (fold hand_over s rs)
idle_all old s n [] once now shown held = shown
idle_all old s n (r ∷ rs) once now shown held =
    let owner = now.owned r (inl refl) in
    let laws = now.keeps.laws in
    let within : r < length s.owners = owner_within s r owner.0 (may_hand_over s n r owner.0 laws now.active owner.1 owner.2) in
    idle_all old (hand_over s r) n rs once.1 (vacating_next old s n r rs once now)
    (λ k idle. hand_over_idle s r laws k idle ∙ elim (waits_or (wait_of s k) r) [
      | inl waits ↦ (held k (holds old s n r owner.0 laws owner.1 owner.2 held k waits)).public
      | inr other ↦ shown k (sym (hand_over_else s r laws k other).wait ∙ idle)
    ])
    (held_next old s n r owner.0 laws owner.1 owner.2 held (gone s n r laws within now.active))

pub vacate_idle : (s : TableState) (n : ℕ) → Laws s → wait_of s n ≡ None → IsTrue (vacate_fits s n) → IdleShowTheSame s (vacate s n)
vacate_idle s n laws active fits k idle =
    let same = free_slot_else (fold hand_over s (resources_of s n)) n k in
    same.public
    ∙ idle_all s s n (resources_of s n) (no_repeat_filter_range (owns s n) 0 s.config.resources) (vacating_begins s n laws active fits) (λ i waits_not. refl) (held_at_first s n) k (sym same.wait ∙ idle)
