-- An arena that was never used.
use Rattle.std.proofs.Common.{◌≡◌, ℕ, zero, suc, ◌-◌, ◌<◌, ◌≤◌, List, [], ◌∷◌, ◌++◌, Some, None, map, length, get_or, replicate, slice_get, refl, sym, ap, subst, ◌∙◌, arith}
use Rattle.std.specs.List.{range_with_len}
use Rattle.std.proofs.lemmas.List.{length-replicate, get_or-replicate}
use Rattle.std.proofs.lemmas.List.Elements.{All-replicate}
use Rattle.std.proofs.lemmas.Option.{slice_get-get_or}
use Rattle.mm_arena.specs.declared.arena.TheConstants.{MAX_CAPACITY}
use Rattle.mm_arena.specs.declared.slot.Slot.{Slot}
use Rattle.mm_arena.specs.declared.slot.State.TheVariants.{Free}
use Rattle.mm_arena.specs.Slots.{opening_slots}
use Rattle.mm_arena.specs.private.Layout.{place_of, walk, seen, HasFree, IsInLimit, IsLaidOut}
use Rattle.mm_arena.proofs.Lemmas.Layout.{live_slots, same_slots}

-- a slot that was never used
abbrev pub new_slot : {T : Type 0} → Slot T
new_slot = record { generation = 1; state = Free None }

map-replicate : {X Y : Type 0} (f : X → Y) (n : ℕ) (x : X) → map f (replicate n x) ≡ replicate n (f x)
map-replicate f zero x = refl
map-replicate f (suc n) x = ap (λ ys. f x ∷ ys) (map-replicate f n x)

new_slot-free : (T : Type 0) (n i : ℕ) → i < n → HasFree {T = T} (slice_get (replicate n new_slot) i)
new_slot-free T n i below =
    let slots : List (Slot T) = replicate n new_slot in
    let read : get_or slots i new_slot ≡ new_slot = get_or-replicate n i new_slot new_slot below in
    subst HasFree (sym (slice_get-get_or slots i new_slot (omega (arith, length-replicate n (new_slot {T = T}))) ∙ ap Some read)) tt

no_live : (T : Type 0) (n : ℕ) → live_slots {T = T} (replicate n new_slot) ≡ 0
no_live T zero = refl
no_live T (suc n) = no_live T n

module _ {T : Type 0} (slots : List (Slot T)) (capacity limit : ℕ) (all : slots ≡ replicate capacity new_slot) where
  pub IsLaidOut-opening : capacity ≤ MAX_CAPACITY → 1 ≤ limit → IsLaidOut (record { slots = slots; newest = None; unused = 0; live = 0; limit = limit })
  IsLaidOut-opening small some =
      let same_length = length-replicate capacity (new_slot {T = T}) in
      rw all (record {
        freed = [];
        linked = refl;
        untouched = λ i from short. new_slot-free T capacity i (omega arith);
        within = omega arith;
        counted = sym (no_live T capacity);
        room = omega arith;
        generations = All-replicate (IsInLimit limit) capacity new_slot (omega arith, some);
        size = omega arith;
      })

  walk-none : (most : ℕ) → walk slots most None ≡ []
  walk-none zero = refl
  walk-none (suc most) = refl

  pub seen-opening : seen (record { slots = slots; newest = None; unused = 0; live = 0; limit = limit }) ≡ opening_slots capacity limit
  seen-opening =
      let whole : length slots - 0 ≡ capacity = omega (arith, ap length all, length-replicate capacity (new_slot {T = T})) in
      same_slots _ _ _ _ limit (ap (map place_of) all ∙ map-replicate place_of capacity new_slot)
      (λ j. walk-none (length slots) j ++ range_with_len 0 (whole j))
