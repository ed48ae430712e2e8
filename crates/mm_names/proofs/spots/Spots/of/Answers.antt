use Rattle.std.proofs.Common.{◌≡◌, ℕ, ◌*◌, ◌/◌, ◌%◌, ◌^◌, ap, sym, ◌∙◌, arith, lit<}
use Rattle.std.proofs.Math.Nat.{mod-eq_of_lt, div-lt_iff_lt-mul}
use Rattle.mm_tagged_lists.specs.declared.spot.Spot.{Spot}
use Rattle.mm_names.proofs.spots.Spots.of.Goals as goal

pub returns-clause-spot : goal.returns-clause-spot
returns-clause-spot c =
    let hash : ℕ = c.of-hash.result in
    let lists = c.args.self.now.lists in
    let high : hash / 2 ^ 32 % 2 ^ 32 ≡ hash / 2 ^ 32 = mod-eq_of_lt ((div-lt_iff_lt-mul (lit< tt)).1 (omega (arith, c.of-hash.type_inv))) in
    let spot : ℕ → ℕ → Spot = λ h n. record { list = h * lists / 2 ^ 32; tag = n % 2 ^ 32 } in
    ap (λ h. spot h hash) (sym high) ∙ ap (λ h. spot (h / 2 ^ 32 % 2 ^ 32) h) c.of-hash.ensures
