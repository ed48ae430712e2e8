use Rattle.std.proofs.Common.{◌≡◌, ◌+◌, ◌-◌, ℕ, refl, inl, subst, arith}
use Rattle.mm_thin.specs.Calls.{LeavesName, GivesBackFrom}
use Rattle.mm_thin.proofs.Giving.{gives_one, leaves_one}
use Rattle.mm_thin.proofs.worker.Worker.let_go_all.Goals as goal

pub loop-k-init : goal.loop-k-init
loop-k-init c = record {
  of = refl;
  at = refl;
  size = refl;
  each = λ k r is. inl is;
  none = λ so. c.used-k.ensures;
  some = λ so. absurd (cc);
}

pub loop-k-preserved : goal.loop-k-preserved
loop-k-preserved c =
    let low = c.loop-k-test.true in
    let next : c.loop-k.k ≡ c.loop-k.k - 1 + 1 = omega arith in
    gives_one c.args.self.now c.loop-k.self (c.loop-k.k - 1) c.loop-k.is_left (subst (λ (k : ℕ). GivesBackFrom c.args.self.now k c.loop-k.is_left c.loop-k.self) next c.loop-k.invariant)
    c.let_go.result c.let_go.new.self c.let_go.ensures c.in_default.not-Changed

pub loop-k-preserved-in-Changed : goal.loop-k-preserved-in-Changed
loop-k-preserved-in-Changed c =
    let low = c.loop-k-test.true in
    let next : c.loop-k.k ≡ c.loop-k.k - 1 + 1 = omega arith in
    leaves_one c.args.self.now c.loop-k.self (c.loop-k.k - 1) c.loop-k.is_left (subst (λ (k : ℕ). GivesBackFrom c.args.self.now k c.loop-k.is_left c.loop-k.self) next c.loop-k.invariant)
    c.let_go.new.self (subst (λ g. LeavesName c.loop-k.self (c.loop-k.k - 1) g c.let_go.new.self) c.in-Changed.is c.let_go.ensures)
