-- A graph with one process's holder and labels put in anew.
use Rattle.std.specs.Prelude.{ℕ, Option, cond, ◌==◌, ◌≡◌, ◌≢◌}
use Rattle.std.proofs.Common.{arith, refl}
use Rattle.std.proofs.lemmas.Bool.Decides.{nat_tests}
use Rattle.mm_rules.specs.Graph.{Graph}
use Rattle.mm_rules.proofs.Graph.Change.{SameAt}

with_at : {A : Type 0} → (ℕ → A) → ℕ → A → ℕ → A
with_at f n x k = cond (k == n) x (f k)

with_at-here : {A : Type 0} (f : ℕ → A) (n : ℕ) (x : A) → with_at f n x n ≡ x
unfolding with_at
with_at-here f n x = grind (arith, nat_tests)

with_at-elsewhere : {A : Type 0} (f : ℕ → A) (n : ℕ) (x : A) (k : ℕ) → k ≢ n → with_at f n x k ≡ f k
unfolding with_at
with_at-elsewhere f n x k apart = grind (arith, nat_tests)

-- new is as g but at n, which has the holder x and the labels p and q
pub record IsUpdate (g : Graph) (n : ℕ) (x : Option ℕ) (p q : ℕ) (new : Graph) : Type 0 where
  pub processes : new.processes ≡ g.processes
  pub holder : new.holder n ≡ x
  pub private : new.private n ≡ p
  pub public : new.public n ≡ q
  pub others : (k : ℕ) → k ≢ n → SameAt g new k

pub update : Graph → ℕ → Option ℕ → ℕ → ℕ → Graph
update g n x p q = record { processes = g.processes; holder = with_at g.holder n x; private = with_at g.private n p; public = with_at g.public n q }

pub is_update : (g : Graph) (n : ℕ) (x : Option ℕ) (p q : ℕ) → IsUpdate g n x p q (update g n x p q)
unfolding update
is_update g n x p q = record {
  processes = refl;
  holder = with_at-here g.holder n x;
  private = with_at-here g.private n p;
  public = with_at-here g.public n q;
  others = λ k apart. record {
    holder = with_at-elsewhere g.holder n x k apart;
    private = with_at-elsewhere g.private n p k apart;
    public = with_at-elsewhere g.public n q k apart;
  };
}
