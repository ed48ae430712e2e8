-- The shape of a storm, as a contract sees it.
use Rattle.std.specs.Prelude.{ℕ}
use Rattle.mm_workload.specs.declared.shape.StormShape.{StormShape}

-- how many resources there are, how many words give a transaction a resource at most, and how many transactions each client makes
pub record Shape : Type 0 where
  pub resources : ℕ
  pub acquires : ℕ
  pub transactions : ℕ

abbrev pub shape_of : StormShape → Shape
shape_of shape = record { resources = shape.resources; acquires = shape.acquires; transactions = shape.transactions }

-- the shape of a storm of which no more is said
abbrev pub usual : Shape
usual = record { resources = 8; acquires = 4; transactions = 1 }
