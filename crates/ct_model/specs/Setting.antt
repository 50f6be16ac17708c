-- What is fixed for a whole run.
use Rattle.std.specs.Prelude.{ℕ}

-- how many members the group has, and how many messages a member proposes at most for an instance
pub record Setting : Type 0 where
  pub members : ℕ
  pub bound : ℕ
