-- What contracts see of a book of values.
use Rattle.std.specs.Prelude.{ℕ, List}
use Rattle.ct_names.specs.Value.{Value}

-- the values by number, from 0, and how many more there is room for
pub record Contents : Type 0 where
  pub values : List Value
  pub room : ℕ
