-- What contracts see of a waiting line.
use Rattle.std.specs.Prelude.{ℕ, List}

-- the serials that wait, and for how many more there is room
pub record WaitingLine : Type 0 where
  pub serials : List ℕ
  pub room : ℕ
