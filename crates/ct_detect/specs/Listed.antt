-- A module that suspects the members of a set.
use Rattle.std.specs.Prelude.{ℕ, Bool, List, Option}
use Rattle.ct_detect.specs.declared.ask.Ask.{Ask}

-- the suspected members, rising, and the last ask with its answer
pub record ListedState : Type 0 where
  pub suspected : List ℕ
  pub last : Option (Ask × Bool)
