-- A module that suspects at each n-th call.
use Rattle.std.specs.Prelude.{ℕ, Bool, Option}
use Rattle.ct_detect.specs.declared.ask.Ask.{Ask}

-- n, how many calls there were so far, modulo n, and the last ask with its answer
pub record EveryNthState : Type 0 where
  pub every : ℕ
  pub calls : ℕ
  pub last : Option (Ask × Bool)
