-- Where the heading of a schedule leads.
use Rattle.std.specs.Prelude.{ℕ, Some, None}
use Rattle.ct_judging.specs.Standing.{Standing}

-- these three are given
abbrev pub given_all : ℕ → ℕ → ℕ → Standing
given_all n cells batch = record { heading = record { group = Some n; cells = cells; batch = batch }; played = None }
