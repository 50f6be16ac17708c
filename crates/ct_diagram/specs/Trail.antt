-- The steps of the window that were drawn before a step, in their order.
use Rattle.std.specs.Prelude.{ℕ, ◌+◌, ◌*◌, Bool, ◌&&◌, ◌||◌, nat_le, nat_lt, if◌then◌else◌, List, fold, Option, Some, None}
use Rattle.std.specs.List.{count_by, list_any}
use Rattle.ct_model.specs.declared.step.Step.{Step}
use Rattle.ct_model.specs.declared.step.Step.TheVariants.{Receive, Lose, Repeat}
use Rattle.ct_show.specs.Facts.{takes, returns}
use Rattle.ct_diagram.specs.declared.drawn.Drawn.{Drawn}
use Rattle.ct_diagram.specs.declared.sight.Sight.{Sight}
use Rattle.ct_diagram.specs.Sight.{is_wide}

-- how many columns they have
abbrev pub columns : List Drawn → ℕ
columns trail = count_by (λ d. is_wide d.sight) trail

-- the place of the step behind them: in the middle of its column, or else behind the last column
abbrev pub place_after : List Drawn → Sight → ℕ
place_after trail sight = if is_wide sight then 2 * columns trail + 1 else 2 * columns trail

-- the step puts the envelope of a serial into its line: it sends or repeats it
abbrev pub puts : ℕ → Drawn → Bool
puts k d = returns d.step k || (nat_lt d.before k && nat_le k d.sent)

-- the last one that put it there
abbrev pub origin_or : ℕ → Option Drawn → Drawn → Option Drawn
origin_or k before d = if puts k d then Some d else before

abbrev pub origin : List Drawn → ℕ → Option Drawn
origin trail k = fold (origin_or k) None trail

-- one of the steps takes it out of its line
abbrev pub is_taken : List Step → ℕ → Bool
is_taken later k = list_any (λ step. takes step k) later

-- the envelope that a step takes out of its line, and the one that it puts back there
abbrev pub taken : Step → Option ℕ
taken (Receive p k) = Some k
taken (Lose p k) = Some k
taken step = None

abbrev pub returned : Step → Option ℕ
returned (Repeat p k) = Some k
returned step = None
