-- Which seed's walk shows what is looked for.
use Rattle.std.specs.Prelude.{ℕ, Bool, zero, suc, ◌+◌, ◌-◌, Option, Some, None, if◌then◌else◌}
use Rattle.ct_grammar.specs.declared.goal.Goal.{Goal}
use Rattle.ct_walk.specs.declared.call.Seeds.{Seeds}
use Rattle.ct_walk.specs.declared.options.WalkOptions.{WalkOptions}
use Rattle.ct_walk.specs.Options.{with_seed}
use Rattle.ct_walk.specs.Shown.{is_shown_by}
use Rattle.ct_walk.specs.Walking.{walked}

-- how many seeds there are from the first to the last one
abbrev pub seeds_to : ℕ → ℕ → ℕ
seeds_to first last = (last + 1) - first

-- the walk of this seed, made until the goal, shows it
abbrev pub finds : WalkOptions → Goal → ℕ → Bool
finds o goal seed = is_shown_by (Some goal) (walked (with_seed o seed) (Some goal))

-- the first of so many seeds, from this one on, whose walk shows the goal
unfoldable pub first_seed : WalkOptions → Goal → ℕ → ℕ → Option ℕ
first_seed o goal seed zero = None
first_seed o goal seed (suc more) = if finds o goal seed then Some seed else first_seed o goal (seed + 1) more

-- the first of these seeds
abbrev pub first_of : WalkOptions → Goal → Seeds → Option ℕ
first_of o goal seeds = first_seed o goal seeds.first (seeds_to seeds.first seeds.last)
