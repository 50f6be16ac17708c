-- How far walks go that show a goal.
use Rattle.std.specs.Prelude.{ℕ, length, Option, Some, None, if◌then◌else◌}
use Rattle.ct_grammar.specs.declared.goal.Goal.{Goal}
use Rattle.ct_walk.specs.declared.options.WalkOptions.{WalkOptions}
use Rattle.ct_walk.specs.declared.walk_size.WalkSize.{WalkSize}
use Rattle.ct_walk.specs.Finding.{finds}
use Rattle.ct_walk.specs.Nearness.{rounds_of}
use Rattle.ct_walk.specs.Options.{with_seed}
use Rattle.ct_walk.specs.Walking.{walked}

-- of the walk of this seed, made until the goal
unfoldable pub size_of : WalkOptions → Goal → ℕ → WalkSize
size_of o goal seed =
    let w = with_seed o seed in
    record { steps = length (walked w (Some goal)).steps; round = rounds_of w (Some goal) }

-- the same, where it shows the goal
abbrev pub size_if_shown : WalkOptions → Goal → ℕ → Option WalkSize
size_if_shown o goal seed = if finds o goal seed then Some (size_of o goal seed) else None
