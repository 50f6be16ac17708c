-- What is told where a walk doesn't show what is looked for.
use Rattle.std.specs.Prelude.{ℕ, ◌==◌, List, [], ◌∷◌, ◌++◌, Option, Some, None, codes, decimal, if◌then◌else◌}
use Rattle.std.specs.List.{concat}
use Rattle.ct_walk.specs.declared.missed.Missed.{Missed}
use Rattle.ct_walk.specs.declared.sight.Sight.{Sight}
use Rattle.ct_walk.specs.declared.sight.Sight.TheVariants.{Decided, Round}

-- what is looked for
abbrev pub sight_text : Sight → List ℕ
sight_text (Decided instance) = codes "decided " ++ decimal instance
sight_text (Round round) = codes "round " ++ decimal round

-- what a walk came to of it
abbrev pub came_text : Sight → ℕ → List ℕ
came_text (Decided instance) n = if n == 0 then codes "decided none" else codes "decided " ++ decimal n
came_text (Round round) n = if n == 0 then codes "came to no round" else codes "came to round " ++ decimal n

abbrev pub sought_text : ℕ → ℕ → Option Sight → List ℕ
sought_text seed came_to None = concat (codes "seed " ∷ decimal seed ∷ codes " does not show it" ∷ [])
sought_text seed came_to (Some sight) =
    concat (codes "seed " ∷ decimal seed ∷ codes " does not show " ∷ sight_text sight ∷ codes ": it " ∷ came_text sight came_to ∷ [])

abbrev pub missed_text : Missed → List ℕ
missed_text missed = sought_text missed.seed missed.came_to missed.sight
