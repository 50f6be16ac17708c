-- Whole runs.
use Rattle.std.specs.Prelude.{List, [], ◌∷◌, Option, Some, option_and_then}
use Rattle.ct_model.specs.declared.step.Step.{Step}
use Rattle.ct_model.specs.Setting.{Setting}
use Rattle.ct_model.specs.State.{State, first_state}
use Rattle.ct_model.specs.Next.{next}

-- the state after the steps, from a state on
unfoldable pub run_from : Setting → State → List Step → Option State
run_from s g [] = Some g
run_from s g (step ∷ steps) = option_and_then (λ mid. run_from s mid steps) (next s g step)

-- the state after the steps. None: some step isn't enabled
unfoldable pub run : Setting → List Step → Option State
run s steps = run_from s (first_state s) steps
