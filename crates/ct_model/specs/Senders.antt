-- Whose step sent each envelope.
use Rattle.std.specs.Prelude.{ℕ, ◌-◌, List, [], ◌∷◌, ◌++◌, length, replicate}
use Rattle.std.specs.Option.{option_map_or}
use Rattle.ct_model.specs.declared.step.Step.{Step}
use Rattle.ct_model.specs.Actor.{actor}
use Rattle.ct_model.specs.Setting.{Setting}
use Rattle.ct_model.specs.State.{State, first_state}
use Rattle.ct_model.specs.Next.{next}

-- the member whose step sent each serial, by serial, from a state on
unfoldable pub senders_from : Setting → State → List Step → List ℕ
senders_from s g [] = []
senders_from s g (step ∷ steps) =
    option_map_or (λ mid. replicate (length mid.sent - length g.sent) (actor step) ++ senders_from s mid steps) (next s g step) []

-- the member whose step sent each serial, by serial
unfoldable pub senders : Setting → List Step → List ℕ
senders s steps = senders_from s (first_state s) steps
