-- The values that the steps of a record are, as JSON.
use Rattle.std.specs.Prelude.{ℕ, ◌+◌, ◌-◌, List, [], ◌∷◌, ◌++◌, length, flat_map, if◌then◌else◌, Option, Some, None, slice_get}
use Rattle.std.specs.Option.{option_map_or}
use Rattle.serde_json.specs.Data.{Data}
use Rattle.ct_names.specs.declared.refusal.Refusal.{Refusal}
use Rattle.ct_names.specs.Group.{counting}
use Rattle.ct_model.specs.Actor.{actor}
use Rattle.ct_model.specs.declared.step.Step.{Step}
use Rattle.ct_model.specs.Rehearsal.{Rehearsal, extended, state_of}
use Rattle.ct_world.specs.Replay.{first_steps}
use Rattle.ct_json.specs.JsonSteps.{refused_value, value_in}
use Rattle.ct_views.specs.declared.selection.Selection.{Selection}
use Rattle.ct_views.specs.Selected.{is_selected}

-- a step that is taken after a record
abbrev pub step_value : Rehearsal → ℕ → Step → Data
step_value w number step = value_in (extended w step) (length (state_of w).sent) number step

-- the step at a place, counted from 0, where it is asked for
abbrev pub asked_values : Selection → Rehearsal → ℕ → Option Step → List Data
asked_values selection w place None = []
asked_values selection w place (Some step) =
    if is_selected selection (place + 1) (actor step) then step_value w (place + 1) step ∷ [] else []

-- those of the first steps that are asked for
unfoldable pub steps_values : Selection → Rehearsal → ℕ → List Data
steps_values selection w count =
    flat_map (λ place. asked_values selection (first_steps w.setting w.cells w.steps place) place (slice_get w.steps place))
    (counting 0 count)

-- the step of a number, which is refused
unfoldable pub refused_values : Rehearsal → ℕ → Refusal → List Data
refused_values w number refusal =
    option_map_or (λ step. refused_value (first_steps w.setting w.cells w.steps (number - 1)) number step refusal ∷ [])
    (slice_get w.steps (number - 1)) []

-- those before the step of a number that are asked for, and that step, which is refused
abbrev pub shown_values : Selection → Rehearsal → ℕ → Refusal → List Data
shown_values selection w number refusal = steps_values selection w (number - 1) ++ refused_values w number refusal
