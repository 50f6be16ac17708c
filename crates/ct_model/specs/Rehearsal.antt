-- A record of steps, and where it leads.
use Rattle.std.specs.Prelude.{ℕ, List, [], ◌∷◌, ◌++◌, fold, take}
use Rattle.ct_model.specs.declared.step.Step.{Step}
use Rattle.ct_model.specs.Setting.{Setting}
use Rattle.ct_model.specs.State.{State, first_state}
use Rattle.ct_model.specs.Next.{stepped}
use Rattle.ct_model.specs.Waiting.{waiting}

-- what is fixed, the number of cells for batches, and the steps in order
pub record Rehearsal : Type 0 where
  pub setting : Setting
  pub cells : ℕ
  pub steps : List Step

-- the state that the steps lead to
unfoldable pub state_of : Rehearsal → State
state_of w = fold (stepped w.setting) (first_state w.setting) w.steps

-- the waiting line of a member after the steps
unfoldable pub line_of : Rehearsal → ℕ → List ℕ
line_of w p = waiting w.setting w.steps p

-- no steps yet
abbrev pub empty : Setting → ℕ → Rehearsal
empty s cells = record { setting = s; cells = cells; steps = [] }

-- one more step
abbrev pub extended : Rehearsal → Step → Rehearsal
extended w step = record w { steps = w.steps ++ step ∷ [] }

-- the first steps of a list, as a record
abbrev pub first_steps : Setting → ℕ → List Step → ℕ → Rehearsal
first_steps s cells steps k = record { setting = s; cells = cells; steps = take k steps }
