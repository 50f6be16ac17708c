-- When a step is allowed after a record.
use Rattle.std.specs.Prelude.{◌≡◌, ◌+◌, length, Some}
use Rattle.ct_model.specs.declared.step.Step.{Step}
use Rattle.ct_model.specs.State.{State}
use Rattle.ct_model.specs.Next.{next}
use Rattle.ct_model.specs.Rehearsal.{Rehearsal, state_of}
use Rattle.ct_model.specs.Lawful.{IsWithin, NamesWaiting}

-- the step is enabled, a serial that it takes or moves waits, one that it puts back doesn't, and neither the state after it
-- nor the longer record passes a limit
pub record IsAllowed (w : Rehearsal) (step : Step) : Type 0 where
  pub after : State
  pub enabled : next w.setting (state_of w) step ≡ Some after
  pub waits : NamesWaiting w step
  pub within : IsWithin w.cells after (length w.steps + 1)
