-- The step that room was made for.
use Rattle.ct_model.specs.Moves.{step_of}
use Rattle.ct_model.specs.declared.step.Step.{Step}
use Rattle.ct_model.specs.declared.step.Step.TheVariants as step
use Rattle.ct_world.specs.Closing.{closing_step}
use Rattle.ct_world.specs.declared.prepared.Prepared.{Prepared}
use Rattle.ct_world.specs.declared.prepared.Prepared.TheVariants.{Submit, Receive, Begin, Round, Close, Crash, Postpone, Lose, Repeat}

abbrev pub step_in : Prepared → Step
step_in (Submit p c) = step.Submit p c
step_in (Receive p k place) = step.Receive p k
step_in (Begin p v) = step.Begin p
step_in (Round p action) = step_of p action
step_in (Close closing p id batch) = closing_step closing p
step_in (Crash p) = step.Crash p
step_in (Postpone p k place) = step.Postpone p k
step_in (Lose p k place) = step.Lose p k
step_in (Repeat p k) = step.Repeat p k
