-- What entries of scripts try.
use Rattle.std.specs.Prelude.{Option, Some, option_map}
use Rattle.ct_choices.specs.Choices.{first_waiting}
use Rattle.ct_model.specs.declared.step.Step.{Step}
use Rattle.ct_model.specs.declared.step.Step.TheVariants.{Submit, Crash, Postpone, Lose, Repeat}
use Rattle.ct_model.specs.Rehearsal.{Rehearsal}
use Rattle.ct_rehearse.specs.declared.disturbance.Disturbance.{Disturbance}
use Rattle.ct_rehearse.specs.declared.disturbance.Disturbance.TheVariants as entry

-- what an entry of a script tries
unfoldable pub entry_step : Rehearsal → Disturbance → Option Step
entry_step w (entry.Submit p command) = Some (Submit p command)
entry_step w (entry.Crash p) = Some (Crash p)
entry_step w (entry.Postpone p) = option_map (Postpone p) (first_waiting w p)
entry_step w (entry.Lose p) = option_map (Lose p) (first_waiting w p)
entry_step w (entry.Repeat p serial) = Some (Repeat p serial)
