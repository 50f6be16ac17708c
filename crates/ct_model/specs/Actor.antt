-- Who takes a step.
use Rattle.std.specs.Prelude.{ℕ}
use Rattle.ct_model.specs.declared.step.Step.{Step}
use Rattle.ct_model.specs.declared.step.Step.TheVariants.{Submit, Receive, Begin, Enter, Choose, Adopt, Suspect, Conclude, Deliver}
use Rattle.ct_model.specs.declared.step.Step.TheVariants.{Follow, Crash, Postpone, Lose, Repeat}

-- the member that takes the step
abbrev pub actor : Step → ℕ
actor (Submit p c) = p
actor (Receive p k) = p
actor (Begin p) = p
actor (Enter p) = p
actor (Choose p from) = p
actor (Adopt p) = p
actor (Suspect p) = p
actor (Conclude p) = p
actor (Deliver p) = p
actor (Follow p) = p
actor (Crash p) = p
actor (Postpone p k) = p
actor (Lose p k) = p
actor (Repeat p k) = p
