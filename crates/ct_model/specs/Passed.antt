-- Which of some steps are allowed, each after those before it that are.
use Rattle.std.specs.Prelude.{List, [], ◌∷◌, ◌++◌, is_none, if◌then◌else◌}
use Rattle.ct_model.specs.declared.step.Step.{Step}
use Rattle.ct_model.specs.Rehearsal.{Rehearsal, extended}
use Rattle.ct_model.specs.Cause.{cause}

-- more steps at the end of the record
abbrev pub extended_by : Rehearsal → List Step → Rehearsal
extended_by w steps = record w { steps = w.steps ++ steps }

-- those steps, in order, that have no cause of refusal after the record and the passed ones before them
unfoldable pub passed : Rehearsal → List Step → List Step
passed w [] = []
passed w (step ∷ steps) = if is_none (cause w step) then step ∷ passed (extended w step) steps else passed w steps
