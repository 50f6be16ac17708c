-- The text of a record.
use Rattle.std.specs.Prelude.{ℕ, List, [], ◌∷◌, codes, decimal, map}
use Rattle.std.specs.List.{join_with_byte, concat}
use Rattle.ct_model.specs.declared.step.Step.{Step}
use Rattle.ct_model.specs.Rehearsal.{Rehearsal}
use Rattle.ct_model.specs.StepText.{step_text}

-- with a comma between each two
abbrev pub steps_text : List Step → List ℕ
steps_text steps = join_with_byte 44 (map step_text steps)

unfoldable pub record_text : Rehearsal → List ℕ
record_text w =
    concat (codes "{\"batch\":" ∷ decimal w.setting.bound ∷ codes ",\"cells\":" ∷ decimal w.cells
    ∷ codes ",\"n\":" ∷ decimal w.setting.members
    ∷ codes ",\"steps\":[" ∷ steps_text w.steps ∷ codes "],\"version\":3}" ∷ [])
