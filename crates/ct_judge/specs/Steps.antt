-- Several steps, as lines.
use Rattle.std.specs.Prelude.{ℕ, List, [], ◌∷◌, ◌++◌, codes, flat_map}
use Rattle.ct_model.specs.Rehearsal.{Rehearsal}
use Rattle.ct_model.specs.declared.step.Step.{Step}
use Rattle.ct_judging.specs.Steps.{step_line}

-- the lines of these, this text between each two; a dash where there is none
abbrev pub step_lines : List ℕ → Rehearsal → List Step → List ℕ
step_lines between w [] = codes "-"
step_lines between w (step ∷ steps) = step_line w step ++ flat_map (λ other. between ++ step_line w other) steps
