-- Lines that are tried in a world of the caller's, step by step, and the lines of its record.
use Rattle.std.specs.Prelude.{ℕ, ◌+◌, List, [], ◌∷◌, Option, Some, None, Result, Ok, Err, is_none, if◌then◌else◌}
use Rattle.std.specs.Option.{option_or}
use Rattle.ct_model.specs.Actor.{actor}
use Rattle.ct_model.specs.Cause.{cause}
use Rattle.ct_model.specs.Rehearsal.{Rehearsal, empty, extended}
use Rattle.ct_model.specs.declared.step.Step.{Step}
use Rattle.ct_play.specs.Acting.{step_of}
use Rattle.ct_play.specs.declared.line_fault.LineFault.{LineFault}
use Rattle.ct_listing.specs.Naming.{act_of}
use Rattle.ct_listing.specs.declared.naming.Naming.TheVariants.{Full}
use Rattle.ct_shrink.specs.Lines.{other_line}
use Rattle.ct_shrink.specs.declared.line.Line.{Line}

-- ---- the steps of lines

-- the step, where it is allowed
abbrev pub unless_refused : Rehearsal → Result Step LineFault → Option Step
unless_refused w (Err fault) = None
unless_refused w (Ok step) = if is_none (cause w step) then Some step else None

-- the step of the line, if there is one and it is allowed
unfoldable pub step_by : Rehearsal → Option Line → Option Step
step_by w None = None
step_by w (Some line) = unless_refused w (step_of w line.member line.act)

-- the step by which the line is taken: its own where that is allowed, else that of the other line; None where it is left out
unfoldable pub step_for : Rehearsal → Line → Option Step
step_for w line = option_or (step_by w (Some line)) (step_by w (other_line w line))

-- this step and place, where there is one
abbrev pub unless_none : ℕ × Option Step → ℕ → Option Step → ℕ × Option Step
unless_none rest i None = rest
unless_none rest i (Some step) = (i, Some step)

-- the place behind the first of these lines that is taken, and its step; the lines are counted from i on
abbrev pub first_for : Rehearsal → ℕ → List Line → ℕ × Option Step
first_for w i [] = (i, None)
first_for w i (line ∷ lines) = unless_none (first_for w (i + 1) lines) (i + 1) (step_for w line)

-- ---- the lines of steps

-- the line of a step that is taken next
abbrev pub line_of : Rehearsal → Step → Line
line_of w step = record { member = actor step; act = act_of Full w step }

-- those of steps, one after the other
abbrev pub lines_behind : Rehearsal → List Step → List Line
lines_behind w [] = []
lines_behind w (step ∷ steps) = line_of w step ∷ lines_behind (extended w step) steps

-- those of a record
abbrev pub lines_of : Rehearsal → List Line
lines_of w = lines_behind (empty w.setting w.cells) w.steps
