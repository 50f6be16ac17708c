-- Trials that are made in worlds of the caller's, step by step.
use Rattle.std.specs.Prelude.{ℕ, List, Option, Some, None, drop}
use Rattle.ct_model.specs.Rehearsal.{Rehearsal}
use Rattle.ct_model.specs.declared.step.Step.{Step}
use Rattle.ct_shrink.specs.Playing.{first_for}
use Rattle.ct_shrink.specs.Shrinking.{Shrinking, first_shrinking}
use Rattle.ct_shrink.specs.declared.line.Line.{Line}

-- how far the trials are, and the place of the line that is tried next
pub record Making : Type 0 where
  pub shrinking : Shrinking
  pub at : ℕ

-- before the first trial of the run of these lines
abbrev pub first_making : List Line → ℕ → Making
first_making lines most = record { shrinking = first_shrinking lines most; at = 0 }

-- the lines whose trial is asked for; those of the run, where none is
abbrev pub tried_of : List Line → Option (List Line) → List Line
tried_of lines None = lines
tried_of lines (Some asked) = asked

abbrev pub tried_lines : Shrinking → List Line
tried_lines s = tried_of s.lines s.asked

-- in the world of this record: the place behind the next line that is taken, and its step
abbrev pub taken_next : Making → Rehearsal → ℕ × Option Step
taken_next m w = first_for w m.at (drop m.at (tried_lines m.shrinking))

-- the step, None behind the last line
unfoldable pub next_step : Making → Rehearsal → Option Step
next_step m w = (taken_next m w).1

-- after it
unfoldable pub after_next : Making → Rehearsal → Making
after_next m w = record m { at = (taken_next m w).0 }
