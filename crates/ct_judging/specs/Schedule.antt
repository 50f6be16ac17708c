-- Whole schedules.
use Rattle.std.specs.Prelude.{ℕ, ◌+◌, List, [], ◌∷◌, ◌++◌, codes, Result, Ok, Err}
use Rattle.ct_model.specs.Rehearsal.{Rehearsal}
use Rattle.ct_grammar.specs.Texts.{lines_of}
use Rattle.ct_play.specs.Acting.{go_on}
use Rattle.ct_play.specs.declared.line_fault.LineFault.{LineFault}
use Rattle.ct_judging.specs.Reading.{shown}
use Rattle.ct_judging.specs.Standing.{Standing, start, world_of}
use Rattle.ct_judging.specs.Telling.{Explained, told}

-- where a schedule stands, and how many of its lines are over
pub record Progress : Type 0 where
  pub standing : Standing
  pub number : ℕ

-- the first line that is refused, counted from 1, its fault, and the text of that
pub record Stopped : Type 0 where
  pub at : ℕ
  pub fault : LineFault
  pub text : List ℕ

abbrev pub beginning : Progress
beginning = record { standing = start; number = 0 }

-- after a line that comes to this; a fault is told behind its line
abbrev pub line_over : Progress → List ℕ → Result Standing Explained → Result Progress Stopped
line_over t line (Ok s) = Ok (record { standing = s; number = t.number + 1 })
line_over t line (Err e) = Err (record { at = t.number + 1; fault = e.fault; text = shown line ++ e.text })

-- after one line more
unfoldable pub after_line : Progress → List ℕ → Result Progress Stopped
after_line t line = line_over t line (told t.standing line)

-- after these lines, one by one
abbrev pub after_lines : Progress → List (List ℕ) → Result Progress Stopped
after_lines t [] = Ok t
after_lines t (line ∷ lines) = go_on (after_line t line) (λ u. after_lines u lines)

-- the world in the end; the last line is told where no line made one
abbrev pub world_at : ℕ → Result Rehearsal LineFault → Result Rehearsal Stopped
world_at number (Ok w) = Ok w
world_at number (Err fault) = Err (record { at = number; fault = fault; text = codes "no members" })

abbrev pub finished : Result Progress Stopped → Result Rehearsal Stopped
finished (Ok t) = world_at t.number (world_of t.standing)
finished (Err stopped) = Err stopped

-- what a schedule of this text comes to: the record, or its first line that is refused
unfoldable pub schedule : List ℕ → Result Rehearsal Stopped
schedule text = finished (after_lines beginning (lines_of text))
