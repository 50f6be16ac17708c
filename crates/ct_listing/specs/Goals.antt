-- Schedules with a line behind them that expects a goal.
use Rattle.std.specs.Prelude.{◌≡◌, ◌&&◌, ℕ, Bool, true, false, List, [], ◌∷◌, ◌++◌, Result, Ok, codes, is_ok}
use Rattle.ct_model.specs.Rehearsal.{Rehearsal}
use Rattle.ct_grammar.specs.Lines.{line_of}
use Rattle.ct_grammar.specs.declared.goal.Goal.{Goal}
use Rattle.ct_grammar.specs.declared.line.Line.{Line}
use Rattle.ct_grammar.specs.declared.line.Line.TheVariants.{Play as Plays}
use Rattle.ct_grammar.specs.declared.misfit.Misfit.{Misfit}
use Rattle.ct_grammar.specs.declared.play.Play.TheVariants.{Expect}
use Rattle.ct_print.specs.Goals.{goal_text}
use Rattle.ct_play.specs.Expecting.{expected}
use Rattle.ct_play.specs.Goals.{uncut}
use Rattle.ct_play.specs.Played.{Played}
use Rattle.ct_judging.specs.Schedule.{schedule}
use Rattle.ct_listing.specs.Leading.{one_line}
use Rattle.ct_listing.specs.Listing.{IsScheduleOf}

-- the line that expects the goal
abbrev pub goal_line : Goal → List ℕ
goal_line goal = codes "expect " ++ goal_text goal

-- what is read expects a goal, which holds
abbrev pub is_met_in : Played → Result Line Misfit → Bool
is_met_in s (Ok (Plays (Expect goal))) = is_ok (expected s goal)
is_met_in s _ = false

-- the text is one line, which expects a goal, and that holds
abbrev pub is_taken : Played → List ℕ → Bool
is_taken s line = one_line line && is_met_in s (line_of line)

-- the line and its line feed, where it is wanted
abbrev pub line_if : Bool → List ℕ → List ℕ
line_if true line = line ++ 10 ∷ []
line_if false line = []

-- where it is taken
abbrev pub if_taken : Played → List ℕ → List ℕ
if_taken s line = line_if (is_taken s line) line

-- behind a schedule of the record stands the line that expects the goal, where that is taken there
abbrev pub IsExpecting : Goal → Rehearsal → List ℕ → Type 0
IsExpecting goal w text =
    (before : List ℕ) × (schedule before ≡ Ok w) × (text ≡ before ++ if_taken (uncut w) (goal_line goal))

-- the same of a record whose steps are allowed; of the whole text, too, the judge makes that record
pub record IsExpectingOf (goal : Goal) (w : Rehearsal) (text : List ℕ) : Type 0 where
  pub whole : IsScheduleOf w text
  pub parts : IsExpecting goal w text
