-- The lines of schedules that play something.
use Rattle.std.specs.Prelude.{ℕ, Bool, true, false, List, [], ◌∷◌, Result, Ok, Err, if◌then◌else◌}
use Rattle.ct_grammar.specs.declared.line.Line.{Line}
use Rattle.ct_grammar.specs.declared.line.Line.TheVariants.{Blank, Given, Play as Plays}
use Rattle.ct_grammar.specs.declared.play.Play.{Play}
use Rattle.ct_grammar.specs.declared.play.Play.TheVariants.{Expect, Ask}
use Rattle.ct_judging.specs.Reading.{line_in}

-- it is an expectation or a question
abbrev pub asks : Play → Bool
asks (Expect goal) = true
asks (Ask question) = true
asks play = false

-- it is blank or a comment, an expectation or a question
abbrev pub plays_nothing : Line → Bool
plays_nothing Blank = true
plays_nothing (Given given) = false
plays_nothing (Plays play) = asks play

abbrev pub is_silent : {E : Type 0} → Result Line E → Bool
is_silent (Ok line) = plays_nothing line
is_silent (Err misread) = false

-- the other lines
abbrev pub spoken : List (List ℕ) → List (List ℕ)
spoken [] = []
spoken (line ∷ lines) = if is_silent (line_in line) then spoken lines else line ∷ spoken lines
