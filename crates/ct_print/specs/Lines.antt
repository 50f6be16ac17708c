-- Lines, as text.
use Rattle.std.specs.Prelude.{ℕ, ◌==◌, List, [], ◌∷◌, ◌++◌, length, codes, decimal, if◌then◌else◌}
use Rattle.ct_grammar.specs.declared.given.Given.{Given}
use Rattle.ct_grammar.specs.declared.given.Given.TheVariants.{Members, Cells, Batch}
use Rattle.ct_grammar.specs.declared.line.Line.{Line}
use Rattle.ct_grammar.specs.declared.line.Line.TheVariants.{Blank, Given as Gives, Play as Plays}
use Rattle.ct_grammar.specs.declared.play.Play.{Play}
use Rattle.ct_grammar.specs.declared.play.Play.TheVariants.{Act as Acts, Stated, Turns, Settle, Until, Cut, Heal, Expect, Ask}
use Rattle.ct_grammar.specs.declared.question.Question.{Question}
use Rattle.ct_grammar.specs.declared.question.Question.TheVariants.{Enabled, Next, State, Waiting, Report, Record, Limits}
use Rattle.ct_grammar.specs.Words.{text_of}
use Rattle.ct_print.specs.Acts.{act_text}
use Rattle.ct_print.specs.Cuts.{sides_text}
use Rattle.ct_print.specs.Goals.{goal_text}
use Rattle.ct_print.specs.Members.{set_text, who_text}
use Rattle.ct_print.specs.Statements.{statement_text}

-- a number of the group
unfoldable pub given_text : Given → List ℕ
given_text (Members n) = text_of (codes "members" ∷ decimal n ∷ [])
given_text (Cells n) = text_of (codes "cells" ∷ decimal n ∷ [])
given_text (Batch n) = text_of (codes "batch" ∷ decimal n ∷ [])

-- a question
unfoldable pub question_text : Question → List ℕ
question_text (Enabled p) = text_of (codes "enabled" ∷ decimal p ∷ [])
question_text (Next p) = text_of (codes "next" ∷ decimal p ∷ [])
question_text (State p) = text_of (codes "state" ∷ decimal p ∷ [])
question_text (Waiting p) = text_of (codes "waiting" ∷ decimal p ∷ [])
question_text Report = codes "report"
question_text Record = codes "record"
question_text Limits = codes "limits"

-- whom the failure detectors suspect; nothing where that is nobody
unfoldable pub suspecting_text : List ℕ → List ℕ
suspecting_text set = if length set == 0 then [] else codes " suspecting " ++ set_text set

-- what is played
unfoldable pub play_text : Play → List ℕ
play_text (Acts who act) = text_of (who_text who ∷ act_text act ∷ [])
play_text (Stated who act said) = text_of (who_text who ∷ act_text act ∷ statement_text said ∷ [])
play_text (Turns who n set) = text_of (who_text who ∷ codes "turns" ∷ decimal n ∷ []) ++ suspecting_text set
play_text (Settle who set) = text_of (who_text who ∷ codes "settle" ∷ []) ++ suspecting_text set
play_text (Until who set goal) =
    text_of ((text_of (who_text who ∷ codes "turns" ∷ []) ++ suspecting_text set) ∷ codes "until" ∷ goal_text goal ∷ [])
play_text (Cut sides) = text_of (codes "cut" ∷ sides_text sides ∷ [])
play_text Heal = codes "heal"
play_text (Expect goal) = text_of (codes "expect" ∷ goal_text goal ∷ [])
play_text (Ask question) = question_text question

-- a line
unfoldable pub line_text : Line → List ℕ
line_text Blank = []
line_text (Gives given) = given_text given
line_text (Plays play) = play_text play
