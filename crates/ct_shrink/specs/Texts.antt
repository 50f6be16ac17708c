-- Runs that were made smaller, as texts.
use Rattle.std.specs.Prelude.{◌≡◌, ℕ, List, [], ◌∷◌, ◌++◌}
use Rattle.ct_model.specs.Rehearsal.{Rehearsal}
use Rattle.ct_records.specs.Text.{record_text}
use Rattle.ct_grammar.specs.declared.goal.Goal.{Goal}
use Rattle.ct_listing.specs.Goals.{IsExpectingOf}
use Rattle.ct_shrink.specs.declared.options.Form.{Form}
use Rattle.ct_shrink.specs.declared.options.Form.TheVariants.{Schedule, Record}

-- the text is the run in this form: a schedule of which the judge makes the same record, in the end with the line that expects the goal;
-- or the record and a line feed
abbrev pub IsTextOf : Form → Rehearsal → Goal → List ℕ → Type 0
IsTextOf Schedule w goal text = IsExpectingOf goal w text
IsTextOf Record w goal text = text ≡ record_text w ++ 10 ∷ []
