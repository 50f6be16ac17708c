-- Runs as texts.
use Rattle.std.specs.Prelude.{◌≡◌, ℕ, List, [], ◌∷◌, ◌++◌}
use Rattle.ct_model.specs.Rehearsal.{Rehearsal}
use Rattle.ct_records.specs.Text.{record_text}
use Rattle.ct_listing.specs.Listing.{IsScheduleOf}
use Rattle.ct_logs.specs.declared.form.Form.{Form}
use Rattle.ct_logs.specs.declared.form.Form.TheVariants.{Schedule, Record}

-- the text is the run in this form: a schedule, of which the judge makes the same record, or the record and a line feed
abbrev pub IsTextOf : Form → Rehearsal → List ℕ → Type 0
IsTextOf Schedule w text = IsScheduleOf w text
IsTextOf Record w text = text ≡ record_text w ++ 10 ∷ []
