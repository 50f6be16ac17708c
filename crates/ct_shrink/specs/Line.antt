-- The words that `shrink` takes. `clap` gives what its commands make of words.
use Rattle.std.specs.Prelude.{List, [], ◌∷◌, codes, fold, Result, Ok, if◌then◌else◌}
use Rattle.clap.specs.Words.{App, Row, Rule, Text, new_app, with_rule}
use Rattle.ct_streams.specs.Arguments.{file_rule, flag_rule, option_rule, required_rule}
use Rattle.ct_streams.specs.Values.{◌>>=◌, is_set, option_in}
use Rattle.ct_shrink.specs.declared.options.Form.{Form}
use Rattle.ct_shrink.specs.declared.options.Form.TheVariants.{Schedule, Record}
use Rattle.ct_shrink.specs.declared.options.ShrinkOptions.{ShrinkOptions}
use Rattle.ct_shrink.specs.declared.words.TheConstants.{MOST_TRIES}

-- ---- what clap reads

abbrev pub goal_rule : Rule
goal_rule = record (required_rule (codes "goal")) { value_names = 1 }

abbrev pub tries_rule : Rule
tries_rule = record (option_rule (codes "tries") (codes "10000")) { value_names = 1 }

-- the goal, how many trials are made, as what the run is written, whether nothing is told of it, and the name of a file to read
abbrev pub shrink_app : App
shrink_app =
    fold with_rule (new_app (codes "shrink"))
    (goal_rule ∷ tries_rule ∷ flag_rule (codes "record") ∷ flag_rule (codes "quiet") ∷ file_rule ∷ [])

-- ---- what the options ask for

-- the form that the options ask for
abbrev pub form_in : List Row → Form
form_in rows = if is_set rows (codes "record") then Record else Schedule

-- the trials and the form; else the line of the fault
unfoldable pub options_of : List Row → Result ShrinkOptions Text
options_of rows = do
  tries ← option_in rows (codes "tries") 1 MOST_TRIES
  Ok (record { tries = tries; form = form_in rows })
