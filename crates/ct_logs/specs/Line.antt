-- The words that `merge` takes. `clap` gives what its commands make of words.
use Rattle.std.specs.Prelude.{false, List, [], ◌∷◌, codes, fold, if◌then◌else◌}
use Rattle.clap.specs.Words.{App, Row, Rule, new_app, with_rule}
use Rattle.ct_streams.specs.Arguments.{files_rule, flag_rule}
use Rattle.ct_streams.specs.Following.{idle_rule}
use Rattle.ct_streams.specs.Values.{is_set}
use Rattle.ct_logs.specs.declared.form.Form.{Form}
use Rattle.ct_logs.specs.declared.form.Form.TheVariants.{Schedule, Record}

-- an option with no value that may not stand beside another
abbrev pub presume_rule : Rule
presume_rule = record (flag_rule (codes "presume")) { is_free = false }

-- one log or several, whether the run is written as a record, whether ends are presumed, whether the logs are followed, and for how
-- long without a line
abbrev pub merge_app : App
merge_app =
    fold with_rule (new_app (codes "merge"))
    (files_rule ∷ flag_rule (codes "record") ∷ presume_rule ∷ flag_rule (codes "follow") ∷ idle_rule ∷ [])

-- the form that the options ask for
abbrev pub form_in : List Row → Form
form_in rows = if is_set rows (codes "record") then Record else Schedule
