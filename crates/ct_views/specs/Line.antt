-- What a command line asks to be shown. `clap` gives what its commands make of words.
use Rattle.std.specs.Prelude.{ℕ, List, [], ◌∷◌, fold, codes, Option, Some, None, Result, Ok, if◌then◌else◌}
use Rattle.clap.specs.Words.{App, Row, Text, first_of, new_app, with_rule}
use Rattle.ct_names.specs.declared.limit.TheConstants.{MAX_MEMBERS}
use Rattle.ct_streams.specs.Arguments.{file_rule, files_rule, flag_rule, option_rule, value_rule}
use Rattle.ct_streams.specs.Values.{◌>>=◌, is_set, number_for, option_in}
use Rattle.ct_views.specs.declared.form.Form.{Form}
use Rattle.ct_views.specs.declared.form.Form.TheVariants as form
use Rattle.ct_views.specs.declared.view.View.{View}
use Rattle.ct_views.specs.declared.view.View.TheVariants.{Steps, State}

-- ---- what clap reads

-- the subcommand `check`
abbrev pub check_app : App
check_app = fold with_rule (new_app (codes "check")) (files_rule ∷ flag_rule (codes "expect-reports") ∷ flag_rule (codes "quiet") ∷ [])

-- the subcommand `report`
abbrev pub report_app : App
report_app = with_rule (new_app (codes "report")) file_rule

-- the subcommand `state`
abbrev pub state_app : App
state_app =
    fold with_rule (new_app (codes "state"))
    (file_rule ∷ option_rule (codes "after") (codes "4294967295") ∷ flag_rule (codes "json") ∷ [])

-- the subcommand `steps`
abbrev pub steps_app : App
steps_app =
    fold with_rule (new_app (codes "steps"))
    (file_rule ∷ option_rule (codes "from") (codes "1") ∷ option_rule (codes "to") (codes "4294967295") ∷ value_rule (codes "member")
    ∷ flag_rule (codes "json") ∷ [])

-- ---- what the options ask for, or the line of the first one that is no whole number of its range

-- the member that the text names, where there is one
abbrev pub member_of : Option Text → Result (Option ℕ) Text
member_of None = Ok None
member_of (Some text) = do
  member ← number_for (codes "member") 1 MAX_MEMBERS text
  Ok (Some member)

-- the member that the option names, where it is given
abbrev pub member_in : List Row → Result (Option ℕ) Text
member_in rows = member_of (first_of (codes "member") rows)

-- JSON where the option is given
abbrev pub form_in : List Row → Form
form_in rows = if is_set rows (codes "json") then form.Json else form.Text

-- the steps that the options of `steps` ask for
unfoldable pub steps_of : List Row → Result View Text
steps_of rows = do
  from ← option_in rows (codes "from") 1 4294967295
  to ← option_in rows (codes "to") from 4294967295
  member ← member_in rows
  Ok (Steps (record { from = from; to = to; member = member }) (form_in rows))

-- the state that the options of `state` ask for
unfoldable pub state_of : List Row → Result View Text
state_of rows = do
  count ← option_in rows (codes "after") 0 4294967295
  Ok (State count (form_in rows))
