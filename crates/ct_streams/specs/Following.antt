-- The options of commands that follow files. `clap` gives what its commands make of words.
use Rattle.std.specs.Prelude.{ℕ, false, List, codes, Option, Some, None, Result, Ok}
use Rattle.clap.specs.Words.{Row, Rule, Text, first_of}
use Rattle.ct_streams.specs.Arguments.{value_rule}
use Rattle.ct_streams.specs.Values.{◌>>=◌, number_for}
use Rattle.ct_streams.specs.declared.following.TheConstants.{MAX_IDLE}

-- an option with a value
abbrev pub seconds_rule : Rule
seconds_rule = record (value_rule (codes "idle")) { value_names = 1 }

-- the same, which asks for another one beside it
abbrev pub idle_rule : Rule
idle_rule = record seconds_rule { is_free = false }

abbrev pub idle_or_none : Option Text → Result (Option ℕ) Text
idle_or_none None = Ok None
idle_or_none (Some text) = do
  idle ← number_for (codes "idle") 1 MAX_IDLE text
  Ok (Some idle)

-- the seconds that are given for `idle`, if they are; else the line of the fault
abbrev pub idle_in : List Row → Result (Option ℕ) Text
idle_in rows = idle_or_none (first_of (codes "idle") rows)
