-- What a command line may ask of the smallest run. `clap` gives what its commands make of words.
use Rattle.std.specs.Prelude.{List, Option, Some, None, Result, Ok, codes}
use Rattle.clap.specs.Words.{Row, Text, first_of}
use Rattle.ct_streams.specs.Values.{◌>>=◌, number_for}
use Rattle.ct_shrink.specs.Line.{options_of}
use Rattle.ct_best.specs.declared.best.BestOptions.{BestOptions}

-- the number of walks that are made smaller, where that is given, and how; else the line of the first option that asks for nothing
abbrev pub best_or_none : List Row → Option Text → Result (Option BestOptions) Text
best_or_none rows None = Ok None
best_or_none rows (Some text) = do
  count ← number_for (codes "best") 1 4294967295 text
  shrink ← options_of rows
  Ok (Some (record { count = count; shrink = shrink }))

-- how the options ask for the smallest run, where they do
abbrev pub best_options : List Row → Result (Option BestOptions) Text
best_options rows = best_or_none rows (first_of (codes "best") rows)
