-- The words that `schedule` takes. `clap` gives what its commands make of words.
use Rattle.std.specs.Prelude.{[], ◌∷◌, codes, fold}
use Rattle.clap.specs.Words.{App, new_app, with_rule}
use Rattle.ct_streams.specs.Arguments.{file_rule}

-- the name of a file to read
abbrev pub schedule_app : App
schedule_app = fold with_rule (new_app (codes "schedule")) (file_rule ∷ [])
