-- The words that `complete` takes. `clap` gives what its commands make of words.
use Rattle.std.specs.Prelude.{[], ◌∷◌, codes, fold}
use Rattle.clap.specs.Words.{App, new_app, with_rule}
use Rattle.ct_streams.specs.Arguments.{file_rule, flag_rule}

-- whether what stands in the way is written as JSON, and the name of a file to read
abbrev pub complete_app : App
complete_app = fold with_rule (new_app (codes "complete")) (flag_rule (codes "json") ∷ file_rule ∷ [])
