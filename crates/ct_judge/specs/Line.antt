-- The words that `interact` and `record` take. `clap` gives what its commands make of words.
use Rattle.std.specs.Prelude.{[], ◌∷◌, codes, fold}
use Rattle.clap.specs.Words.{App, new_app, with_rule}
use Rattle.ct_streams.specs.Arguments.{file_rule, flag_rule, value_rule}

-- `interact` may have the name of a file to write, and end with another status where a line was refused
abbrev pub interact_app : App
interact_app = fold with_rule (new_app (codes "interact"))
    (record (value_rule (codes "record")) { value_names = 1 } ∷ flag_rule (codes "strict") ∷ [])

-- `record` has the name of a file to read, and may write the record of the lines before one that is refused
abbrev pub record_app : App
record_app = fold with_rule (new_app (codes "record")) (file_rule ∷ flag_rule (codes "partial") ∷ [])
