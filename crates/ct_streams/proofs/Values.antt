-- What is read of the options that `clap` found.
use Rattle.std.proofs.Common.{◌≡◌, ◌∙◌, ℕ, Option, ap}
use Rattle.clap.specs.Words.{Text, first_value, rows_of}
use Rattle.clap.specs.declared.parser.matches.Found.{Found}
use Rattle.clap.proofs.WalkLemmas.{first_value-rows}
use Rattle.ct_streams.specs.Values.{given_number, option_in}

pub found_value : (f : Found) (name : Text) (low high : ℕ) (text : Option Text) → text ≡ first_value f name →
    given_number name low high text ≡ option_in (rows_of f) name low high
found_value f name low high text h = ap (given_number name low high) (h ∙ first_value-rows f name)
