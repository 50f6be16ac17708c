-- What is said of an option that is given what it may not have.
use Rattle.std.specs.Prelude.{ℕ, ◌==◌, List, [], ◌∷◌, ◌++◌, codes, decimal, flat_map, if◌then◌else◌}
use Rattle.std.specs.List.{concat}
use Rattle.clap.specs.Words.{Text}
use Rattle.ct_streams.specs.declared.given.Given.{Given}
use Rattle.ct_streams.specs.declared.given.Given.TheVariants.{Nothing, One, Two}
use Rattle.ct_streams.specs.declared.wanted.Wanted.{Wanted}
use Rattle.ct_streams.specs.declared.wanted.Wanted.TheVariants.{Within, Number, Words}

-- the words that are given
abbrev pub words_of : Given → List Text
words_of Nothing = []
words_of (One word) = word.now ∷ []
words_of (Two first second) = first.now ∷ second.now ∷ []

-- a space before each of them
abbrev pub given_text : List Text → Text
given_text [] = []
given_text (word ∷ words) = codes " " ++ (word ++ given_text words)

-- the numbers of a range; a range up to 4294967295 leaves out none that is large
abbrev pub range_text : ℕ → ℕ → Text
range_text low high =
    if high == 4294967295 then decimal low ++ codes " or more" else concat (decimal low ∷ codes " to " ∷ decimal high ∷ [])

-- a whole number of the range
abbrev pub number_text : ℕ → ℕ → Text
number_text low high = concat (codes "a whole number from " ∷ decimal low ∷ codes " to " ∷ decimal high ∷ [])

-- what would be right
abbrev pub wanted_text : Wanted → Text
wanted_text (Within low high) = range_text low high
wanted_text (Number low high) = number_text low high
wanted_text (Words text) = text.now

-- the line: the option, what is given for it, and what would be right
abbrev pub fault_line : Text → List Text → Text → Text
fault_line option given wanted = concat (codes "--" ∷ option ∷ given_text given ∷ codes ": " ∷ wanted ∷ [])
