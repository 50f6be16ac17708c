-- The values of options: what is given for each, or the line of the fault. `clap` gives what its commands make of words.
use Rattle.std.specs.Prelude.{◌&&◌, ℕ, Bool, false, List, [], ◌∷◌, codes, Option, Some, None, nat_le, Result, Ok, Err, if◌then◌else◌}
use Rattle.std.specs.Str.{bytes_eq}
use Rattle.clap.specs.Words.{Row, Text, first_of}
use Rattle.ct_streams.specs.Arguments.{whole_in}
use Rattle.ct_streams.specs.WordFaults.{fault_line, number_text, range_text}

-- the first fault of several values is told
infixl 10 ◌>>=◌
abbrev pub ◌>>=◌ : {A B : Type 0} → Result A Text → (A → Result B Text) → Result B Text
(Ok a) >>= f = f a
(Err line) >>= f = Err line

-- a number that is given for the option, where it is of the range, and where it is one at all
abbrev pub number_or_line : Text → ℕ → ℕ → Text → Option ℕ → Result ℕ Text
number_or_line option low high text (Some n) =
    if nat_le low n && nat_le n high then Ok n else Err (fault_line option (text ∷ []) (range_text low high))
number_or_line option low high text None = Err (fault_line option (text ∷ []) (number_text low high))

-- the whole number from low to high that this text gives for the option
unfoldable pub number_for : Text → ℕ → ℕ → Text → Result ℕ Text
number_for option low high text = number_or_line option low high text (whole_in 0 4294967295 text)

abbrev pub given_number : Text → ℕ → ℕ → Option Text → Result ℕ Text
given_number option low high (Some text) = number_for option low high text
given_number option low high None = Err (fault_line option [] (number_text low high))

-- the value of the option, a whole number from low to high
abbrev pub option_in : List Row → Text → ℕ → ℕ → Result ℕ Text
option_in rows name low high = given_number name low high (first_of name rows)

-- the text of an option with no value says that it is given
abbrev pub is_true : Option Text → Bool
is_true None = false
is_true (Some text) = bytes_eq text (codes "true")

-- the option with no value is given
abbrev pub is_set : List Row → Text → Bool
is_set rows name = is_true (first_of name rows)
