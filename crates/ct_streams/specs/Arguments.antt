-- The arguments of command lines. `clap` gives what its commands make of words.
use Rattle.std.specs.Prelude.{◌&&◌, ℕ, true, List, [], ◌∷◌, codes, Option, Some, None, option_and_then, nat_le, if◌then◌else◌}
use Rattle.std.specs.Str.Parse.{digits_value, without_leading_plus}
use Rattle.clap.specs.Words.{Rule, Text, new_rule}
use Rattle.clap.specs.ValueTests.{is_numeral}
use Rattle.clap.specs.declared.builder.action.ArgAction.TheVariants.{Append, Set, SetTrue}
use Rattle.clap.specs.Lexer.{usize_max}

-- ---- what clap reads

-- the argument `file`, which is `-` where none is given
abbrev pub file_rule : Rule
file_rule = record (new_rule (codes "file")) { action = Some Set; value_names = 1; defaults = codes "-" ∷ [] }

-- the argument `files`: one file or several
abbrev pub files_rule : Rule
files_rule = record (new_rule (codes "files")) {
  value_names = 1;
  action = Some Append;
  required = true;
  range = Some (record { start_inclusive = 1; end_inclusive = usize_max });
}

-- an option with no value
abbrev pub flag_rule : Text → Rule
flag_rule name = record (new_rule name) { long = Some name; action = Some SetTrue }

-- an option with one value, which need not be given
abbrev pub value_rule : Text → Rule
value_rule name = record (new_rule name) { long = Some name; action = Some Set }

-- an option that has to be given, with one value
abbrev pub required_rule : Text → Rule
required_rule name = record (value_rule name) { required = true }

-- an option with one value, which is `default` where none is given
abbrev pub option_rule : Text → Text → Rule
option_rule name default = record (value_rule name) { defaults = default ∷ [] }

-- ---- the texts that it found

infixl 10 ◌>>=◌
abbrev pub ◌>>=◌ : {A B : Type 0} → Option A → (A → Option B) → Option B
o >>= f = option_and_then f o

-- the number that std's `parse` reads: decimal digits, where a plus may stand first
abbrev pub number_of : Text → Option ℕ
number_of text =
    let ds = without_leading_plus text in
    if is_numeral ds then Some (digits_value 10 ds) else None

-- the text's whole number, where it has one from low to high
unfoldable pub whole_in : ℕ → ℕ → Text → Option ℕ
whole_in low high text = do
  n ← number_of text
  if nat_le low n && nat_le n high then Some n else None
