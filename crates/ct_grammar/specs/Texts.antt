-- Bytes as text, and the lines of texts.
use Rattle.std.specs.Prelude.{ℕ, Bool, ◌==◌, List, Option, Some, None, if◌then◌else◌}
use Rattle.std.specs.List.{slice_split}
use Rattle.std.specs.Str.{is_utf8}

-- the text that these bytes are
unfoldable pub text_in : List ℕ → Option (List ℕ)
text_in bytes = if is_utf8 bytes then Some bytes else None

-- ends a line
abbrev pub is_feed : ℕ → Bool
is_feed byte = byte == 10

-- the lines of a text: what its line feeds part, the last one up to the end
unfoldable pub lines_of : List ℕ → List (List ℕ)
lines_of text = slice_split is_feed text
