-- The lines that bytes are, and how they are shown.
use Rattle.std.specs.Prelude.{ℕ, ◌-◌, ◌==◌, Bool, false, List, [], ◌∷◌, ◌++◌, length, take, drop, nat_le, codes}
use Rattle.std.specs.Prelude.{Option, Some, None, Result, Ok, Err, if◌then◌else◌}
use Rattle.std.specs.Char.{is_ascii_whitespace}
use Rattle.std.specs.List.{prefix_len, suffix_len}
use Rattle.ct_grammar.specs.declared.line.Line.{Line}
use Rattle.ct_grammar.specs.declared.misfit.Misfit.{Misfit}
use Rattle.ct_grammar.specs.Lines.{line_of}
use Rattle.ct_grammar.specs.Misfits.{misfit_text}
use Rattle.ct_grammar.specs.Texts.{text_in}
use Rattle.ct_judging.specs.Printing.{printed}
use Rattle.ct_judging.specs.Wording.{behind}
use Rattle.ct_judging.specs.declared.misread.Misread.{Misread}
use Rattle.ct_judging.specs.declared.misread.Misread.TheVariants.{NoText, Record, TooLong, NoLine}
use Rattle.ct_judging.specs.declared.bounds.TheConstants.{LONGEST_SHOWN}

-- ---- the line that bytes are

-- what is told of bytes that are no line
abbrev pub misread_text : Misread → List ℕ
misread_text NoText = codes "no UTF-8"
misread_text Record = codes "not understood: this is a record, which ct_tool check judges"
misread_text TooLong = codes "not understood: more than 4096 bytes"
misread_text (NoLine misfit) = behind (codes "not understood: ") (misfit_text misfit)

abbrev pub line_or : Result Line Misfit → Result Line Misread
line_or (Ok line) = Ok line
line_or (Err misfit) = Err (NoLine misfit)

-- the text begins as records do, with a brace, and no line
abbrev pub begins_record : List ℕ → Bool
begins_record [] = false
begins_record (c ∷ cs) = c == 123

abbrev pub line_in_text : Option (List ℕ) → Result Line Misread
line_in_text None = Err NoText
line_in_text (Some text) = if begins_record text then Err Record else line_or (line_of text)

-- the line that these bytes are
unfoldable pub line_in : List ℕ → Result Line Misread
line_in bytes = line_in_text (text_in bytes)

-- ---- how it is shown before its fault

abbrev pub trimmed_start : List ℕ → List ℕ
trimmed_start line = drop (prefix_len is_ascii_whitespace line) line

abbrev pub trimmed_end : List ℕ → List ℕ
trimmed_end line = take (length line - suffix_len is_ascii_whitespace line) line

-- a line as it stands, without blanks at its ends
unfoldable pub trimmed : List ℕ → List ℕ
trimmed line = trimmed_end (trimmed_start line)

-- a text that is too long is not shown, nor are control bytes
abbrev pub shown_text : Option (List ℕ) → List ℕ
shown_text None = []
shown_text (Some text) = if nat_le (length text) LONGEST_SHOWN then printed text ++ codes ": " else []

-- the line, if it is text
unfoldable pub shown : List ℕ → List ℕ
shown line = shown_text (text_in (trimmed line))
