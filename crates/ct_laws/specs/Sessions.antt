-- The lines of sessions, and those that are taken.
use Rattle.std.specs.Prelude.{ℕ, Bool, false, ◌||◌, List, [], ◌∷◌, ◌++◌, if◌then◌else◌}
use Rattle.ct_grammar.specs.Texts.{lines_of}
use Rattle.ct_judge.specs.Answers.{answer, is_refused, standing_after}
use Rattle.ct_judge.specs.Sessions.{line_if}
use Rattle.ct_judging.specs.Standing.{Standing}

-- the last line of an input: none where nothing is behind the last line feed
abbrev pub last_line : List ℕ → List (List ℕ)
last_line [] = []
last_line (byte ∷ bytes) = (byte ∷ bytes) ∷ []

abbrev pub but_nothing : List (List ℕ) → List (List ℕ)
but_nothing [] = []
but_nothing (line ∷ []) = last_line line
but_nothing (line ∷ (next ∷ lines)) = line ∷ but_nothing (next ∷ lines)

-- the lines of an input: what its line feeds end, and what is behind the last of them
unfoldable pub lines_heard : List ℕ → List (List ℕ)
lines_heard input = but_nothing (lines_of input)

-- the answers to these lines, one to each
abbrev pub answers : Standing → List (List ℕ) → List (List ℕ)
answers s [] = []
answers s (line ∷ lines) = answer s (line_if line) ∷ answers (standing_after s (line_if line)) lines

-- one of them is refused
abbrev pub is_any_refused : Standing → List (List ℕ) → Bool
is_any_refused s [] = false
is_any_refused s (line ∷ lines) = is_refused s (line_if line) || is_any_refused (standing_after s (line_if line)) lines

-- those that are not refused
abbrev pub accepted : Standing → List (List ℕ) → List (List ℕ)
accepted s [] = []
accepted s (line ∷ lines) =
    let later = accepted (standing_after s (line_if line)) lines in
    if is_refused s (line_if line) then later else line ∷ later

-- a text of these lines
abbrev pub text_of : List (List ℕ) → List ℕ
text_of [] = []
text_of (line ∷ lines) = line ++ 10 ∷ text_of lines
