-- Logs as texts.
use Rattle.std.specs.Prelude.{◌≡◌, ℕ, ◌+◌, Bool, false, not, ◌==◌, List, [], ◌∷◌, ◌++◌, Option, Some, None, Result, Ok, Err, ⊤}
use Rattle.std.specs.Prelude.{unwrap_or, if◌then◌else◌}
use Rattle.ct_grammar.specs.Texts.{lines_of, text_in}
use Rattle.ct_grammar.specs.declared.goal.Goal.{Goal}
use Rattle.ct_play.specs.Acting.{go_on}
use Rattle.ct_merge.specs.Entries.{entry_in}
use Rattle.ct_merge.specs.Expected.{Expecting, behind_act, nothing_expected, with_expectation}
use Rattle.ct_merge.specs.Numbers.{no_numbers, with_given}
use Rattle.ct_merge.specs.declared.entry.Entry.{Entry}
use Rattle.ct_merge.specs.declared.entry.Entry.TheVariants.{Blank, Given, Told, Expected}
use Rattle.ct_merge.specs.declared.entry.NoEntry.{NoEntry}
use Rattle.ct_merge.specs.declared.entry.NoEntry.TheVariants as no
use Rattle.ct_merge.specs.declared.log_fault.LogFault.{LogFault}
use Rattle.ct_merge.specs.declared.log_fault.LogFault.TheVariants.{Line, Memory}
use Rattle.ct_merge.specs.declared.log_line.LogLine.{LogLine}
use Rattle.ct_merge.specs.declared.numbers.Numbers.{Numbers}

-- what lines of a log said: whose it is, once that is said; the numbers of the group; what its member did, each with the number
-- of its line in the text; what is expected of it; and how many lines of the text are over
pub record LogSoFar : Type 0 where
  pub member : Option ℕ
  pub numbers : Numbers
  pub lines : List LogLine
  pub places : List ℕ
  pub expected : Expecting
  pub count : ℕ

-- the first line, counted from 1, that does not stand in a log, and why
pub record Unread : Type 0 where
  pub at : ℕ
  pub why : NoEntry

abbrev pub beginning : LogSoFar
beginning =
    record { member = None; numbers = no_numbers; lines = []; places = []; expected = nothing_expected; count = 0 }

-- ---- one line

-- it is another's
abbrev pub is_other : Option ℕ → ℕ → Bool
is_other None p = false
is_other (Some q) p = not (q == p)

-- after what p did, in its log
abbrev pub after_told : LogSoFar → ℕ → LogLine → Result LogSoFar Unread
after_told t p line =
    if is_other t.member p
    then Err (record { at = t.count; why = no.Other p })
    else Ok (record t {
      member = Some p;
      lines = t.lines ++ line ∷ [];
      places = t.places ++ t.count ∷ [];
      expected = behind_act t.expected;
    })

-- after what is expected of p, in its log
abbrev pub after_expected : LogSoFar → ℕ → Goal → Result LogSoFar Unread
after_expected t p goal =
    if is_other t.member p
    then Err (record { at = t.count; why = no.Other p })
    else Ok (record t { member = Some p; expected = with_expectation t.expected t.count goal })

-- after a number of the group
abbrev pub after_given : LogSoFar → NoEntry → Option Numbers → Result LogSoFar Unread
after_given t why None = Err (record { at = t.count; why = why })
after_given t why (Some numbers) = Ok (record t { numbers = numbers })

-- after what the line says that is over
abbrev pub after_entry : LogSoFar → Result Entry NoEntry → Result LogSoFar Unread
after_entry t (Err why) = Err (record { at = t.count; why = why })
after_entry t (Ok Blank) = Ok t
after_entry t (Ok (Given g)) = after_given t (no.Given g) (with_given t.numbers g)
after_entry t (Ok (Told p line)) = after_told t p line
after_entry t (Ok (Expected p goal)) = after_expected t p goal

abbrev pub entry_in_text : ℕ → Option (List ℕ) → Result Entry NoEntry
entry_in_text p None = Err no.NoText
entry_in_text p (Some text) = entry_in p text

-- after a line of these bytes; p's where nothing said before whose log it is
unfoldable pub after_line : ℕ → LogSoFar → List ℕ → Result LogSoFar Unread
after_line p t bytes = after_entry (record t { count = t.count + 1 }) (entry_in_text (unwrap_or t.member p) (text_in bytes))

-- ---- texts

-- after these lines, one by one
abbrev pub after_lines : ℕ → LogSoFar → List (List ℕ) → Result LogSoFar Unread
after_lines p t [] = Ok t
after_lines p t (line ∷ lines) = go_on (after_line p t line) (λ u. after_lines p u lines)

-- x and these, but the last of them
abbrev pub but_last_from : {A : Type 0} → A → List A → List A
but_last_from x [] = []
but_last_from x (y ∷ ys) = x ∷ but_last_from y ys

abbrev pub but_last : {A : Type 0} → List A → List A
but_last [] = []
but_last (x ∷ xs) = but_last_from x xs

-- the lines that a line feed ends; what stands behind the last one is torn
unfoldable pub whole_lines : List ℕ → List (List ℕ)
whole_lines text = but_last (lines_of text)

-- what a text says as a log, p's where its acts don't say whose it is
unfoldable pub log_in : ℕ → List ℕ → Result LogSoFar Unread
log_in p text = after_lines p beginning (whole_lines text)

-- where a text comes to this, its reading may have this fault: its own, or want of memory
abbrev pub IsFaultIn : Result LogSoFar Unread → LogFault → Type 0
IsFaultIn r (Line at why) = r ≡ Err (record { at = at; why = why })
IsFaultIn r Memory = ⊤
