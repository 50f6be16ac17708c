-- Whose logs texts are.
use Rattle.std.specs.Prelude.{◌≡◌, ℕ, ◌+◌, Bool, false, ◌==◌, List, [], ◌∷◌, Option, Some, None, Result, Ok, Err}
use Rattle.std.specs.Prelude.{if◌then◌else◌, option_and_then, slice_get, unwrap_or}
use Rattle.ct_merge.specs.Texts.{LogSoFar, Unread, log_in}
use Rattle.ct_merge.specs.declared.entry.NoEntry.{NoEntry}
use Rattle.ct_merge.specs.declared.entry.NoEntry.TheVariants.{Other}

-- a brace stands first: the text is a record
abbrev pub is_record : List ℕ → Bool
is_record [] = false
is_record (c ∷ cs) = c == 123

-- the log of the member whom a line names that stands in the log of another; else this fault
abbrev pub or_other : List ℕ → Unread → NoEntry → Result LogSoFar Unread
or_other text fault (Other q) = log_in q text
or_other text fault why = Err fault

abbrev pub or_named : List ℕ → Result LogSoFar Unread → Result LogSoFar Unread
or_named text (Ok log) = Ok log
or_named text (Err fault) = or_other text fault fault.why

-- what a text says as a log: that of p, by the place of its file, or of the member whom the first line with a number names
unfoldable pub log_for : ℕ → List ℕ → Result LogSoFar Unread
log_for p text = or_named text (log_in p text)

-- whose log it is, and what it says
pub record Said : Type 0 where
  pub member : ℕ
  pub log : LogSoFar

-- it is p's where no line names a member
abbrev pub said_of : ℕ → LogSoFar → Said
said_of p log = record { member = unwrap_or log.member p; log = log }

abbrev pub said_for : ℕ → Result LogSoFar Unread → Option Said
said_for p (Ok log) = Some (said_of p log)
said_for p (Err fault) = None

-- what the text of the file at this place, counted from 0, says. None: it is no log
unfoldable pub said_in : ℕ → List ℕ → Option Said
said_in place text = if is_record text then None else said_for (place + 1) (log_for (place + 1) text)

abbrev pub said_at : List (List ℕ) → ℕ → Option Said
said_at texts place = option_and_then (said_in place) (slice_get texts place)

-- the text at this place says this
abbrev pub IsSaid : List (List ℕ) → ℕ → Said → Type 0
IsSaid texts place said = said_at texts place ≡ Some said
