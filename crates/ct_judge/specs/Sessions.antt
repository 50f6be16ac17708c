-- Whole sessions.
use Rattle.std.specs.Prelude.{◌≡◌, ℕ, Bool, false, ◌||◌, ◌==◌, nat_lt, List, [], ◌∷◌, ◌++◌, length, Option, Some, None, Result, Err, ⊤}
use Rattle.std.specs.Prelude.{if◌then◌else◌}
use Rattle.std.specs.Io.KnownBytes.{Appends}
use Rattle.ct_streams.specs.Streams.{WritesPart}
use Rattle.ct_grammar.specs.declared.line.Line.{Line}
use Rattle.ct_judge.specs.Answers.{answer, is_refused, standing_after}
use Rattle.ct_judging.specs.Reading.{line_in}
use Rattle.ct_judging.specs.Standing.{Standing, start}
use Rattle.ct_judge.specs.declared.heard.Heard.{Heard}
use Rattle.ct_judging.specs.declared.misread.Misread.{Misread}
use Rattle.ct_judging.specs.declared.misread.Misread.TheVariants.{TooLong}
use Rattle.ct_judge.specs.declared.session.TheConstants.{LONGEST}

-- where a session stands, the bytes of its line that is not over yet: one more than a line may have at most, and whether a line
-- was refused
pub record Hearing : Type 0 where
  pub standing : Standing
  pub line : List ℕ
  pub refused : Bool

abbrev pub opening : Hearing
opening = record { standing = start; line = []; refused = false }

-- the line with one byte more
unfoldable pub kept : List ℕ → ℕ → List ℕ
kept line byte = if nat_lt LONGEST (length line) then line else line ++ byte ∷ []

-- the line that these bytes are; one that is too long is none
unfoldable pub line_if : List ℕ → Result Line Misread
line_if line = if nat_lt LONGEST (length line) then Err TooLong else line_in line

-- the answer to the line
unfoldable pub answer_at : Hearing → List ℕ
answer_at t = answer t.standing (line_if t.line)

-- the line is over
unfoldable pub line_over : Hearing → Hearing
line_over t = record {
  standing = standing_after t.standing (line_if t.line);
  line = [];
  refused = t.refused || is_refused t.standing (line_if t.line);
}

-- what a session says in all, and where it ends
pub record Session : Type 0 where
  pub text : List ℕ
  pub hearing : Hearing

-- this is said first
abbrev pub said_first : List ℕ → Session → Session
said_first text s = record { text = text ++ s.text; hearing = s.hearing }

-- the end ends the line, if one has begun
abbrev pub at_end : Hearing → List ℕ → Session
at_end t [] = record { text = []; hearing = t }
at_end t (byte ∷ bytes) = record { text = answer_at t; hearing = line_over t }

-- what is said at a byte: a line feed ends the line, which is answered
abbrev pub said_at : Hearing → ℕ → List ℕ
said_at t byte = if byte == 10 then answer_at t else []

-- after a byte: another one joins the line
abbrev pub after_byte : Hearing → ℕ → Hearing
after_byte t byte = if byte == 10 then line_over t else record t { line = kept t.line byte }

-- the session in which these bytes are heard
abbrev pub session : Hearing → List ℕ → Session
session t [] = at_end t t.line
session t (byte ∷ bytes) = said_first (said_at t byte) (session (after_byte t byte) bytes)

-- ---- bytes that come together

-- where a session stands after these bytes
abbrev pub after_bytes : Hearing → List ℕ → Hearing
after_bytes t [] = t
after_bytes t (byte ∷ bytes) = after_bytes (after_byte t byte) bytes

-- what is said at these bytes
abbrev pub said_by : Hearing → List ℕ → List ℕ
said_by t [] = []
said_by t (byte ∷ bytes) = said_at t byte ++ said_by (after_byte t byte) bytes

-- ---- the session of an input

-- what is left of a session that is over
abbrev pub heard_in : Hearing → Heard
heard_in t = record { judge = t.standing; refused = t.refused }

-- the input makes this session, and what is written is what it says
abbrev pub IsEnd : Option (List ℕ) → Heard → Type 0
IsEnd None heard = ⊤
IsEnd (Some input) heard = heard ≡ heard_in (session opening input).hearing

abbrev pub Says : Option (List ℕ) → Option (List ℕ) → Option (List ℕ) → Type 0
Says None old new = ⊤
Says (Some input) old new = Appends old new (session opening input).text

-- what is written are some first bytes of what it says
abbrev pub SaysPart : Option (List ℕ) → Option (List ℕ) → Option (List ℕ) → Type 0
SaysPart None old new = ⊤
SaysPart (Some input) old new = WritesPart old new (session opening input).text
