-- What is answered to whole schedules.
use Rattle.std.specs.Prelude.{◌≡◌, ℕ, List, [], ◌∷◌, ◌++◌, string_bytes, IsOk, IsOkAnd, ⊤, Option, Some, Result}
use Rattle.std.specs.Prelude.{Ok, Err}
use Rattle.std.specs.Io.KnownBytes.{Appends}
use Rattle.ct_model.specs.Rehearsal.{Rehearsal, state_of}
use Rattle.ct_model.specs.Run.{run}
use Rattle.ct_model.specs.Safe.{IsSafe}
use Rattle.ct_streams.specs.Streams.{WritesPart}
use Rattle.ct_records.specs.Text.{record_text}
use Rattle.ct_grammar.specs.Texts.{lines_of}
use Rattle.ct_judging.specs.Schedule.{Progress, Stopped, after_line, beginning}
use Rattle.ct_judging.specs.Standing.{world_of}
use Rattle.ct_play.specs.declared.line_fault.LineFault.{LineFault}
use Rattle.ct_judge.specs.declared.record_fault.RecordFault.{RecordFault}
use Rattle.ct_judge.specs.declared.record_fault.RecordFault.TheVariants.{Line, TooLong, Read, Write, Memory, Board}

-- ---- what is taken before a line that is refused

-- goes on from a result; after a fault it stays here
abbrev pub or_stay : {A E : Type 0} → A → Result A E → (A → A) → A
or_stay here (Ok x) more = more x
or_stay here (Err fault) more = here

-- after the lines before the first that is refused
abbrev pub before_fault : Progress → List (List ℕ) → Progress
before_fault t [] = t
before_fault t (line ∷ lines) = or_stay t (after_line t line) (λ u. before_fault u lines)

-- the world that they lead to
unfoldable pub part_of : List ℕ → Result Rehearsal LineFault
part_of text = world_of (before_fault beginning (lines_of text)).standing

-- its record and a line feed; nothing where the number of members was not given
abbrev pub part_text : Result Rehearsal LineFault → List ℕ
part_text (Ok w) = record_text w ++ 10 ∷ []
part_text (Err fault) = []

-- ---- what `record` answers

-- the record is a run that ends in a safe state
pub record IsSafeRun (w : Rehearsal) : Type 0 where
  pub runs : run w.setting w.steps ≡ Some (state_of w)
  pub safe : IsSafe w.setting (state_of w)

-- the fault is the schedule's; of memory and of the board nothing is said
abbrev pub IsFaultIn : {A : Type 0} → Result A Stopped → RecordFault → Type 0
IsFaultIn r (Line at fault text) = r ≡ Err (record { at = at; fault = fault; text = string_bytes text })
IsFaultIn r TooLong = ⊤
IsFaultIn r Read = ⊥
IsFaultIn r Write = ⊥
IsFaultIn r Memory = ⊤
IsFaultIn r Board = ⊤

-- the same, where a stream may have failed
abbrev pub IsFaultOrStream : Result Rehearsal Stopped → RecordFault → Type 0
IsFaultOrStream r Read = ⊤
IsFaultOrStream r Write = ⊤
IsFaultOrStream r (Line at fault text) = IsFaultIn r (Line at fault text)
IsFaultOrStream r TooLong = ⊤
IsFaultOrStream r Memory = ⊤
IsFaultOrStream r Board = ⊤

-- the schedule's record and a line feed
abbrev pub IsRecordOf : Result Rehearsal Stopped → List ℕ → Type 0
IsRecordOf r text = IsOkAnd r (λ w. text ≡ record_text w ++ 10 ∷ [])

-- that is what was written
abbrev pub Writes : Result Rehearsal Stopped → Option (List ℕ) → Option (List ℕ) → Type 0
Writes r old new = IsOkAnd r (λ w. Appends old new (record_text w ++ 10 ∷ []))

-- some first bytes of it are what was written
abbrev pub WritesPartOf : Result Rehearsal Stopped → Option (List ℕ) → Option (List ℕ) → Type 0
WritesPartOf r old new = IsOkAnd r (λ w. WritesPart old new (record_text w ++ 10 ∷ []))

-- the fault is that of a line
abbrev pub IsOfLine : RecordFault → Type 0
IsOfLine (Line at fault text) = ⊤
IsOfLine TooLong = ⊥
IsOfLine Read = ⊥
IsOfLine Write = ⊥
IsOfLine Memory = ⊥
IsOfLine Board = ⊥

-- after a fault of a line it stands here
abbrev pub IsLeftAt : Progress → Progress → RecordFault → Type 0
IsLeftAt here t (Line at fault text) = t ≡ here
IsLeftAt here t TooLong = ⊤
IsLeftAt here t Read = ⊤
IsLeftAt here t Write = ⊤
IsLeftAt here t Memory = ⊤
IsLeftAt here t Board = ⊤

-- how a schedule ends: it has no fault, or this one
abbrev pub IsEndIn : {A : Type 0} → Result A Stopped → Result (Unit {0}) RecordFault → Type 0
IsEndIn r (Ok u) = IsOk r
IsEndIn r (Err fault) = IsFaultIn r fault

-- the end is that of the text, or of a line that is refused
abbrev pub IsToldEnd : Result (Unit {0}) RecordFault → Type 0
IsToldEnd (Ok u) = ⊤
IsToldEnd (Err fault) = IsOfLine fault
