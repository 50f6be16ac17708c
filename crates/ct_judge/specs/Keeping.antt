-- What is kept of sessions.
use Rattle.std.specs.Prelude.{◌≡◌, ℕ, List, [], ◌∷◌, ◌++◌, Option, Result, Ok, Err, IsOk, IsOkAnd, ⊤}
use Rattle.ct_model.specs.Rehearsal.{Rehearsal}
use Rattle.ct_streams.specs.declared.status.Status.TheVariants as status
use Rattle.ct_streams.specs.Statuses.{code}
use Rattle.ct_streams.specs.NewFiles.{Makes, MakesPart}
use Rattle.ct_records.specs.Text.{record_text}
use Rattle.ct_judge.specs.declared.keep_fault.KeepFault.{KeepFault}
use Rattle.ct_judge.specs.declared.keep_fault.KeepFault.TheVariants.{NoMembers, Write, Memory}
use Rattle.ct_play.specs.declared.line_fault.LineFault.{LineFault}
use Rattle.ct_play.specs.declared.line_fault.LineFault.TheVariants as line

abbrev pub keep_status : KeepFault → ℕ
keep_status NoMembers = code status.Refused
keep_status Write = code status.Stream
keep_status Memory = code status.Memory

-- the text is the record of the session's world and a line feed
abbrev pub IsKeptIn : List ℕ → Result Rehearsal LineFault → Type 0
IsKeptIn text r = IsOkAnd r (λ w. text ≡ record_text w ++ 10 ∷ [])

-- a file of this name is made with it
abbrev pub Keeps : Result Rehearsal LineFault → Option (List (List ℕ × List ℕ)) → Option (List (List ℕ × List ℕ)) → List ℕ → Type 0
Keeps r old new name = IsOkAnd r (λ w. Makes old new name (record_text w ++ 10 ∷ []))

-- no file is made, or one with some first bytes of it
abbrev pub KeepsPart : Result Rehearsal LineFault → Option (List (List ℕ × List ℕ)) → Option (List (List ℕ × List ℕ)) → List ℕ → Type 0
KeepsPart r old new name = IsOkAnd r (λ w. MakesPart old new name (record_text w ++ 10 ∷ []))

-- there is no record where the number of members was not given; a file is written where there is one, and of memory nothing is said
abbrev pub IsKeepFaultOf : Result Rehearsal LineFault → KeepFault → Type 0
IsKeepFaultOf r NoMembers = r ≡ Err line.NoMembers
IsKeepFaultOf r Write = IsOk r
IsKeepFaultOf r Memory = ⊤
