-- The line of a fault of showing a record, and the status that a program ends with.
use Rattle.std.specs.Prelude.{ℕ, List, [], ◌∷◌, ◌++◌, codes, decimal}
use Rattle.std.specs.List.{concat}
use Rattle.ct_names.specs.RefusalText.{refusal_text}
use Rattle.ct_world.specs.declared.replay_fault.ReplayFault.{ReplayFault}
use Rattle.ct_records.specs.declared.program_fault.ProgramFault.{ProgramFault}
use Rattle.ct_records.specs.declared.program_fault.ProgramFault.TheVariants.{Replay, Read, Reader, Write, Memory, Start, Exchanged}
use Rattle.ct_records.specs.declared.read_fault.ReadFault.{ReadFault}
use Rattle.ct_records.specs.declared.read_fault.ReadFault.TheVariants.{TooLong, NotJson, Shape, Version, OutOfMemory}
use Rattle.ct_streams.specs.declared.status.Status.TheVariants as status
use Rattle.ct_streams.specs.Statuses.{code}
use Rattle.ct_records.specs.ProgramFault as program
use Rattle.ct_told.specs.declared.show_fault.ShowFault.{ShowFault}
use Rattle.ct_told.specs.declared.show_fault.ShowFault.TheVariants.{NoMember, TooManySteps, Unread, Program}

abbrev pub status_of : ShowFault → ℕ
status_of (NoMember member members) = code status.Words
status_of (TooManySteps steps) = code status.Words
status_of (Unread told) = code status.NoRecord
status_of (Program fault) = program.status_of fault

-- what a fault of a replay is
abbrev pub IsOfReplayFault : ReplayFault → ShowFault → Type 0
IsOfReplayFault replay (NoMember member members) = ⊥
IsOfReplayFault replay (TooManySteps steps) = ⊥
IsOfReplayFault replay (Unread told) = ⊥
IsOfReplayFault replay (Program fault) = program.IsOfReplayFault replay fault

-- ---- the line

-- of a record, as `ct replay` tells it
abbrev pub read_text : ReadFault → List ℕ
read_text TooLong = codes "record: too long"
read_text NotJson = codes "record: not JSON"
read_text (Shape at) = codes "record: shape at " ++ decimal at
read_text Version = codes "record: version"
read_text OutOfMemory = codes "out of memory"

-- of the program
abbrev pub program_text : ProgramFault → List ℕ
program_text (Replay at refusal) = concat (codes "step " ∷ decimal at ∷ codes ": " ∷ refusal_text refusal ∷ [])
program_text (Read fault) = read_text fault
program_text Reader = codes "read failed"
program_text Write = codes "write failed"
program_text Memory = codes "out of memory"
program_text Start = codes "no thread"
program_text Exchanged = codes "world exchanged"

abbrev pub fault_text : ShowFault → List ℕ
fault_text (NoMember member members) =
    concat (codes "--member " ∷ decimal member ∷ codes ": the record has members 1 to " ∷ decimal members ∷ [])
fault_text (TooManySteps steps) =
    decimal steps ++ codes " steps are too many to draw: name at most 400 of them by --from and --to"
fault_text (Unread told) = told
fault_text (Program fault) = program_text fault
