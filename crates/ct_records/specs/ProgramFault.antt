-- The faults of the program: where they come from, and the status that it ends with.
use Rattle.std.specs.Prelude.{◌≡◌, ◌≢◌, ◌⊎◌, ℕ}
use Rattle.ct_names.specs.declared.refusal.Refusal.TheVariants.{OutOfMemory}
use Rattle.ct_world.specs.declared.replay_fault.ReplayFault.{ReplayFault}
use Rattle.ct_records.specs.declared.read_fault.ReadFault.{ReadFault}
use Rattle.ct_records.specs.declared.read_fault.ReadFault.TheVariants as read
use Rattle.ct_streams.specs.declared.input_fault.InputFault.{InputFault}
use Rattle.ct_streams.specs.declared.input_fault.InputFault.TheVariants as input
use Rattle.ct_streams.specs.declared.status.Status.TheVariants as status
use Rattle.ct_streams.specs.Statuses.{code}
use Rattle.ct_records.specs.declared.program_fault.ProgramFault.{ProgramFault}
use Rattle.ct_records.specs.declared.program_fault.ProgramFault.TheVariants.{Replay, Read, Reader, Write, Memory, Start, Exchanged}

abbrev pub status_of : ProgramFault → ℕ
status_of (Replay at refusal) = code status.Refused
status_of (Read fault) = code status.NoRecord
status_of Reader = code status.Stream
status_of Write = code status.Stream
status_of Memory = code status.Memory
status_of Start = code status.Memory
status_of Exchanged = code status.Memory

-- what a fault of reading the input is for the program
abbrev pub of_input_fault : InputFault → ProgramFault
of_input_fault input.Reader = Reader
of_input_fault input.Memory = Memory

-- what a fault of reading a record is for the program
abbrev pub of_read_fault : ReadFault → ProgramFault
of_read_fault read.TooLong = Read read.TooLong
of_read_fault read.NotJson = Read read.NotJson
of_read_fault (read.Shape at) = Read (read.Shape at)
of_read_fault read.Version = Read read.Version
of_read_fault read.OutOfMemory = Memory

-- what a fault of a replay is for the program: want of memory, or a refused step
abbrev pub IsOfReplayFault : ReplayFault → ProgramFault → Type 0
IsOfReplayFault replay fault =
    ((replay.refusal ≡ OutOfMemory) × (fault ≡ Memory)) ⊎ ((replay.refusal ≢ OutOfMemory) × (fault ≡ Replay replay.at replay.refusal))
