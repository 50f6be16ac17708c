-- The faults of completing runs.
use Rattle.std.specs.Prelude.{ℕ, List, ◌++◌, codes, string_bytes}
use Rattle.ct_streams.specs.declared.status.Status.TheVariants as status
use Rattle.ct_streams.specs.Statuses.{code}
use Rattle.ct_records.specs.declared.program_fault.ProgramFault.TheVariants.{Memory}
use Rattle.ct_told.specs.Faults as show
use Rattle.ct_told.specs.declared.show_fault.ShowFault.TheVariants.{Program}
use Rattle.ct_play.specs.declared.line_fault.LineFault.{LineFault}
use Rattle.ct_play.specs.declared.line_fault.LineFault.TheVariants as line
use Rattle.ct_complete.specs.declared.complete_fault.CompleteFault.{CompleteFault}
use Rattle.ct_complete.specs.declared.complete_fault.CompleteFault.TheVariants.{Hindered, Board, Show}

abbrev pub status_of : CompleteFault → ℕ
status_of (Hindered obstacle) = code status.Refused
status_of Board = code status.Memory
status_of (Show fault) = show.status_of fault

-- the line for standard error
abbrev pub fault_text : CompleteFault → List ℕ
fault_text (Hindered obstacle) = codes "not settled: " ++ string_bytes obstacle.text
fault_text Board = codes "board refused"
fault_text (Show fault) = show.fault_text fault

-- want of memory, or of the board
abbrev pub of_line_fault : LineFault → CompleteFault
of_line_fault line.Board = Board
of_line_fault _ = Show (Program Memory)
