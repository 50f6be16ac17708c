-- The faults of walks.
use Rattle.std.specs.Prelude.{◌≡◌, ◌⊎◌, ℕ, List, codes}
use Rattle.ct_streams.specs.declared.status.Status.TheVariants as status
use Rattle.ct_streams.specs.Statuses.{code}
use Rattle.ct_walk.specs.declared.fault.WalkFault.{WalkFault}
use Rattle.ct_walk.specs.declared.fault.WalkFault.TheVariants.{Memory, Board, Write, NotFound}
use Rattle.ct_walk.specs.Missing.{missed_text}

abbrev pub status_of : WalkFault → ℕ
status_of (NotFound missed) = code status.Refused
status_of Write = code status.Stream
status_of Memory = code status.Memory
status_of Board = code status.Memory

-- the line for standard error
abbrev pub fault_text : WalkFault → List ℕ
fault_text Memory = codes "out of memory"
fault_text Board = codes "board refused"
fault_text Write = codes "write failed"
fault_text (NotFound missed) = missed_text missed

-- a walk can't be made for want of memory, or by the board
abbrev pub IsShort : WalkFault → Type 0
IsShort fault = (fault ≡ Memory) ⊎ (fault ≡ Board)
