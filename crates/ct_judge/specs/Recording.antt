-- The statuses of faults.
use Rattle.std.specs.Prelude.{ℕ}
use Rattle.ct_streams.specs.declared.status.Status.TheVariants as status
use Rattle.ct_streams.specs.Statuses.{code}
use Rattle.ct_judge.specs.declared.record_fault.RecordFault.{RecordFault}
use Rattle.ct_judge.specs.declared.record_fault.RecordFault.TheVariants.{Line, TooLong, Read, Write, Memory, Board}

abbrev pub status_of : RecordFault → ℕ
status_of (Line at fault text) = code status.Refused
status_of TooLong = code status.NoRecord
status_of Read = code status.Stream
status_of Write = code status.Stream
status_of Memory = code status.Memory
status_of Board = code status.Memory
