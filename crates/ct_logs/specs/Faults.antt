-- The statuses of faults, and of runs that were written.
use Rattle.std.specs.Prelude.{ℕ, if◌then◌else◌}
use Rattle.ct_streams.specs.declared.status.Status.TheVariants as status
use Rattle.ct_streams.specs.Statuses.{code}
use Rattle.ct_logs.specs.declared.merge_fault.MergeFault.{MergeFault}
use Rattle.ct_logs.specs.declared.told.Told.{Told}
use Rattle.ct_logs.specs.declared.merge_fault.MergeFault.TheVariants.{Refused, Incomplete, Limit, NoLogs, Twice, File, Changed, Write}
use Rattle.ct_logs.specs.declared.merge_fault.MergeFault.TheVariants.{Memory, Board}

-- logs that are incomplete have a status of their own, and so has a limit
abbrev pub status_of : MergeFault → ℕ
status_of (Refused text) = code status.Refused
status_of (Incomplete text) = 6
status_of (Limit text) = 8
status_of (NoLogs text) = code status.NoRecord
status_of Twice = code status.Words
status_of (File fault text) = code status.Stream
status_of (Changed text) = code status.Stream
status_of Write = code status.Stream
status_of Memory = code status.Memory
status_of Board = code status.Memory

-- a run in which steps are presumed has one too
abbrev pub told_status : Told → ℕ
told_status told = if told.is_presumed then 7 else 0
