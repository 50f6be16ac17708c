-- Faults that say nothing of logs, and those that say that texts are none.
use Rattle.std.specs.Prelude.{⊤}
use Rattle.ct_merge.specs.declared.log_fault.LogFault.{LogFault}
use Rattle.ct_merge.specs.declared.log_fault.LogFault.TheVariants.{Line, Memory}
use Rattle.ct_logs.specs.declared.merge_fault.MergeFault.{MergeFault}
use Rattle.ct_logs.specs.declared.merge_fault.MergeFault.TheVariants as faults

-- a file is not read, or memory or the board was refused: nothing is said of logs, and nothing was written
abbrev pub IsSilent : MergeFault → Type 0
IsSilent (faults.File fault text) = ⊤
IsSilent faults.Memory = ⊤
IsSilent faults.Board = ⊤
IsSilent _ = ⊥

-- a fault that says that texts are no logs, for this reason, or is silent
abbrev pub IsNoLogs : Type 0 → MergeFault → Type 0
IsNoLogs reason (faults.NoLogs text) = reason
IsNoLogs reason fault = IsSilent fault

-- the fault that is told of a text that is no log
abbrev pub IsOfLogFault : LogFault → MergeFault → Type 0
IsOfLogFault (Line at why) fault = IsNoLogs ⊤ fault
IsOfLogFault Memory fault = IsSilent fault
