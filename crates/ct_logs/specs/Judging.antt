-- What the logs of a group come to.
use Rattle.std.specs.Prelude.{◌≡◌, ◌⊎◌, ℕ, Bool, true, false, List, Option, Some, None, IfSome, take, ⊤}
use Rattle.std.specs.Global.{Vec}
use Rattle.ct_names.specs.Group.{is_member}
use Rattle.ct_model.specs.Lawful.{IsLawful}
use Rattle.ct_model.specs.Rehearsal.{Rehearsal}
use Rattle.ct_world.specs.Setup.{setting_of}
use Rattle.ct_world.specs.declared.setup.Setup.{Setup}
use Rattle.ct_merge.specs.Expected.{AllHold, Expecting, IsUnmet, expected_of}
use Rattle.ct_merge.specs.Logs.{IsLog, IsMerge, log_of}
use Rattle.ct_merge.specs.Stops.{IsCulprit}
use Rattle.ct_merge.specs.Waits.{AllBegin, HasNoMerge, NeverMerges, is_ended, is_limit}
use Rattle.ct_merge.specs.declared.log_line.LogLine.{LogLine}
use Rattle.ct_merge.specs.declared.stopped_lines.StoppedLines.{StoppedLines}
use Rattle.ct_merge.specs.declared.testing.Unmet.{Unmet}
use Rattle.ct_merge.specs.declared.verdict.Culprit.{Culprit}
use Rattle.ct_merge.specs.declared.verdict.Verdict.{Verdict}
use Rattle.ct_merge.specs.declared.verdict.Verdict.TheVariants.{Accepted, Refused, Incomplete, Limited}
use Rattle.ct_merge.specs.declared.verdict.Why.{Why}
use Rattle.ct_logs.specs.Groups.{Logs}
use Rattle.ct_logs.specs.Sets.{AreLogsOf, LogsSoFar}
use Rattle.ct_logs.specs.Silence.{IsSilent}
use Rattle.ct_logs.specs.Writing.{IsTextOf}
use Rattle.ct_logs.specs.declared.form.Form.{Form}
use Rattle.ct_logs.specs.declared.judged.Judged.{Judged}
use Rattle.ct_logs.specs.declared.merge_fault.MergeFault.{MergeFault}
use Rattle.ct_logs.specs.declared.merge_fault.MergeFault.TheVariants as faults

-- ---- runs

-- the lines of logs whose ends are presumed go on; else they are those that were read
abbrev pub GoOn : Bool → List (Vec LogLine) → List (Vec LogLine) → Type 0
GoOn false lines more = more ≡ lines
GoOn true lines more = AllBegin lines more

-- a record of the group in which each member takes the steps of its log, and goes on behind it where that is presumed
pub record IsMergeOf (presumes : Bool) (logs : Logs) (w : Rehearsal) : Type 0 where
  pub setting : w.setting ≡ setting_of logs.setup
  pub cells : w.cells ≡ logs.setup.cells
  pub lines : List (Vec LogLine)
  pub go_on : GoOn presumes logs.lines lines
  pub merged : IsMerge w lines

-- all that is expected of the members of the record is so in it, each at its place
abbrev pub AreMet : Rehearsal → List Expecting → Type 0
AreMet w expected = (p : ℕ) → is_member w.setting.members p ≡ true → AllHold w p (expected_of expected p)

-- a run of the group, of these logs, in which all is so that they expect
pub record IsRunOf (presumes : Bool) (logs : Logs) (w : Rehearsal) : Type 0 where
  pub lawful : IsLawful w
  pub merged : IsMergeOf presumes logs w
  pub met : AreMet w logs.expected

-- each member takes the steps of first lines of its log
abbrev pub IsOpening : Rehearsal → List (Vec LogLine) → Type 0
IsOpening w lines = (p : ℕ) → is_member w.setting.members p ≡ true → (count : ℕ) × IsLog w p (take count (log_of lines p))

-- the same of the logs of the group
pub record IsOpeningOf (presumes : Bool) (logs : Logs) (w : Rehearsal) : Type 0 where
  pub setting : w.setting ≡ setting_of logs.setup
  pub lines : List (Vec LogLine)
  pub go_on : GoOn presumes logs.lines lines
  pub opens : IsOpening w lines

-- ---- refusals

-- a line is the next one of its log behind a run of first lines, and is not taken there, for such a reason
pub record StandsAt (logs : Logs) (is_such : Why → Bool) : Type 0 where
  pub culprit : Culprit
  pub is : IsCulprit (setting_of logs.setup) logs.setup.cells logs.lines culprit
  pub why : is_such culprit.why ≡ true

-- no run of the group is a merge of logs that begin with these
abbrev pub AreRefused : Logs → Type 0
AreRefused logs = NeverMerges (setting_of logs.setup) logs.lines

-- a line waits for a log that has ended, and no run of the group is a merge of the logs as they are
pub record AreIncomplete (logs : Logs) : Type 0 where
  pub stands : StandsAt logs is_ended
  pub none : HasNoMerge (setting_of logs.setup) logs.lines

-- a limit is in the way of a line
abbrev pub AreLimited : Logs → Type 0
AreLimited logs = StandsAt logs is_limit

-- what a log expects is not so at its place in a run of first lines
pub record AreUnmet (presumes : Bool) (logs : Logs) : Type 0 where
  pub run : Rehearsal
  pub lawful : IsLawful run
  pub opens : IsOpeningOf presumes logs run
  pub unmet : Unmet
  pub is : IsUnmet run logs.expected unmet

-- ---- the verdict

-- the logs that a set has in a group that is made with this
abbrev pub logs_in : Setup → LogsSoFar → Logs
logs_in setup s =
    record { setup = setup; lines = take setup.group s.logs; expected = take setup.group s.expected }

-- what is so of logs that come to this
abbrev pub IsVerdictOf : Bool → Logs → Verdict → Type 0
IsVerdictOf presumes logs (Accepted world) = IsMergeOf presumes logs world.rehearsal
IsVerdictOf presumes logs (Refused culprit) = AreRefused logs
IsVerdictOf presumes logs (Incomplete culprit) = AreIncomplete logs
IsVerdictOf presumes logs (Limited culprit) = AreLimited logs

-- this is what the logs come to, and where they stand
pub record IsJudged (presumes : Bool) (logs : Logs) (judged : Judged) : Type 0 where
  pub verdict : IsVerdictOf presumes logs judged.verdict
  pub lines : IfSome judged.stopped (λ lines. IsOpeningOf presumes logs lines.run.rehearsal)

-- the same of the logs that a set has; this is what they expect
pub record IsJudgedOf (presumes : Bool) (s : LogsSoFar) (listed : List Expecting) (judged : Judged) : Type 0 where
  pub logs : Logs
  pub are : AreLogsOf s logs
  pub comes_to : IsJudged presumes logs judged
  pub expected : logs.expected ≡ take logs.setup.group listed

-- the same of the run that is accepted
abbrev pub IsMetBy : Verdict → List Expecting → Type 0
IsMetBy (Accepted world) expected = AreMet world.rehearsal (take world.rehearsal.setting.members expected)
IsMetBy _ expected = ⊤

-- it is a run, and something that is expected of a member is not so in it
pub record IsUnmetRun (w : Rehearsal) (expected : List Expecting) : Type 0 where
  pub lawful : IsLawful w
  pub unmet : Unmet
  pub is : IsUnmet w (take w.setting.members expected) unmet

-- the same of the run that is accepted, or of the one behind which logs stand
abbrev pub IsUnmetBy : Verdict → Option StoppedLines → List Expecting → Type 0
IsUnmetBy (Accepted world) stopped expected = IsUnmetRun world.rehearsal expected
IsUnmetBy _ None expected = ⊥
IsUnmetBy _ (Some lines) expected = IsUnmetRun lines.run.rehearsal expected

-- the logs are accepted, and this is the text of their run
abbrev pub IsTextOfVerdict : Form → Verdict → List ℕ → Type 0
IsTextOfVerdict form (Accepted world) text = IsLawful world.rehearsal × IsTextOf form world.rehearsal text
IsTextOfVerdict form _ text = ⊥

-- the same, where all that is expected is so in that
abbrev pub EndsWith : Form → Verdict → List Expecting → List ℕ → Type 0
EndsWith form verdict expected text = IsMetBy verdict expected × IsTextOfVerdict form verdict text

-- ---- faults

-- a fault that says that logs come to this, or is silent
abbrev pub IsHaltFault : Verdict → MergeFault → Type 0
IsHaltFault (Refused culprit) (faults.Refused text) = ⊤
IsHaltFault (Incomplete culprit) (faults.Incomplete text) = ⊤
IsHaltFault (Limited culprit) (faults.Limit text) = ⊤
IsHaltFault verdict fault = IsSilent fault

-- a fault that says that something expected is not so, or is silent
abbrev pub IsUnmetFault : Judged → List Expecting → MergeFault → Type 0
IsUnmetFault judged expected (faults.Refused text) = IsUnmetBy judged.verdict judged.stopped expected
IsUnmetFault judged expected fault = IsSilent fault

-- the one or the other
abbrev pub EndsAs : Judged → List Expecting → MergeFault → Type 0
EndsAs judged expected fault = IsHaltFault judged.verdict fault ⊎ IsUnmetFault judged expected fault

-- the fault is that of texts of which the logs are such: they are none, for this reason, or come to that
abbrev pub IsFaultOf : Type 0 → (Logs → Type 0) → Bool → MergeFault → Type 0
IsFaultOf reason such presumes (faults.NoLogs text) = reason
IsFaultOf reason such presumes (faults.Refused text) = (logs : Logs) × such logs × (AreRefused logs ⊎ AreUnmet presumes logs)
IsFaultOf reason such presumes (faults.Incomplete text) = (logs : Logs) × such logs × AreIncomplete logs
IsFaultOf reason such presumes (faults.Limit text) = (logs : Logs) × such logs × AreLimited logs
IsFaultOf reason such presumes fault = IsSilent fault
