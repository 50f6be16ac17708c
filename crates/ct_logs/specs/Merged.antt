-- What files of logs come to.
use Rattle.std.specs.Prelude.{◌≡◌, ◌⊎◌, ℕ, ◌<◌, Bool, true, false, List, codes, Option, Some, slice_get, ⊤}
use Rattle.std.specs.Global.{Vec}
use Rattle.std.specs.Io.KnownBytes.{Appends}
use Rattle.ct_model.specs.Lawful.{IsLawful}
use Rattle.ct_model.specs.Rehearsal.{Rehearsal}
use Rattle.ct_streams.specs.Streams.{WritesPart}
use Rattle.ct_merge.specs.Logs.{IsMerge}
use Rattle.ct_merge.specs.declared.log_line.LogLine.{LogLine}
use Rattle.ct_logs.specs.Files.{IsTooLong, Known}
use Rattle.ct_logs.specs.Groups.{HaveLogs, HaveNoLogs, Logs}
use Rattle.ct_logs.specs.Judging.{IsFaultOf, IsRunOf}
use Rattle.ct_logs.specs.Writing.{IsTextOf}
use Rattle.ct_logs.specs.declared.form.Form.{Form}
use Rattle.ct_logs.specs.declared.merge_fault.MergeFault.{MergeFault}
use Rattle.ct_logs.specs.declared.merge_fault.MergeFault.TheVariants as faults
use Rattle.ct_logs.specs.declared.way.Way.{Way}
use Rattle.ct_logs.specs.declared.way.Way.TheVariants.{Once, Follow, Presume}

-- ---- runs

-- the record is a merge of some logs
abbrev pub IsSomeMerge : Rehearsal → Type 0
IsSomeMerge w = (lines : List (Vec LogLine)) × IsMerge w lines

-- it is a run
abbrev pub IsSomeRun : Rehearsal → Type 0
IsSomeRun w = IsLawful w × IsSomeMerge w

-- it is a run of the logs that the files of these names have
abbrev pub IsRunIn : Known → List (List ℕ) → Bool → Rehearsal → Type 0
IsRunIn bytes names presumes w = (logs : Logs) × HaveLogs bytes names logs × IsRunOf presumes logs w

-- the same as this way asks for it; of logs that are followed, a run of some
abbrev pub IsRunBy : {P : Type 0} → Known → List (List ℕ) → Way P → Rehearsal → Type 0
IsRunBy bytes names Once w = IsRunIn bytes names false w
IsRunBy bytes names (Follow pace) w = IsSomeRun w
IsRunBy bytes names Presume w = IsRunIn bytes names true w

-- ---- texts

-- the text is such a record's, in this form
abbrev pub IsTextOfOne : (Rehearsal → Type 0) → Form → List ℕ → Type 0
IsTextOfOne is form text = (w : Rehearsal) × is w × IsTextOf form w text

-- the text of such a record, and nothing else, was written
abbrev pub WritesOne : (Rehearsal → Type 0) → Form → Option (List ℕ) → Option (List ℕ) → Type 0
WritesOne is form old new = (text : List ℕ) × IsTextOfOne is form text × Appends old new text

-- some first bytes of it
abbrev pub WritesOneInPart : (Rehearsal → Type 0) → Form → Option (List ℕ) → Option (List ℕ) → Type 0
WritesOneInPart is form old new = (text : List ℕ) × IsTextOfOne is form text × WritesPart old new text

-- ---- faults

-- the fault, before something is written, is that of the files: their logs are none of a group, or one is too long; or it is that of logs
abbrev pub IsFaultIn : Known → List (List ℕ) → Bool → MergeFault → Type 0
IsFaultIn bytes names = IsFaultOf (IsTooLong bytes names ⊎ HaveNoLogs bytes names) (HaveLogs bytes names)

-- standard input is named twice
pub record IsInputTwice (names : List (List ℕ)) : Type 0 where
  pub first : ℕ
  pub second : ℕ
  pub before : first < second
  pub there : slice_get names first ≡ Some (codes "-")
  pub again : slice_get names second ≡ Some (codes "-")

-- or that
abbrev pub IsFaultAt : Known → List (List ℕ) → Bool → MergeFault → Type 0
IsFaultAt bytes names presumes faults.Twice = IsInputTwice names
IsFaultAt bytes names presumes fault = IsFaultIn bytes names presumes fault

-- the same as this way asks for it; of logs that are followed nothing is said
abbrev pub IsFaultBy : {P : Type 0} → Known → List (List ℕ) → Way P → MergeFault → Type 0
IsFaultBy bytes names Once fault = IsFaultAt bytes names false fault
IsFaultBy bytes names (Follow pace) fault = ⊤
IsFaultBy bytes names Presume fault = IsFaultAt bytes names true fault
