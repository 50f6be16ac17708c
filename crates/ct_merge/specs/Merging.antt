-- How logs are merged: line by line.
use Rattle.std.specs.Prelude.{◌≡◌, ◌≢◌, ℕ, ◌-◌, ◌≤◌, true, List, [], ◌∷◌, ◌++◌, Option, Some, None, IfSome, length}
use Rattle.std.specs.Prelude.{slice_get, slice_index, take}
use Rattle.std.specs.Global.{Vec}
use Rattle.ct_names.specs.Group.{is_member}
use Rattle.ct_model.specs.Lawful.{IsPresent, NamesWaiting}
use Rattle.ct_model.specs.Rehearsal.{Rehearsal}
use Rattle.ct_model.specs.Setting.{Setting}
use Rattle.ct_model.specs.declared.step.Step.{Step}
use Rattle.ct_model.specs.declared.step.Step.TheVariants as step
use Rattle.ct_merge.specs.Logs.{Moment, IsLog, IsTold, log_of, own}
use Rattle.ct_merge.specs.Names.{IsSentAs}
use Rattle.ct_merge.specs.declared.full_name.FullName.{FullName}
use Rattle.ct_merge.specs.declared.log_act.LogAct.{LogAct}
use Rattle.ct_merge.specs.declared.log_act.LogAct.TheVariants as told
use Rattle.ct_merge.specs.declared.log_line.LogLine.{LogLine}

-- the step of p that a log tells so, where it receives the envelope of this serial
abbrev pub step_of : ℕ → ℕ → LogAct → Step
step_of p k (told.Submit c) = step.Submit p c
step_of p k (told.Receive name) = step.Receive p k
step_of p k told.Begin = step.Begin p
step_of p k told.Enter = step.Enter p
step_of p k (told.Choose from) = step.Choose p from
step_of p k told.Adopt = step.Adopt p
step_of p k told.Suspect = step.Suspect p
step_of p k told.Conclude = step.Conclude p
step_of p k told.Deliver = step.Deliver p
step_of p k told.Follow = step.Follow p
step_of p k told.Crash = step.Crash p

-- the name of what the act receives, if it is a receipt
abbrev pub received : LogAct → Option FullName
received (told.Receive name) = Some name
received _ = None

-- the serial is that of the envelope that p's act receives; of another act it is any
abbrev pub IsSerialOf : Rehearsal → ℕ → LogAct → ℕ → Type 0
IsSerialOf w p act k = IfSome (received act) (λ name. IsSentAs w p name k)

-- what p's act receives by this serial waits at p, if p is there and up
abbrev pub IsThereFor : Rehearsal → ℕ → LogAct → ℕ → Type 0
IsThereFor w p act k = IsPresent w p → NamesWaiting w (step_of p k act)

-- behind so many lines of p's log one stands that waits for nothing: its act has this serial
pub record IsReady (w : Rehearsal) (p : ℕ) (log : List LogLine) (count k : ℕ) : Type 0 where
  pub line : LogLine
  pub there : slice_get log count ≡ Some line
  pub serial : IsSerialOf w p line.act k

-- what is fixed is the same, and no steps are fewer
pub record IsLater (old new : Rehearsal) : Type 0 where
  pub setting : new.setting ≡ old.setting
  pub cells : new.cells ≡ old.cells
  pub steps : length old.steps ≤ length new.steps

-- the other members' own steps are the same
abbrev pub LeavesOthers : ℕ → Rehearsal → Rehearsal → Type 0
LeavesOthers p old new = (q : ℕ) → q ≢ p → own new q ≡ own old q

-- no member's own steps are more
abbrev pub LeavesAll : Rehearsal → Rehearsal → Type 0
LeavesAll old new = (q : ℕ) → own new q ≡ own old q

-- p took one more step, of which the line tells
pub record Takes (old : Rehearsal) (p : ℕ) (line : LogLine) (new : Rehearsal) : Type 0 where
  pub moment : Moment
  pub told : IsTold moment line
  pub own : own new p ≡ own old p ++ moment ∷ []
  pub others : LeavesOthers p old new

-- of this log of p so many first lines were taken
pub record IsTakenTo (w : Rehearsal) (p : ℕ) (log : List LogLine) (count : ℕ) : Type 0 where
  pub within : count ≤ length log
  pub is : IsLog w p (take count log)

-- what was taken: the record, and how many lines of each member's log; and whose log was tried last
pub record Taken : Type 0 where
  pub rehearsal : Rehearsal
  pub counts : List ℕ
  pub last : ℕ

-- how many lines of p's log were taken
abbrev pub count_of : List ℕ → ℕ → ℕ
count_of counts p = slice_index counts (p - 1)

-- of each member's log so many first lines were taken
abbrev pub IsTakenFrom : List (Vec LogLine) → Taken → Type 0
IsTakenFrom logs t = (p : ℕ) → is_member t.rehearsal.setting.members p ≡ true →
    IsTakenTo t.rehearsal p (log_of logs p) (count_of t.counts p)

-- the logs of a group, which may grow
pub record Growing : Type 0 where
  pub setting : Setting
  pub cells : ℕ
  pub logs : List (Vec LogLine)

-- it has no line
abbrev pub IsBare : Vec LogLine → Type 0
IsBare log = log.items ≡ []

-- the logs of the first n members have no more lines than were taken
abbrev pub IsWholeTo : List (Vec LogLine) → List ℕ → ℕ → Type 0
IsWholeTo logs counts n = (p : ℕ) → is_member n p ≡ true → length (log_of logs p) ≤ count_of counts p
