-- Logs of which none goes on.
use Rattle.std.specs.Prelude.{◌≡◌, ℕ, ◌<◌, Bool, true, false, List, Some, length, slice_get}
use Rattle.std.specs.Global.{Vec}
use Rattle.ct_names.specs.Group.{is_member}
use Rattle.ct_names.specs.Prefix.{IsPrefix}
use Rattle.ct_names.specs.declared.refusal.Refusal.{Refusal}
use Rattle.ct_names.specs.declared.refusal.Refusal.TheVariants.{Full}
use Rattle.ct_model.specs.Rehearsal.{Rehearsal}
use Rattle.ct_model.specs.Setting.{Setting}
use Rattle.ct_model.specs.Stamps.{is_sent}
use Rattle.ct_play.specs.declared.line_fault.LineFault.TheVariants.{Refused}
use Rattle.ct_merge.specs.Logs.{IsMerge, log_of}
use Rattle.ct_merge.specs.Merging.{Taken, count_of}
use Rattle.ct_merge.specs.Names.{full_name}
use Rattle.ct_merge.specs.Runs.{IsRun}
use Rattle.ct_merge.specs.declared.full_name.FullName.{FullName}
use Rattle.ct_merge.specs.declared.log_act.LogAct.TheVariants.{Receive}
use Rattle.ct_merge.specs.declared.log_line.LogLine.{LogLine}
use Rattle.ct_merge.specs.declared.own_fault.OwnFault.TheVariants.{Line}
use Rattle.ct_merge.specs.declared.verdict.Why.{Why}
use Rattle.ct_merge.specs.declared.verdict.Why.TheVariants.{Ended, Fault}

-- no envelope of this name was sent to p
abbrev pub IsUnsent : Rehearsal → ℕ → FullName → Type 0
IsUnsent w p name = (k : ℕ) → is_sent w p k ≡ true → full_name w k ≡ Some name → ⊥

-- the line receives an envelope that was not sent
pub record IsWaiting (w : Rehearsal) (p : ℕ) (line : LogLine) : Type 0 where
  pub name : FullName
  pub act : line.act ≡ Receive name
  pub unsent : IsUnsent w p name

-- p's log is over behind so many lines, or the next one waits
abbrev pub WaitsIn : Rehearsal → ℕ → List LogLine → ℕ → Type 0
WaitsIn w p log count = (line : LogLine) → slice_get log count ≡ Some line → IsWaiting w p line

-- so it is behind the lines that were taken
abbrev pub WaitsAt : List (Vec LogLine) → Taken → ℕ → Type 0
WaitsAt logs t p = WaitsIn t.rehearsal p (log_of logs p) (count_of t.counts p)

-- so it is with each log
abbrev pub AllWait : List (Vec LogLine) → Taken → Type 0
AllWait logs t = (p : ℕ) → is_member t.rehearsal.setting.members p ≡ true → WaitsAt logs t p

-- a log of a member is not over
pub record SomeWaits (logs : List (Vec LogLine)) (t : Taken) : Type 0 where
  pub member : ℕ
  pub in_group : is_member t.rehearsal.setting.members member ≡ true
  pub more : count_of t.counts member < length (log_of logs member)

-- no run of this group is a merge of the logs
abbrev pub HasNoMerge : Setting → List (Vec LogLine) → Type 0
HasNoMerge s logs = (w : Rehearsal) → IsRun w → w.setting ≡ s → IsMerge w logs → ⊥

-- the other logs begin with these
abbrev pub AllBegin : List (Vec LogLine) → List (Vec LogLine) → Type 0
AllBegin logs more = (p : ℕ) → IsPrefix (log_of logs p) (log_of more p)

-- no run of this group is a merge of logs that begin with these
abbrev pub NeverMerges : Setting → List (Vec LogLine) → Type 0
NeverMerges s logs = (more : List (Vec LogLine)) → AllBegin logs more → HasNoMerge s more

-- ---- why a line is not taken

-- a log stands for an envelope that was not sent
abbrev pub is_wait : Why → Bool
is_wait (Fault fault) = false
is_wait _ = true

-- for one whose sender's log has ended
abbrev pub is_ended : Why → Bool
is_ended (Ended p) = true
is_ended _ = false

abbrev pub is_full : Refusal → Bool
is_full (Full limit) = true
is_full _ = false

-- a limit is in the way, which no run has
abbrev pub is_limit : Why → Bool
is_limit (Fault (Line (Refused step refusal))) = is_full refusal
is_limit _ = false
