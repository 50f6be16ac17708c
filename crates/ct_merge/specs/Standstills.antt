-- The lines at which logs stand that are taken as far as they go.
use Rattle.std.specs.Prelude.{◌≡◌, ◌⊎◌, ℕ, ◌≤◌, ◌==◌, ◌&&◌, Bool, true, false, List, length, IfSome, All}
use Rattle.std.specs.List.{list_any}
use Rattle.std.specs.Global.{Vec}
use Rattle.ct_names.specs.Group.{is_member}
use Rattle.ct_model.specs.Lawful.{IsLawful}
use Rattle.ct_model.specs.Setting.{Setting}
use Rattle.ct_merge.specs.Logs.{log_of}
use Rattle.ct_merge.specs.Merging.{IsTakenFrom, Taken, count_of}
use Rattle.ct_merge.specs.Senders.{IsSendingLine}
use Rattle.ct_merge.specs.Stops.{IsCulprit, IsNext, IsStandOf}
use Rattle.ct_merge.specs.Waits.{WaitsAt, is_wait}
use Rattle.ct_merge.specs.declared.full_name.FullName.{FullName}
use Rattle.ct_merge.specs.declared.log_act.LogAct.TheVariants.{Receive}
use Rattle.ct_merge.specs.declared.log_line.LogLine.{LogLine}
use Rattle.ct_merge.specs.declared.stopped_line.StoppedLine.{StoppedLine}
use Rattle.ct_merge.specs.declared.stopped_lines.StoppedLines.{StoppedLines}
use Rattle.ct_merge.specs.declared.verdict.Culprit.{Culprit}

-- the line at this place of its sender's log is of the kind that sends what p's next line receives
pub record IsSentBy (logs : List (Vec LogLine)) (t : Taken) (p place : ℕ) : Type 0 where
  pub line : LogLine
  pub next : IsNext logs t p line
  pub name : FullName
  pub act : line.act ≡ Receive name
  pub sends : IsSendingLine (log_of logs name.from) (count_of t.counts name.from) place name.carried

-- it is the next line of its log behind these, and waits there for what was not sent, as told
pub record IsStoppedAt (logs : List (Vec LogLine)) (t : Taken) (s : StoppedLine) : Type 0 where
  pub place : count_of t.counts s.member ≡ s.place
  pub stand : IsStandOf logs t s.member s.stand
  pub waits : WaitsAt logs t s.member
  pub sender : IfSome s.sender (IsSentBy logs t s.member)

-- a line that is refused by itself, behind a run of this group, of first lines of each log
pub record IsRefusedLine (s : Setting) (cells : ℕ) (logs : List (Vec LogLine)) (c : Culprit) : Type 0 where
  pub is : IsCulprit s cells logs c
  pub fault : is_wait c.why ≡ false

-- one of these is at this place of p's log
abbrev pub is_refused : List Culprit → ℕ → ℕ → Bool
is_refused refused p place = list_any (λ (c : Culprit). (c.member == p) && (c.place == place)) refused

-- each log is over, or stands at one of these lines, or its next line waits
abbrev pub AllWaitBut : List (Vec LogLine) → Taken → List Culprit → Type 0
AllWaitBut logs t refused = (p : ℕ) → is_member t.rehearsal.setting.members p ≡ true →
    is_refused refused p (count_of t.counts p) ≡ false → WaitsAt logs t p

-- one of these is of p's log
abbrev pub is_waiting : List StoppedLine → ℕ → Bool
is_waiting lines p = list_any (λ (s : StoppedLine). s.member == p) lines

-- p's log is over, or its next line is refused by itself, or is one of these
abbrev pub IsTold : List (Vec LogLine) → Taken → List Culprit → List StoppedLine → ℕ → Type 0
IsTold logs t refused lines p =
    (length (log_of logs p) ≤ count_of t.counts p)
    ⊎ ((is_refused refused p (count_of t.counts p) ≡ true) ⊎ (is_waiting lines p ≡ true))

-- so it is with each of the first n members
abbrev pub AreToldTo : List (Vec LogLine) → Taken → List Culprit → List StoppedLine → ℕ → Type 0
AreToldTo logs t refused lines n = (p : ℕ) → is_member n p ≡ true → IsTold logs t refused lines p

-- this is a run of the group, of first lines of each log, behind which each log that is not over stands at one of these lines
pub record AreStopped (s : Setting) (cells : ℕ) (logs : List (Vec LogLine)) (lines : StoppedLines) : Type 0 where
  pub so_far : Taken
  pub run : lines.run.rehearsal ≡ so_far.rehearsal
  pub lawful : IsLawful so_far.rehearsal
  pub group : so_far.rehearsal.setting ≡ s
  pub room : so_far.rehearsal.cells ≡ cells
  pub taken : IsTakenFrom logs so_far
  pub refused : All (IsRefusedLine s cells logs) lines.refused.items
  pub waiting : All (IsStoppedAt logs so_far) lines.waiting.items
  pub each : AreToldTo logs so_far lines.refused.items lines.waiting.items s.members
