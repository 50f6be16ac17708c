-- Where logs stand, and why.
use Rattle.std.specs.Prelude.{◌≡◌, ◌⊎◌, ℕ, zero, suc, ◌≤◌, ◌<◌, Bool, true, false, List, Option, Some, None}
use Rattle.std.specs.Prelude.{length, slice_get, IfSome, ⊤}
use Rattle.ct_names.specs.Group.{is_member}
use Rattle.std.specs.Global.{Vec}
use Rattle.ct_model.specs.Actor.{actor}
use Rattle.ct_model.specs.Cause.{cause}
use Rattle.ct_model.specs.Lawful.{IsLawful, IsPresent, NamesWaiting}
use Rattle.ct_model.specs.Rehearsal.{Rehearsal, extended}
use Rattle.ct_model.specs.Setting.{Setting}
use Rattle.ct_model.specs.declared.step.Step.{Step}
use Rattle.ct_model.specs.declared.step.Step.TheVariants.{Repeat}
use Rattle.ct_grammar.specs.declared.statement.Statement.{Statement}
use Rattle.ct_play.specs.Faults.{UnlessShort, is_short}
use Rattle.ct_play.specs.declared.line_fault.LineFault.{LineFault}
use Rattle.ct_play.specs.declared.line_fault.LineFault.TheVariants.{Refused, NotSo}
use Rattle.ct_merge.specs.Logs.{act_of, log_of}
use Rattle.ct_merge.specs.Merging.{IsLater, IsTakenFrom, IsTakenTo, LeavesAll, LeavesOthers, Taken, count_of}
use Rattle.ct_merge.specs.Names.{IsSentAs}
use Rattle.ct_merge.specs.Sending.{may_come}
use Rattle.ct_play.specs.Outcomes.{came_text, is_stated, outcome}
use Rattle.ct_merge.specs.Waits.{IsUnsent}
use Rattle.ct_merge.specs.declared.full_name.FullName.{FullName}
use Rattle.ct_merge.specs.declared.log_act.LogAct.TheVariants.{Receive}
use Rattle.ct_merge.specs.declared.log_line.LogLine.{LogLine}
use Rattle.ct_merge.specs.declared.own_fault.OwnFault.{OwnFault}
use Rattle.ct_merge.specs.declared.own_fault.OwnFault.TheVariants.{Line, CameTo}
use Rattle.ct_merge.specs.declared.stand.Stand.{Stand}
use Rattle.ct_merge.specs.declared.stand.Stand.TheVariants.{Own, For}
use Rattle.ct_merge.specs.declared.verdict.Culprit.{Culprit}
use Rattle.ct_merge.specs.declared.verdict.Why.{Why}
use Rattle.ct_merge.specs.declared.verdict.Why.TheVariants.{Fault, Never, Ended, Circle}

-- ---- a line that is refused by itself

-- the step after this record is p's, and the line tells of it
pub record Tells (w : Rehearsal) (p : ℕ) (line : LogLine) (step : Step) : Type 0 where
  pub actor : actor step ≡ p
  pub act : act_of w step ≡ Some line.act

-- the network brings p once more what its line receives
pub record IsRepetition (w : Rehearsal) (p : ℕ) (line : LogLine) (step : Step) : Type 0 where
  pub name : FullName
  pub act : line.act ≡ Receive name
  pub serial : ℕ
  pub sent : IsSentAs w p name serial
  pub is : step ≡ Repeat p serial

-- p's line asks for the step after this record: it tells of it, or receives what that brings once more. What the step takes waits,
-- and what it brings doesn't, so that no place of an envelope is in its way
pub record IsAsked (w : Rehearsal) (p : ℕ) (line : LogLine) (step : Step) : Type 0 where
  pub waits : NamesWaiting w step
  pub is : Tells w p line step ⊎ IsRepetition w p line step

-- the step is p's, which has crashed or is no member
pub record IsOfAbsent (w : Rehearsal) (p : ℕ) (step : Step) : Type 0 where
  pub actor : actor step ≡ p
  pub absent : IsPresent w p → ⊥

-- something is stated, and the step that led to this record did not come to that, but to this
pub record IsOther (w : Rehearsal) (step : Step) (said : Option Statement) (came : List ℕ) : Type 0 where
  pub statement : Statement
  pub stated : said ≡ Some statement
  pub other : is_stated (outcome w step) statement ≡ false
  pub is : came_text (outcome w step) ≡ came

-- the step of which the line tells is allowed, and comes to this and not to what it states
pub record Differs (w : Rehearsal) (p : ℕ) (line : LogLine) (came : List ℕ) : Type 0 where
  pub step : Step
  pub tells : Tells w p line step
  pub allowed : cause w step ≡ None
  pub other : IsOther (extended w step) step line.said came

-- the fault that a line would have in a schedule
abbrev pub line_fault_of : OwnFault → LineFault
line_fault_of (Line fault) = fault
line_fault_of (CameTo p came) = NotSo p

-- this is what its member's step came to, which is something else than is stated
abbrev pub IsOutcome : Rehearsal → Step → Option Statement → OwnFault → Type 0
IsOutcome w step said (Line fault) = ⊥
IsOutcome w step said (CameTo p came) = (p ≡ actor step) × IsOther w step said came

-- after this record the rules refuse the step, for this cause
abbrev pub IsRefusedBy : Rehearsal → Step → LineFault → Type 0
IsRefusedBy w step (Refused tried refusal) = (tried ≡ step) × (cause w step ≡ Some refusal)
IsRefusedBy w step fault = ⊥

-- the rules refuse p each step after this record, or that which its line asks for; or that comes to something else than it states.
-- So the refusal is of what the step is and of how p stands, or by a limit
abbrev pub IsFaultAt : Rehearsal → ℕ → LogLine → OwnFault → Type 0
IsFaultAt w p line (Line (Refused step refusal)) = (cause w step ≡ Some refusal) × (IsOfAbsent w p step ⊎ IsAsked w p line step)
IsFaultAt w p line (Line fault) = ⊥
IsFaultAt w p line (CameTo q came) = (q ≡ p) × Differs w p line came

-- with repetitions alone behind the record, p's line is refused by itself
pub record IsStuck (old : Rehearsal) (p : ℕ) (line : LogLine) (fault : OwnFault) : Type 0 where
  pub at : Rehearsal
  pub lawful : IsLawful at
  pub leaves : LeavesAll old at
  pub group : IsLater old at
  pub fails : IsFaultAt at p line fault

-- the same behind so many lines of its log
pub record IsStuckIn (old : Rehearsal) (p : ℕ) (log : List LogLine) (count : ℕ) (fault : OwnFault) : Type 0 where
  pub at : Rehearsal
  pub lawful : IsLawful at
  pub taken : IsTakenTo at p log count
  pub others : LeavesOthers p old at
  pub group : IsLater old at
  pub line : LogLine
  pub there : slice_get log count ≡ Some line
  pub fails : IsFaultAt at p line fault

-- ---- the line at which a log stands

-- p's line receives an envelope of q's that was not sent, and that q may still send after this record, or may not
pub record Receives (w : Rehearsal) (p : ℕ) (line : LogLine) (q : ℕ) (still : Bool) : Type 0 where
  pub name : FullName
  pub act : line.act ≡ Receive name
  pub from : name.from ≡ q
  pub unsent : IsUnsent w p name
  pub may : may_come w p name ≡ still

-- all lines of q's log were taken
abbrev pub IsOver : List (Vec LogLine) → Taken → ℕ → Type 0
IsOver logs t q = length (log_of logs q) ≤ count_of t.counts q

-- this is p's next line
abbrev pub IsNext : List (Vec LogLine) → Taken → ℕ → LogLine → Type 0
IsNext logs t p line = slice_get (log_of logs p) (count_of t.counts p) ≡ Some line

-- p's log waits for that of q, which is not over, and q may still send what it waits for
pub record IsWait (logs : List (Vec LogLine)) (t : Taken) (p q : ℕ) : Type 0 where
  pub line : LogLine
  pub next : IsNext logs t p line
  pub receives : Receives t.rehearsal p line q true
  pub more : count_of t.counts q < length (log_of logs q)

-- a member's log waits for p's, and so many such waits lead there
abbrev pub IsLed : List (Vec LogLine) → Taken → ℕ → ℕ → Type 0
IsLed logs t zero p = ⊤
IsLed logs t (suc n) p =
    (q : ℕ) × (is_member t.rehearsal.setting.members q ≡ true) × IsWait logs t q p × IsLed logs t n q

-- why p's line is not taken behind these; where as many waits as the group has members lead to it, they go in a circle
abbrev pub IsWhy : List (Vec LogLine) → Taken → ℕ → LogLine → Why → Type 0
IsWhy logs t p line (Fault fault) = IsFaultAt t.rehearsal p line fault
IsWhy logs t p line (Never q) = Receives t.rehearsal p line q false
IsWhy logs t p line (Ended q) = Receives t.rehearsal p line q true × IsOver logs t q
IsWhy logs t p line Circle = IsLed logs t t.rehearsal.setting.members p

-- p's next line is not taken for this reason
pub record IsStand (logs : List (Vec LogLine)) (t : Taken) (p : ℕ) (why : Why) : Type 0 where
  pub line : LogLine
  pub next : IsNext logs t p line
  pub reason : IsWhy logs t p line why

-- so many lines of a member's log were taken, and the next one is not, for this reason
pub record IsCulpritAt (logs : List (Vec LogLine)) (t : Taken) (culprit : Culprit) : Type 0 where
  pub in_group : is_member t.rehearsal.setting.members culprit.member ≡ true
  pub place : count_of t.counts culprit.member ≡ culprit.place
  pub stand : IsStand logs t culprit.member culprit.why

-- there is a run of this group with so many cells, of first lines of each log, behind which that is so; the one that is told, if it is
pub record IsCulprit (s : Setting) (cells : ℕ) (logs : List (Vec LogLine)) (culprit : Culprit) : Type 0 where
  pub so_far : Taken
  pub group : so_far.rehearsal.setting ≡ s
  pub room : so_far.rehearsal.cells ≡ cells
  pub lawful : IsLawful so_far.rehearsal
  pub taken : IsTakenFrom logs so_far
  pub is : IsCulpritAt logs so_far culprit
  pub run : IfSome culprit.run (λ world. world.rehearsal ≡ so_far.rehearsal)

-- the next line of the log that was tried last, which has this fault
abbrev pub halted_at : Taken → OwnFault → Culprit
halted_at t fault = record { member = t.last; place = count_of t.counts t.last; why = Fault fault; run = None }

-- no more lines are taken behind this record, as memory or the board was refused, or at this line
abbrev pub IsHalt : Rehearsal → List (Vec LogLine) → Taken → OwnFault → Type 0
IsHalt w logs t fault = UnlessShort (is_short (line_fault_of fault)) (IsCulprit w.setting w.cells logs (halted_at t fault))

-- where p's log stands: at its own line, or for that of another
abbrev pub IsStandOf : List (Vec LogLine) → Taken → ℕ → Stand → Type 0
IsStandOf logs t p (Own why) = IsStand logs t p why
IsStandOf logs t p (For q) = IsWait logs t p q
