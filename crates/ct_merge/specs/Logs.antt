-- What the logs of members say of a record.
use Rattle.std.specs.Prelude.{◌≡◌, ℕ, ◌-◌, Bool, true, false, not, ◌&&◌, ◌==◌, List, [], ◌∷◌, Option, Some, None, IfSome, option_map}
use Rattle.std.specs.Prelude.{filter, slice_get}
use Rattle.std.specs.List.{AllZip}
use Rattle.std.specs.Option.{option_map_or}
use Rattle.std.specs.Global.{Vec}
use Rattle.ct_names.specs.Group.{is_member}
use Rattle.ct_model.specs.Actor.{actor}
use Rattle.ct_model.specs.Rehearsal.{Rehearsal, empty, extended}
use Rattle.ct_model.specs.declared.step.Step.{Step}
use Rattle.ct_model.specs.declared.step.Step.TheVariants as step
use Rattle.ct_merge.specs.Names.{full_name}
use Rattle.ct_play.specs.Outcomes.{is_stated, outcome}
use Rattle.ct_merge.specs.declared.log_act.LogAct.{LogAct}
use Rattle.ct_merge.specs.declared.log_act.LogAct.TheVariants.{Submit, Receive, Begin, Enter, Choose, Adopt, Suspect, Conclude, Deliver}
use Rattle.ct_merge.specs.declared.log_act.LogAct.TheVariants.{Follow, Crash}
use Rattle.ct_merge.specs.declared.log_line.LogLine.{LogLine}

-- ---- what a record has of a member

-- a step, and the record before it
pub record Moment : Type 0 where
  pub before : Rehearsal
  pub step : Step

-- these steps after a record, each with the record before it
unfoldable pub moments : Rehearsal → List Step → List Moment
moments w [] = []
moments w (step ∷ steps) = record { before = w; step = step } ∷ moments (extended w step) steps

-- the network does it
abbrev pub is_repeat : Step → Bool
is_repeat (step.Repeat p k) = true
is_repeat _ = false

-- it is a step of p, and no repetition by the network
abbrev pub is_own : ℕ → Moment → Bool
is_own p m = (actor m.step == p) && not (is_repeat m.step)

-- p's own steps in the record, each with the record before it
unfoldable pub own : Rehearsal → ℕ → List Moment
own w p = filter (is_own p) (moments (empty w.setting w.cells) w.steps)

-- ---- what a log says

-- a step as a log tells it, the envelope that it receives by its full name; of what the network does no log tells
abbrev pub act_of : Rehearsal → Step → Option LogAct
act_of w (step.Submit p c) = Some (Submit c)
act_of w (step.Receive p k) = option_map Receive (full_name w k)
act_of w (step.Begin p) = Some Begin
act_of w (step.Enter p) = Some Enter
act_of w (step.Choose p from) = Some (Choose from)
act_of w (step.Adopt p) = Some Adopt
act_of w (step.Suspect p) = Some Suspect
act_of w (step.Conclude p) = Some Conclude
act_of w (step.Deliver p) = Some Deliver
act_of w (step.Follow p) = Some Follow
act_of w (step.Crash p) = Some Crash
act_of w _ = None

-- the line tells of this step, and of what it came to, if it states that
pub record IsTold (m : Moment) (line : LogLine) : Type 0 where
  pub act : act_of m.before m.step ≡ Some line.act
  pub said : IfSome line.said (λ statement. is_stated (outcome (extended m.before m.step) m.step) statement ≡ true)

-- p's own steps in the record are those of these lines, in order
abbrev pub IsLog : Rehearsal → ℕ → List LogLine → Type 0
IsLog w p lines = AllZip IsTold (own w p) lines

-- the log of member p; the first one is member 1's
abbrev pub log_of : List (Vec LogLine) → ℕ → List LogLine
log_of logs p = option_map_or (λ log. log.items) (slice_get logs (p - 1)) []

-- the record is a merge of these logs: each member's own steps are those of its log, in order, as named and as stated; besides
-- them it has repetitions by the network alone
abbrev pub IsMerge : Rehearsal → List (Vec LogLine) → Type 0
IsMerge w logs = (p : ℕ) → is_member w.setting.members p ≡ true → IsLog w p (log_of logs p)
