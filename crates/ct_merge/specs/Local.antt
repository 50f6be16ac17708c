-- What a member's step depends on.
use Rattle.std.specs.Prelude.{◌≡◌, ℕ, Option, None, if◌then◌else◌}
use Rattle.ct_model.specs.Actor.{actor}
use Rattle.ct_model.specs.AtValue.{Wire}
use Rattle.ct_model.specs.Next.{Outcome, can_act, row, wire_to}
use Rattle.ct_model.specs.Setting.{Setting}
use Rattle.ct_model.specs.State.{State, member, submissions}
use Rattle.ct_model.specs.declared.step.Step.{Step}
use Rattle.ct_merge.specs.declared.log_act.LogAct.{LogAct}
use Rattle.ct_merge.specs.declared.log_act.LogAct.TheVariants.{Receive}

-- the outcome of a step where it is enabled: its member as it is then, what it submits and proposes, and what it sends
unfoldable pub outcome_of : Setting → State → Step → Option Outcome
outcome_of s g step = if can_act s g (actor step) then row s g (actor step) (member g (actor step)) step else None

-- p stands in both alike, and submitted as many messages
pub record IsLike (p : ℕ) (g h : State) : Type 0 where
  pub member : member g p ≡ member h p
  pub submitted : submissions g.submitted p ≡ submissions h.submitted p

-- what p gets by the act, if that is a receipt, from the envelope of this serial
abbrev pub gets : State → ℕ → ℕ → LogAct → Option Wire
gets g p k (Receive name) = wire_to g p k
gets g p k _ = None
