-- The two ways to deliver a decision.
use Rattle.std.specs.Prelude.{◌≡◌, ℕ, ◌+◌, ◌<◌, true, is_some, None}
use Rattle.ct_names.specs.declared.limit.TheConstants.{MAX_INSTANCES}
use Rattle.ct_names.specs.Value.{Value}
use Rattle.ct_model.specs.declared.step.Step.{Step}
use Rattle.ct_model.specs.declared.step.Step.TheVariants.{Deliver, Follow}
use Rattle.ct_instances.specs.Kept.{decision_at}
use Rattle.ct_world.specs.declared.closing.Closing.{Closing}
use Rattle.ct_world.specs.declared.closing.Closing.TheVariants.{Open, Next}
use Rattle.ct_world.specs.declared.seat.Seat.{Seat}
use Rattle.ct_world.specs.Seats.{with_batch, with_delivery, with_next}

-- the step
abbrev pub closing_step : Closing → ℕ → Step
closing_step Open p = Deliver p
closing_step Next p = Follow p

-- the instance that is closed, by the last one begun
abbrev pub closed_instance : Closing → ℕ → ℕ
closed_instance Open last = last
closed_instance Next last = last + 1

-- no instance is open, the member has the decision of its next one, and fewer than 1,024 were begun
pub record CanFollow (seat : Seat) : Type 0 where
  pub idle : seat.instances.part ≡ None
  pub decided : is_some (decision_at seat.instances (seat.instances.last + 1)) ≡ true
  pub few : seat.caster.instance < MAX_INSTANCES

-- there is such an instance at the seat
abbrev pub CanClose : Closing → Seat → Type 0
CanClose Open seat = is_some seat.instances.part ≡ true
CanClose Next seat = CanFollow seat

-- the seat after it delivered the value and closed the instance
abbrev pub with_closed : Closing → Seat → Value → Seat
with_closed Open seat v = with_delivery seat v
with_closed Next seat v = with_batch (with_next seat) v
