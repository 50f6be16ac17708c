-- Where a member stands, and the batch of an instance.
use Rattle.std.specs.Prelude.{ℕ, List, [], option_map, unwrap_or}
use Rattle.std.specs.Prelude.{Bool, false, is_some}
use Rattle.std.specs.Option.{option_map_or}
use Rattle.ct_names.specs.Group.{coordinator}
use Rattle.ct_model.specs.Cause.{order}
use Rattle.ct_model.specs.declared.phase.Phase.{Phase}
use Rattle.ct_model.specs.Rehearsal.{Rehearsal, state_of}
use Rattle.ct_model.specs.State.{at_serial}
use Rattle.ct_world.specs.Standing.{estimate_by}
use Rattle.ct_world.specs.World.{member_of, of_member, if_member}
use Rattle.ct_text.specs.Shapes.{estimate_text, set_text, value_text}

-- the last instance that it began, 0 before the first
unfoldable pub instance_of : Rehearsal → ℕ → ℕ
instance_of w p = (unwrap_or {T = ℕ × Bool} (of_member w p ((member_of w p).last, is_some (member_of w p).current)) (0, false)).0

-- the round that it is in, 0 where it is in none
unfoldable pub round_of : Rehearsal → ℕ → ℕ
round_of w p = option_map_or (λ (r : ℕ × Phase). r.0) (if_member w p (option_map (λ c. (c.round, c.phase)) (member_of w p).current)) 0

-- the coordinator of that round
unfoldable pub coordinator_of : Rehearsal → ℕ → ℕ
coordinator_of w p = coordinator w.setting.members (round_of w p)

-- its estimate and ts
unfoldable pub estimate_of : Rehearsal → ℕ → List ℕ
estimate_of w p = estimate_text (if_member w p (estimate_by (member_of w p)))

-- its estimate alone
unfoldable pub estimate_alone : Rehearsal → ℕ → List ℕ
estimate_alone w p = value_text (if_member w p (estimate_by (member_of w p)))

-- the batch of the instance
unfoldable pub batch_text : Rehearsal → ℕ → List ℕ
batch_text w k = set_text (unwrap_or (option_map (λ b. b.messages) (at_serial (order (state_of w)) k)) [])
