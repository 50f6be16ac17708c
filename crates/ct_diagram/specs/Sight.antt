-- How a step is drawn.
use Rattle.std.specs.Prelude.{ℕ, ◌==◌, Bool, true, false, not, ◌&&◌, ◌||◌, nat_lt, if◌then◌else◌, length, Option, Some, None, is_some}
use Rattle.std.specs.Prelude.{option_map}
use Rattle.std.specs.Option.{option_map_or}
use Rattle.ct_model.specs.Actor.{actor}
use Rattle.ct_model.specs.declared.envelope.Envelope.{Envelope}
use Rattle.ct_model.specs.declared.phase.Phase.{Phase}
use Rattle.ct_model.specs.declared.step.Step.{Step}
use Rattle.ct_model.specs.declared.step.Step.TheVariants.{Submit, Receive, Postpone, Lose, Repeat}
use Rattle.ct_model.specs.declared.wire.Wire.{Wire}
use Rattle.ct_model.specs.declared.wire.Wire.TheVariants.{Data, Est, Prop, Ack, Nack, Dec}
use Rattle.ct_model.specs.Received.{decided, received_by}
use Rattle.ct_model.specs.Rehearsal.{Rehearsal, state_of}
use Rattle.ct_show.specs.Wires.{letter_at}
use Rattle.ct_world.specs.World.{member_of, of_member, if_member}
use Rattle.ct_diagram.specs.declared.sight.Glance.{Glance}
use Rattle.ct_diagram.specs.declared.sight.Sight.{Sight}
use Rattle.ct_diagram.specs.declared.sight.Sight.TheVariants.{Wide, Small, Hidden}
use Rattle.ct_diagram.specs.declared.window.Window.{Window}
use Rattle.ct_diagram.specs.Window.{has_named, is_data}

-- ---- what changes nothing for a member

-- how many messages p has received
abbrev pub received_count : Rehearsal → ℕ → ℕ
received_count w p = option_map_or length (of_member w p (received_by (state_of w) p)) 0

-- p got the decision of the instance
abbrev pub has_got : Rehearsal → ℕ → ℕ → Bool
has_got w p k = is_some (if_member w p (decided (member_of w p).got k))

-- the open instance is this one, in a later round
abbrev pub is_later : Option (ℕ × Bool) → Option (ℕ × Phase) → ℕ → ℕ → Bool
is_later (Some last) (Some at) k r = (last.0 == k) && nat_lt r at.0
is_later last at k r = false

-- p got the decision of the instance, or is in a later round of it
abbrev pub is_passed : Rehearsal → ℕ → ℕ → ℕ → Bool
is_passed w p k r =
    has_got w p k || is_later (of_member w p ((member_of w p).last, is_some (member_of w p).current))
    (if_member w p (option_map (λ c. (c.round, c.phase)) (member_of w p).current)) k r

-- the wire is of an instance or of a round that is over for p; a decision is of no round
abbrev pub is_over : Rehearsal → ℕ → Wire (Unit {0}) → Bool
is_over w p (Data m) = false
is_over w p (Est k r from v t) = is_passed w p k r
is_over w p (Prop k r v) = is_passed w p k r
is_over w p (Ack k r from) = is_passed w p k r
is_over w p (Nack k r from) = is_passed w p k r
is_over w p (Dec k r v) = has_got w p k

abbrev pub is_over_at : Rehearsal → ℕ → Option (Envelope (Unit {0})) → Bool
is_over_at w p None = false
is_over_at w p (Some e) = is_over w p e.wire

-- what is seen of the member of a receipt, which is done after the record; of other steps nothing
abbrev pub glance_of : Rehearsal → Step → Glance
glance_of w (Receive p k) = record { received = received_count w p; is_over = is_over_at w p (letter_at w k) }
glance_of w step = record { received = 0; is_over = false }

-- the envelope carries a message alone
abbrev pub is_data_in : Option (Envelope (Unit {0})) → Bool
is_data_in None = false
is_data_in (Some e) = is_data e.wire

abbrev pub is_data_at : Rehearsal → ℕ → Bool
is_data_at w k = is_data_in (letter_at w k)

-- what p received in the record's last step it had received before, or it is over for it
abbrev pub is_old : Rehearsal → Glance → ℕ → ℕ → Bool
is_old w glance p k = if is_data_at w k then received_count w p == glance.received else glance.is_over

-- the record's last step, before which so many envelopes had been sent, is a receipt that changes nothing and sends nothing
abbrev pub is_quiet : Rehearsal → Glance → ℕ → Step → Bool
is_quiet w glance before (Receive p k) = (length (state_of w).sent == before) && is_old w glance p k
is_quiet w glance before step = false

-- ---- how a step is drawn

-- no submission, and not about a message alone
abbrev pub is_consensus : Rehearsal → Step → Bool
is_consensus w (Submit p c) = false
is_consensus w (Receive p k) = not (is_data_at w k)
is_consensus w (Postpone p k) = not (is_data_at w k)
is_consensus w (Lose p k) = not (is_data_at w k)
is_consensus w (Repeat p k) = not (is_data_at w k)
is_consensus w step = true

-- it is one of those that are asked for
abbrev pub is_asked : Window → Rehearsal → Step → Bool
is_asked window w step = has_named window.members (actor step) && (not window.consensus || is_consensus w step)

-- in a column of its own; as a small mark, where it changes nothing; not at all, where it isn't asked for
abbrev pub sight_of : Window → Rehearsal → Bool → Step → Sight
sight_of window w quiet step = if not (is_asked window w step) then Hidden else (if quiet then Small else Wide)

-- it has a column of its own
abbrev pub is_wide : Sight → Bool
is_wide Wide = true
is_wide sight = false
