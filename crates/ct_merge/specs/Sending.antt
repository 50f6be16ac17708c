-- What a member may still send.
use Rattle.std.specs.Prelude.{ℕ, Bool, true, false, not, ◌&&◌, ◌||◌, ◌==◌, Option, Some, None, option_map, is_some, nat_le, nat_lt}
use Rattle.std.specs.Prelude.{count_by}
use Rattle.std.specs.Prelude.{if◌then◌else◌}
use Rattle.std.specs.List.{list_any}
use Rattle.ct_names.specs.Group.{coordinator, is_member}
use Rattle.ct_model.specs.Mapped.{without_value}
use Rattle.ct_model.specs.Received.{decided}
use Rattle.ct_model.specs.Rehearsal.{Rehearsal, state_of}
use Rattle.ct_model.specs.State.{at_serial, is_crashed}
use Rattle.ct_model.specs.declared.envelope.Envelope.{Envelope}
use Rattle.ct_model.specs.declared.phase.Phase.{Phase}
use Rattle.ct_model.specs.declared.phase.Phase.TheVariants.{Rest, Gather, Wait, Tally}
use Rattle.ct_model.specs.declared.step.Step.{Step}
use Rattle.ct_model.specs.declared.step.Step.TheVariants.{Receive, Submit}
use Rattle.ct_model.specs.declared.wire.Wire.{Wire}
use Rattle.ct_model.specs.declared.wire.Wire.TheVariants as wire
use Rattle.ct_grammar.specs.declared.carried.Carried.{Carried}
use Rattle.ct_grammar.specs.declared.carried.Carried.TheVariants.{Data, Est, Prop, Ack, Nack, Dec}
use Rattle.ct_world.specs.World.{if_member, member_of, of_member}
use Rattle.ct_merge.specs.declared.full_name.FullName.{FullName}

-- ---- what it did

-- the wire carries this message, proposal or decision
abbrev pub passes : {V : Type 0} → Wire V → Carried → Bool
passes (wire.Data m) (Data o n) = (m.origin == o) && (m.number == n)
passes (wire.Prop i s v) (Prop k r) = (i == k) && (s == r)
passes (wire.Dec i s v) (Dec k r) = (i == k) && (s == r)
passes _ _ = false

abbrev pub is_passed : Carried → Option (Envelope (Unit {0})) → Bool
is_passed carried None = false
is_passed carried (Some e) = passes e.wire carried

-- the step is p's receipt of this message, proposal or decision
abbrev pub is_receipt : Rehearsal → ℕ → Carried → Step → Bool
is_receipt w p carried (Receive q k) = (q == p) && is_passed carried (option_map without_value (at_serial (state_of w).sent k))
is_receipt w p carried _ = false

-- p received this message, proposal or decision
unfoldable pub received : Rehearsal → ℕ → Carried → Bool
received w p carried = list_any (is_receipt w p carried) w.steps

abbrev pub is_submission : ℕ → Step → Bool
is_submission p (Submit q c) = q == p
is_submission p _ = false

-- how many messages p submitted
unfoldable pub submitted : Rehearsal → ℕ → ℕ
submitted w p = count_by (is_submission p) w.steps

-- ---- what is still before it

-- p's last instance, and whether that is open
abbrev pub instance_at : Rehearsal → ℕ → Option (ℕ × Bool)
instance_at w p = of_member w p ((member_of w p).last, is_some (member_of w p).current)

-- p's round in it, and the phase
abbrev pub round_at : Rehearsal → ℕ → Option (ℕ × Phase)
round_at w p = if_member w p (option_map (λ c. (c.round, c.phase)) (member_of w p).current)

abbrev pub is_later : Option (ℕ × Phase) → ℕ → Bool
is_later None r = false
is_later (Some here) r = nat_lt here.0 r

abbrev pub is_ahead : Option (ℕ × Bool) → Option (ℕ × Phase) → ℕ → ℕ → Bool
is_ahead None here k r = false
is_ahead (Some last) here k r = nat_lt last.0 k || ((k == last.0) && is_later here r)

-- p has a decision for the instance
abbrev pub has_decided : Rehearsal → ℕ → ℕ → Bool
has_decided w p k = is_some (if_member w p (decided (member_of w p).got k))

-- p has yet to enter this round of the instance; it enters none once it has the instance's decision
unfoldable pub has_before : Rehearsal → ℕ → ℕ → ℕ → Bool
has_before w p k r = not (has_decided w p k) && is_ahead (instance_at w p) (round_at w p) k r

abbrev pub phase_at : Option (ℕ × Bool) → Option (ℕ × Phase) → ℕ → ℕ → Option Phase
phase_at (Some last) (Some here) k r = if (k == last.0) && (here.0 == r) then Some here.1 else None
phase_at _ _ k r = None

-- the phase in which p is in this round of the instance
unfoldable pub phase_in : Rehearsal → ℕ → ℕ → ℕ → Option Phase
phase_in w p k r = phase_at (instance_at w p) (round_at w p) k r

-- p may propose: it gathers, or has the round before it
abbrev pub choosing : Option Phase → Bool → Bool
choosing None before = before
choosing (Some Rest) before = false
choosing (Some Gather) before = true
choosing (Some Wait) before = false
choosing (Some Tally) before = false

-- p may reply: it gathers, or waits, or has the round before it
abbrev pub replying : Option Phase → Bool → Bool
replying None before = before
replying (Some Rest) before = false
replying (Some Gather) before = true
replying (Some Wait) before = true
replying (Some Tally) before = false

-- p may decide: the round is not over for it
abbrev pub concluding : Option Phase → Bool → Bool
concluding None before = before
concluding (Some Rest) before = false
concluding (Some Gather) before = true
concluding (Some Wait) before = true
concluding (Some Tally) before = true

-- while p is up it may still send this to q: a message that it submits or gets for the first time; what it sends in a round, and no
-- nack once it has the proposal; a decision that it makes or gets for the first time
unfoldable pub may_send : Rehearsal → ℕ → ℕ → Carried → Bool
may_send w p q (Data o n) = if o == p then nat_lt (submitted w p) n else not (received w p (Data o n))
may_send w p q (Est k r) = (coordinator w.setting.members r == q) && has_before w p k r
may_send w p q (Prop k r) = (coordinator w.setting.members r == p) && choosing (phase_in w p k r) (has_before w p k r)
may_send w p q (Ack k r) = (coordinator w.setting.members r == q) && replying (phase_in w p k r) (has_before w p k r)
may_send w p q (Nack k r) =
    (coordinator w.setting.members r == q)
    && (replying (phase_in w p k r) (has_before w p k r) && not (received w p (Prop k r)))
may_send w p q (Dec k r) =
    if coordinator w.setting.members r == p
    then concluding (phase_in w p k r) (has_before w p k r)
    else not (received w p (Dec k r))

-- ---- what may come

-- a round of an instance, both counted from 1 on
abbrev pub is_round : ℕ → ℕ → Bool
is_round k r = nat_le 1 k && nat_le 1 r

-- a group of n has such: messages of its members, counted from 1 on, and what is sent in rounds
abbrev pub is_of_group : ℕ → Carried → Bool
is_of_group n (Data o i) = is_member n o && nat_le 1 i
is_of_group n (Est k r) = is_round k r
is_of_group n (Prop k r) = is_round k r
is_of_group n (Ack k r) = is_round k r
is_of_group n (Nack k r) = is_round k r
is_of_group n (Dec k r) = is_round k r

-- the envelope of this name may still be sent to q
unfoldable pub may_come : Rehearsal → ℕ → FullName → Bool
may_come w q name =
    is_member w.setting.members name.from
    && (is_of_group w.setting.members name.carried
    && (not (is_member w.setting.members name.from && is_crashed (state_of w) name.from) && may_send w name.from q name.carried))
