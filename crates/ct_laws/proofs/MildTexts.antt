-- What is shown of steps and envelopes is plain text without quotes.
use Rattle.std.proofs.Common.{ℕ, List, [], ◌∷◌, refl}
use Rattle.std.proofs.Common.{Option, Some, None, option_map}
use Rattle.std.specs.Prelude.{unwrap_or}
use Rattle.ct_names.specs.Message.{Message}
use Rattle.ct_names.specs.Value.{Value}
use Rattle.ct_names.specs.declared.command.Command.{Command}
use Rattle.ct_names.specs.declared.command.Command.TheVariants.{Set}
use Rattle.ct_model.specs.Cause.{order}
use Rattle.ct_model.specs.Rehearsal.{Rehearsal, state_of}
use Rattle.ct_model.specs.State.{at_serial}
use Rattle.ct_model.specs.StepText.{command_entry}
use Rattle.ct_model.specs.declared.envelope.Envelope.{Envelope}
use Rattle.ct_model.specs.declared.step.Step.{Step}
use Rattle.ct_model.specs.declared.step.Step.TheVariants.{Submit}
use Rattle.ct_model.specs.declared.wire.Wire.{Wire}
use Rattle.ct_model.specs.declared.wire.Wire.TheVariants.{Data}
use Rattle.ct_world.specs.Standing.{estimate_by}
use Rattle.ct_world.specs.World.{if_member, member_of}
use Rattle.ct_show.specs.Details
use Rattle.ct_show.specs.Acts
use Rattle.ct_show.specs.Wires
use Rattle.ct_text.specs.Shapes as pieces
use Rattle.ct_text.specs.Standing as standing
use Rattle.ct_laws.proofs.Reading.{IsMild, decimal_mild, if_mild, mild_both}

-- ---- numbers, messages, values, commands

pub ruleset mild_parts = (mild_both, decimal_mild, if_mild)

names_mild : (list : List Message) → IsMild (pieces.names_text list)
unfolding pieces.names_text
names_mild [] = refl
names_mild (m ∷ []) = search mild_parts
names_mild (m ∷ (n ∷ list)) = search (mild_parts, names_mild (n ∷ list))

set_mild : (list : List Message) → IsMild (pieces.set_text list)
unfolding pieces.set_text pieces.shortened
set_mild list = search (mild_parts, names_mild) depth 9

estimate_mild : (o : Option (Value × ℕ)) → IsMild (pieces.estimate_text o)
unfolding pieces.estimate_text
estimate_mild None = refl
estimate_mild (Some e) = search (mild_parts, set_mild)

value_mild : (o : Option (Value × ℕ)) → IsMild (pieces.value_text o)
unfolding pieces.value_text
value_mild None = refl
value_mild (Some e) = set_mild e.0

command_mild : (c : Command) → IsMild (command_entry c).name
command_mild (Set register n) = refl
command_mild c = refl

-- ---- envelopes

pub round_mild : (k r : ℕ) → IsMild (Wires.round_text k r)
unfolding Wires.round_text
round_mild k r = search mild_parts

letter_mild : (o : Option (Envelope (Unit {0}))) (v : Value) → IsMild (Wires.letter_text o v)
unfolding Wires.wire_text
letter_mild None v = refl
letter_mild (Some e) v = wire_mild e.wire
  where
    wire_mild : (e : Wire (Unit {0})) → IsMild (Wires.wire_text e v)
    wire_mild (Data m) = search mild_parts
    wire_mild e = search (mild_parts, round_mild, set_mild) depth 9

pub serial_mild : (w : Rehearsal) (k : ℕ) → IsMild (Wires.serial_text w k)
unfolding Wires.serial_text Wires.carried_text
serial_mild w k = search (mild_parts, letter_mild)

-- ---- steps

pub estimate_of_mild : (w : Rehearsal) (p : ℕ) → IsMild (standing.estimate_of w p)
unfolding standing.estimate_of
estimate_of_mild w p = estimate_mild (if_member w p (estimate_by (member_of w p)))

alone_mild : (w : Rehearsal) (p : ℕ) → IsMild (standing.estimate_alone w p)
unfolding standing.estimate_alone
alone_mild w p = value_mild (if_member w p (estimate_by (member_of w p)))

message_in_mild : (o : Option (Envelope (Unit {0}))) → IsMild (Details.message_in o)
message_in_mild None = refl
message_in_mild (Some e) = message_mild e.wire
  where
    message_mild : (e : Wire (Unit {0})) → IsMild (Details.message_of e)
    message_mild (Data m) = search mild_parts
    message_mild e = refl

batch_mild : (w : Rehearsal) (k : ℕ) → IsMild (standing.batch_text w k)
unfolding standing.batch_text
batch_mild w k = set_mild (unwrap_or (option_map (λ b. b.messages) (at_serial (order (state_of w)) k)) [])

pub detail_mild : (w : Rehearsal) (before : ℕ) (step : Step) → IsMild (Details.detail_text w before step)
unfolding Details.submit_text Acts.command_words Details.begin_text Details.enter_text Details.coordinator_text Details.choose_text
    Details.adopt_text Details.suspect_text Details.conclude_text Details.acks_text Details.decision_text
    Details.delivery_text Details.letter_step
detail_mild w before (Submit p c) = search (mild_parts, message_in_mild, command_mild) depth 12
detail_mild w before step =
    search (mild_parts, serial_mild, estimate_mild, estimate_of_mild, alone_mild, round_mild, batch_mild) depth 12

pub letter_of_mild : (step : Step) → IsMild (Details.letter_of step)
letter_of_mild (Submit p c) = refl
letter_of_mild step = refl
