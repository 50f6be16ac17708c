-- The value that a step is, as JSON, with a line feed behind it. The record has the step as its last one, but where it is refused.
use Rattle.std.specs.Prelude.{ℕ, ◌+◌, ◌==◌, List, [], ◌∷◌, ◌++◌, length, codes, Option, Some, None, option_map, unwrap_or, if◌then◌else◌}
use Rattle.serde_json.specs.Data.{Data as Json, string}
use Rattle.ct_names.specs.declared.refusal.Refusal.{Refusal}
use Rattle.ct_names.specs.declared.refusal.Refusal.TheVariants.{NotWaiting}
use Rattle.ct_names.specs.RefusalText.{refusal_text}
use Rattle.ct_names.specs.Value.{Value}
use Rattle.ct_model.specs.Actor.{actor}
use Rattle.ct_model.specs.Cause.{order}
use Rattle.ct_model.specs.declared.envelope.Envelope.{Envelope}
use Rattle.ct_model.specs.declared.step.Step.{Step}
use Rattle.ct_model.specs.declared.step.Step.TheVariants.{Submit, Receive, Begin, Enter, Choose, Adopt, Suspect, Conclude, Deliver}
use Rattle.ct_model.specs.declared.step.Step.TheVariants.{Follow, Postpone, Lose, Repeat}
use Rattle.ct_model.specs.declared.wire.Wire.{Wire}
use Rattle.ct_model.specs.declared.wire.Wire.TheVariants.{Data}
use Rattle.ct_model.specs.Rehearsal.{Rehearsal, state_of}
use Rattle.ct_model.specs.State.{at_serial}
use Rattle.ct_model.specs.StepText.{step_entry}
use Rattle.ct_records.specs.Values.{command_data, num, step_data}
use Rattle.ct_world.specs.Standing.{estimate_by, heard_by}
use Rattle.ct_world.specs.World.{member_of, if_member}
use Rattle.ct_text.specs.Standing.{coordinator_of, instance_of, round_of}
use Rattle.ct_show.specs.Facts.{last_taking}
use Rattle.ct_json.specs.Fields.{Field, line_text, object_of}
use Rattle.ct_json.specs.Json.{message_value, messages_at}
use Rattle.ct_json.specs.JsonEnvelopes.{envelope_value, estimate_field, sent_fields}
use Rattle.ct_json.specs.JsonParts.{part_fields, replies_fields}
use Rattle.ct_show.specs.Wires.{letter_at}

-- the number of a step, counted from 1, its member and its name
unfoldable pub head_fields : ℕ → Step → List Field
head_fields number step =
    (codes "number", num number) ∷ (codes "member", num (actor step)) ∷ (codes "step", string (step_entry step).name) ∷ []

-- what it names: a command, a member, or the envelope of a serial
unfoldable pub argument_fields : Rehearsal → Step → List Field
argument_fields w (Submit p c) = (codes "command", command_data c) ∷ []
argument_fields w (Choose p from) = (codes "from", num from) ∷ []
argument_fields w (Receive p k) = (codes "envelope", envelope_value w k) ∷ []
argument_fields w (Postpone p k) = (codes "envelope", envelope_value w k) ∷ []
argument_fields w (Lose p k) = (codes "envelope", envelope_value w k) ∷ []
argument_fields w (Repeat p k) = (codes "envelope", envelope_value w k) ∷ []
argument_fields w _ = []

-- ---- what it came to

-- the message that a wire is
abbrev pub message_fields : Wire (Unit {0}) → List Field
message_fields (Data m) = (codes "message", message_value m) ∷ []
message_fields _ = []

abbrev pub message_in : Option (Envelope (Unit {0})) → List Field
message_in None = []
message_in (Some e) = message_fields e.wire

-- the value that a member holds; no message where it holds none
unfoldable pub held : Rehearsal → ℕ → Value
held w p = unwrap_or (option_map (λ (e : Value × ℕ). e.0) (if_member w p (estimate_by (member_of w p)))) []

-- the messages of the batch of an instance
unfoldable pub batch : Rehearsal → ℕ → Value
batch w k = unwrap_or (option_map (λ b. b.messages) (at_serial (order (state_of w)) k)) []

unfoldable pub instance_fields : ℕ → List Field
instance_fields k = (codes "instance", num k) ∷ []

-- an instance, and messages at a key
abbrev pub valued_fields : List ℕ → ℕ → Value → List Field
valued_fields key k v = instance_fields k ++ messages_at key v

-- the instance, and the value that a member proposes for it
unfoldable pub proposal_fields : Rehearsal → ℕ → List Field
proposal_fields w p = valued_fields (codes "value") (instance_of w p) (held w p)

-- the batch of the instance that a member delivered
unfoldable pub delivered_fields : Rehearsal → ℕ → List Field
delivered_fields w p = valued_fields (codes "delivered") (instance_of w p) (batch w (instance_of w p))

-- the instance and the round that a member is in, and the coordinator
unfoldable pub round_fields : Rehearsal → ℕ → List Field
round_fields w p =
    (codes "instance", num (instance_of w p)) ∷ (codes "round", num (round_of w p)) ∷ (codes "coordinator", num (coordinator_of w p)) ∷ []

-- the same, and an estimate, where there is one
unfoldable pub estimated_fields : Rehearsal → ℕ → Option (Value × ℕ) → List Field
estimated_fields w p e = round_fields w p ++ estimate_field e

-- what a member holds is decided, where something was sent since so many envelopes were
unfoldable pub decided_fields : Rehearsal → ℕ → ℕ → List Field
decided_fields w before p = if length (state_of w).sent == before then [] else messages_at (codes "decided") (held w p)

unfoldable pub concluded_fields : Rehearsal → ℕ → ℕ → List Field
concluded_fields w before p = round_fields w p ++ (replies_fields w p ++ decided_fields w before p)

-- what the last step of a record came to, before which so many envelopes had been sent
unfoldable pub outcome_fields : Rehearsal → ℕ → Step → List Field
outcome_fields w before (Submit p c) = message_in (letter_at w (before + 1))
outcome_fields w before (Begin p) = proposal_fields w p
outcome_fields w before (Enter p) = round_fields w p
outcome_fields w before (Choose p from) = estimated_fields w p (if_member w p (heard_by (member_of w p) from))
outcome_fields w before (Adopt p) = estimated_fields w p (if_member w p (estimate_by (member_of w p)))
outcome_fields w before (Suspect p) = estimated_fields w p (if_member w p (estimate_by (member_of w p)))
outcome_fields w before (Conclude p) = concluded_fields w before p
outcome_fields w before (Deliver p) = delivered_fields w p
outcome_fields w before (Follow p) = delivered_fields w p
outcome_fields w before _ = []

-- the last step of a record, before which so many envelopes had been sent
unfoldable pub value_in : Rehearsal → ℕ → ℕ → Step → Json
value_in w before number step =
    object_of (head_fields number step ++ (argument_fields w step ++ (outcome_fields w before step ++ sent_fields w before)))

unfoldable pub step_json : Rehearsal → ℕ → ℕ → Step → List ℕ
step_json w before number step = line_text (value_in w before number step)

-- ---- a refused step

-- a step, after its number
abbrev pub left_fields : Option (ℕ × Step) → List Field
left_fields None = []
left_fields (Some t) = (codes "left", object_of ((codes "number", num t.0) ∷ (codes "entry", step_data t.1) ∷ [])) ∷ []

-- when the envelope left its line, where the refusal is that it doesn't wait
abbrev pub leaving_fields : Rehearsal → ℕ → Refusal → List Field
leaving_fields w k NotWaiting = left_fields (last_taking w.steps k (length w.steps))
leaving_fields w k _ = []

-- how many envelopes were sent
unfoldable pub missing_fields : Rehearsal → List Field
missing_fields w = (codes "envelopes", num (length (state_of w).sent)) ∷ []

-- of an envelope when it left; how many were sent, where there is none of the serial
abbrev pub letter_facts : Rehearsal → ℕ → Option (Envelope (Unit {0})) → Refusal → List Field
letter_facts w k None refusal = missing_fields w
letter_facts w k (Some e) refusal = leaving_fields w k refusal

abbrev pub serial_facts : Rehearsal → ℕ → Refusal → List Field
serial_facts w k refusal = letter_facts w k (letter_at w k) refusal

-- where a member stands
unfoldable pub member_facts : Rehearsal → ℕ → List Field
member_facts w p = instance_fields (instance_of w p) ++ part_fields w p

-- the facts behind a refusal: of the envelope that the step names; of another step its member
unfoldable pub facts_fields : Rehearsal → Step → Refusal → List Field
facts_fields w (Receive p k) refusal = serial_facts w k refusal
facts_fields w (Postpone p k) refusal = serial_facts w k refusal
facts_fields w (Lose p k) refusal = serial_facts w k refusal
facts_fields w (Repeat p k) refusal = serial_facts w k refusal
facts_fields w step refusal = member_facts w (actor step)

unfoldable pub refusal_fields : Refusal → List Field
refusal_fields refusal = (codes "refusal", string (refusal_text refusal)) ∷ []

-- a step that is refused after the record
unfoldable pub refused_value : Rehearsal → ℕ → Step → Refusal → Json
refused_value w number step refusal =
    object_of (head_fields number step ++ (argument_fields w step ++ (refusal_fields refusal ++ facts_fields w step refusal)))

unfoldable pub refused_json : Rehearsal → ℕ → Step → Refusal → List ℕ
refused_json w number step refusal = line_text (refused_value w number step refusal)
