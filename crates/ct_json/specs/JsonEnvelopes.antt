-- The values that estimates, envelopes and what a step sent are, as JSON.
use Rattle.std.specs.Prelude.{ℕ, ◌+◌, ◌-◌, List, [], ◌∷◌, ◌++◌, length, codes, Option, Some, None, unwrap_or}
use Rattle.serde_json.specs.Data.{Data as Json, string}
use Rattle.ct_names.specs.Group.{counting}
use Rattle.ct_names.specs.Value.{Value}
use Rattle.ct_model.specs.Rehearsal.{Rehearsal, state_of}
use Rattle.ct_model.specs.declared.envelope.Envelope.{Envelope}
use Rattle.ct_model.specs.declared.wire.Wire.{Wire}
use Rattle.ct_model.specs.declared.wire.Wire.TheVariants.{Data, Est, Prop, Ack, Nack, Dec}
use Rattle.ct_records.specs.Values.{num}
use Rattle.ct_json.specs.Fields.{Field, array_by, object_of}
use Rattle.ct_json.specs.Json.{message_value, messages_at}
use Rattle.ct_show.specs.Wires.{letter_at, value_at}

-- a value and its ts
unfoldable pub estimate_fields : Value → ℕ → List Field
estimate_fields v ts = messages_at (codes "value") v ++ (codes "timestamp", num ts) ∷ []

-- an estimate, where there is one
unfoldable pub estimate_field : Option (Value × ℕ) → List Field
estimate_field None = []
estimate_field (Some e) = (codes "estimate", object_of (estimate_fields e.0 e.1)) ∷ []

-- the kind of a wire of consensus, its instance and its round
unfoldable pub vote_fields : List ℕ → ℕ → ℕ → List Field
vote_fields kind k r = (codes "kind", string kind) ∷ (codes "instance", num k) ∷ (codes "round", num r) ∷ []

-- what a wire with this value says
unfoldable pub wire_fields : Wire (Unit {0}) → Value → List Field
wire_fields (Data m) v = (codes "kind", string (codes "Data")) ∷ (codes "message", message_value m) ∷ []
wire_fields (Est k r p _ ts) v = vote_fields (codes "Est") k r ++ (codes "from", num p) ∷ estimate_fields v ts
wire_fields (Prop k r _) v = vote_fields (codes "Prop") k r ++ messages_at (codes "value") v
wire_fields (Ack k r p) v = vote_fields (codes "Ack") k r ++ (codes "from", num p) ∷ []
wire_fields (Nack k r p) v = vote_fields (codes "Nack") k r ++ (codes "from", num p) ∷ []
wire_fields (Dec k r _) v = vote_fields (codes "Dec") k r ++ messages_at (codes "value") v

-- whom an envelope goes to, and what it carries; nothing where it was not sent
abbrev pub letter_fields : Option (Envelope (Unit {0})) → Value → List Field
letter_fields None v = []
letter_fields (Some e) v = (codes "to", num e.to) ∷ wire_fields e.wire v

-- the same of the envelope of a serial
unfoldable pub carried_fields : Rehearsal → ℕ → List Field
carried_fields w k = letter_fields (letter_at w k) (unwrap_or (value_at w k) [])

-- the member whose step sent it, where it is told
abbrev pub sender_fields : Option ℕ → List Field
sender_fields None = []
sender_fields (Some p) = (codes "sender", num p) ∷ []

-- a serial, its envelope, and whose step sent it
unfoldable pub envelope_by : Option ℕ → Rehearsal → ℕ → Json
envelope_by sender w k = object_of ((codes "serial", num k) ∷ (carried_fields w k ++ sender_fields sender))

abbrev pub envelope_value : Rehearsal → ℕ → Json
envelope_value w k = envelope_by None w k

-- the envelopes that were sent since so many were
unfoldable pub sent_fields : Rehearsal → ℕ → List Field
sent_fields w before = (codes "sent", array_by (envelope_value w) (counting (before + 1) (length (state_of w).sent - before))) ∷ []
