-- How wires are shown, and what a step sent.
use Rattle.std.specs.Prelude.{ℕ, ◌+◌, ◌==◌, List, [], ◌∷◌, length}
use Rattle.std.specs.Prelude.{codes, decimal, Option, Some, None, option_map, option_and_then, unwrap_or}
use Rattle.std.specs.Prelude.{if◌then◌else◌}
use Rattle.std.specs.List.{concat}
use Rattle.ct_names.specs.MessageText.{message_text}
use Rattle.ct_names.specs.Value.{Value}
use Rattle.ct_model.specs.Mapped.{without_value}
use Rattle.ct_model.specs.Rehearsal.{Rehearsal, state_of}
use Rattle.ct_model.specs.State.{at_serial}
use Rattle.ct_model.specs.Wire.{value_of}
use Rattle.ct_model.specs.declared.envelope.Envelope.{Envelope}
use Rattle.ct_model.specs.declared.wire.Wire.{Wire}
use Rattle.ct_model.specs.declared.wire.Wire.TheVariants.{Data, Est, Prop, Ack, Nack, Dec}
use Rattle.ct_text.specs.Shapes.{set_text}

-- the envelope of a serial, without its value, and the value that it carries
abbrev pub letter_at : Rehearsal → ℕ → Option (Envelope (Unit {0}))
letter_at w k = option_map without_value (at_serial (state_of w).sent k)

abbrev pub value_at : Rehearsal → ℕ → Option Value
value_at w k = option_and_then (λ e. value_of e.wire) (at_serial (state_of w).sent k)

-- an instance and a round of it
unfoldable pub round_text : ℕ → ℕ → List ℕ
round_text k r = concat (decimal k ∷ codes "/" ∷ decimal r ∷ [])

-- a wire with this value
unfoldable pub wire_text : Wire (Unit {0}) → Value → List ℕ
wire_text (Data m) v = concat (codes "data " ∷ message_text m ∷ [])
wire_text (Est k r p _ t) v =
    concat (codes "est " ∷ round_text k r ∷ codes " from " ∷ decimal p ∷ codes " " ∷ set_text v ∷ codes " ts " ∷ decimal t ∷ [])
wire_text (Prop k r _) v = concat (codes "prop " ∷ round_text k r ∷ codes " " ∷ set_text v ∷ [])
wire_text (Ack k r p) v = concat (codes "ack " ∷ round_text k r ∷ codes " from " ∷ decimal p ∷ [])
wire_text (Nack k r p) v = concat (codes "nack " ∷ round_text k r ∷ codes " from " ∷ decimal p ∷ [])
wire_text (Dec k r _) v = concat (codes "dec " ∷ round_text k r ∷ codes " " ∷ set_text v ∷ [])

-- what such an envelope carries
abbrev pub letter_text : Option (Envelope (Unit {0})) → Value → List ℕ
letter_text None v = codes "not sent"
letter_text (Some e) v = wire_text e.wire v

-- what the envelope of a serial carries
unfoldable pub carried_text : Rehearsal → ℕ → List ℕ
carried_text w k = letter_text (letter_at w k) (unwrap_or (value_at w k) [])

-- a serial and what its envelope carries
unfoldable pub serial_text : Rehearsal → ℕ → List ℕ
serial_text w k = concat (codes "#" ∷ decimal k ∷ codes " " ∷ carried_text w k ∷ [])

-- whom one envelope goes to
abbrev pub to_text : Option (Envelope (Unit {0})) → List ℕ
to_text None = []
to_text (Some e) = concat (codes " to " ∷ decimal e.to ∷ [])

-- one envelope, which was sent alone
unfoldable pub one_sent_text : Rehearsal → ℕ → List ℕ
one_sent_text w k = concat (codes "  -> " ∷ serial_text w k ∷ to_text (letter_at w k) ∷ [])

-- several, from one serial to another
unfoldable pub all_sent_text : Rehearsal → ℕ → ℕ → List ℕ
all_sent_text w first last =
    concat (codes "  -> #" ∷ decimal first ∷ codes ".." ∷ decimal last ∷ codes " " ∷ carried_text w first ∷ codes " to all" ∷ [])

-- what was sent since this many envelopes were: nothing, one envelope, or the same wire to all
unfoldable pub sent_text : Rehearsal → ℕ → List ℕ
sent_text w before =
    let now = length (state_of w).sent in
    if now == before then [] else (if now == before + 1 then one_sent_text w now else all_sent_text w (before + 1) now)
