-- The same wires, ballots, standings and turns with another type of values.
use Rattle.std.specs.Prelude.{map, option_map}
use Rattle.ct_model.specs.Wire.{Wire, Envelope, Mail}
use Rattle.ct_model.specs.declared.wire.Wire.TheVariants.{Data, Est, Prop, Ack, Nack, Dec}
use Rattle.ct_model.specs.declared.mail.Mail.TheVariants.{Nobody, One, All}
use Rattle.ct_model.specs.State.{Standing, Turn}
use Rattle.ct_model.specs.Received.{Heard, Ballots}

abbrev pub wire_map : {V U : Type 0} → (V → U) → Wire V → Wire U
wire_map f (Data m) = Data m
wire_map f (Est k r p v t) = Est k r p (f v) t
wire_map f (Prop k r v) = Prop k r (f v)
wire_map f (Ack k r p) = Ack k r p
wire_map f (Nack k r p) = Nack k r p
wire_map f (Dec k r v) = Dec k r (f v)

abbrev pub envelope_map : {V U : Type 0} → (V → U) → Envelope V → Envelope U
envelope_map f e = record { to = e.to; wire = wire_map f e.wire }

-- the envelope with nothing in place of its value
abbrev pub without_value : {V : Type 0} → Envelope V → Envelope (Unit {0})
without_value e = envelope_map (λ _. tt) e

abbrev pub mail_map : {V U : Type 0} → (V → U) → Mail V → Mail U
mail_map f Nobody = Nobody
mail_map f (One to w) = One to (wire_map f w)
mail_map f (All w) = All (wire_map f w)

abbrev pub heard_map : {V U : Type 0} → (V → U) → Heard V → Heard U
heard_map f e = record { member = e.member; value = f e.value; ts = e.ts }

abbrev pub ballots_map : {V U : Type 0} → (V → U) → Ballots V → Ballots U
ballots_map f t = record {
  estimates = map (heard_map f) t.estimates;
  proposal = option_map f t.proposal;
  acked = t.acked;
  replied = t.replied;
}

abbrev pub standing_map : {V U : Type 0} → (V → U) → Standing V → Standing U
standing_map f c = record { round = c.round; phase = c.phase; estimate = f c.estimate; ts = c.ts }

abbrev pub turn_map : {V U : Type 0} → (V → U) → Turn V → Turn U
turn_map f t = record { after = standing_map f t.after; mail = mail_map f t.mail }
