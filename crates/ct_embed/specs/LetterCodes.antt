-- Envelopes by their numbers, as bindings/ct.h has them.
use Rattle.std.specs.Prelude.{ℕ, Option, Some, None}
use Rattle.ct_model.specs.declared.envelope.Envelope.{Envelope}
use Rattle.ct_model.specs.declared.wire.Wire.{Wire}
use Rattle.ct_model.specs.declared.wire.Wire.TheVariants.{Data, Est, Prop, Ack, Nack, Dec}
use Rattle.ct_embed.specs.declared.letter_code.LetterCode.{LetterCode}
use Rattle.ct_embed.specs.MessageCodes.{message_code, no_message}

-- the numbers of an envelope of consensus: its kind, its receiver, instance, round, sender and ts
abbrev pub vote_code : ℕ → ℕ → ℕ → ℕ → ℕ → ℕ → LetterCode
vote_code kind to instance round from ts = record {
  message = no_message;
  instance = instance;
  round = round;
  ts = ts;
  kind = kind;
  to = to;
  from = from;
}

-- the numbers of an envelope to this member
abbrev pub wire_code : ℕ → Wire (Unit {0}) → LetterCode
wire_code to (Data m) = record (vote_code 1 to 0 0 0 0) { message = message_code m }
wire_code to (Est k r p v t) = vote_code 2 to k r p t
wire_code to (Prop k r v) = vote_code 3 to k r 0 0
wire_code to (Ack k r p) = vote_code 4 to k r p 0
wire_code to (Nack k r p) = vote_code 5 to k r p 0
wire_code to (Dec k r v) = vote_code 6 to k r 0 0

abbrev pub letter_code : Option (Envelope (Unit {0})) → LetterCode
letter_code None = vote_code 0 0 0 0 0 0
letter_code (Some e) = wire_code e.to e.wire
