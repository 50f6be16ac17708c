-- Values by their numbers: what is kept with numbers stands for what has the values themselves. Each side is read with
-- optional values, so that a number stands for a value only where the list has it.
use Rattle.std.specs.Prelude.{◌≡◌, ℕ, List, Option, Some, option_map, map, slice_get}
use Rattle.ct_names.specs.Value.{Value}
use Rattle.ct_model.specs.declared.wire.Wire.{Wire as AnyWire}
use Rattle.ct_model.specs.declared.envelope.Envelope.{Envelope as AnyEnvelope}
use Rattle.ct_model.specs.declared.mail.Mail.{Mail as AnyMail}
use Rattle.ct_model.specs.State.{Standing as AnyStanding}
use Rattle.ct_model.specs.Received.{Ballots}
use Rattle.ct_model.specs.AtValue.{Wire, Envelope, Mail, Standing}
use Rattle.ct_model.specs.Mapped.{wire_map, envelope_map, mail_map, standing_map, ballots_map}

-- the value of a number
abbrev pub value_at : List Value → ℕ → Option Value
value_at values id = slice_get values id

abbrev pub NamesWire : List Value → AnyWire ℕ → Wire → Type 0
NamesWire values x w = wire_map (value_at values) x ≡ wire_map Some w

abbrev pub NamesMail : List Value → AnyMail ℕ → Mail → Type 0
NamesMail values x mail = mail_map (value_at values) x ≡ mail_map Some mail

abbrev pub NamesEnvelope : List Value → AnyEnvelope ℕ → Envelope → Type 0
NamesEnvelope values x e = envelope_map (value_at values) x ≡ envelope_map Some e

abbrev pub NamesEnvelopes : List Value → List (AnyEnvelope ℕ) → List Envelope → Type 0
NamesEnvelopes values xs es = map (envelope_map (value_at values)) xs ≡ map (envelope_map Some) es

abbrev pub NamesStanding : List Value → Option (AnyStanding ℕ) → Option Standing → Type 0
NamesStanding values x c = option_map (standing_map (value_at values)) x ≡ option_map (standing_map Some) c

abbrev pub NamesBallots : List Value → Ballots ℕ → Ballots Value → Type 0
NamesBallots values x t = ballots_map (value_at values) x ≡ ballots_map Some t

abbrev pub NamesDecision : List Value → Option ℕ → Option Value → Type 0
NamesDecision values x v = option_map (value_at values) x ≡ option_map Some v
