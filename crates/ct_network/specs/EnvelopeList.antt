-- What contracts see of a list of envelopes.
use Rattle.std.specs.Prelude.{ℕ, List}
use Rattle.ct_model.specs.declared.envelope.Envelope.{Envelope}

-- the envelopes, and how many more can be sent by one mail without memory
pub record EnvelopeList : Type 0 where
  pub items : List (Envelope ℕ)
  pub room : ℕ
