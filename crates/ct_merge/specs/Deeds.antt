-- What the own steps of members come to.
use Rattle.std.specs.Prelude.{◌≡◌, ℕ, Option, Some, slice_get}
use Rattle.ct_model.specs.AtValue.{Envelope, Wire}
use Rattle.ct_model.specs.Next.{Outcome}
use Rattle.ct_model.specs.Rehearsal.{Rehearsal, state_of}
use Rattle.ct_model.specs.Senders.{senders}
use Rattle.ct_model.specs.State.{at_serial}
use Rattle.ct_model.specs.Wire.{envelopes}
use Rattle.ct_merge.specs.Local.{IsLike, outcome_of}
use Rattle.ct_merge.specs.Logs.{Moment, own}

-- the outcome of the step where it stands
abbrev pub deed_of : Moment → Option Outcome
deed_of m = outcome_of m.before.setting (state_of m.before) m.step

-- the envelope that brings q the wire
abbrev pub letter : ℕ → Wire → Envelope
letter q x = record { to = q; wire = x }

-- the step sends q the wire
pub record Sends (m : Moment) (q : ℕ) (x : Wire) : Type 0 where
  pub outcome : Outcome
  pub is : deed_of m ≡ Some outcome
  pub place : ℕ
  pub there : slice_get (envelopes m.before.setting.members outcome.mail) place ≡ Some (letter q x)

-- the serial is that of an envelope that brings q the wire, which a step of p sent
pub record IsFrom (w : Rehearsal) (p q : ℕ) (x : Wire) (k : ℕ) : Type 0 where
  pub there : at_serial (state_of w).sent k ≡ Some (letter q x)
  pub sender : at_serial (senders w.setting w.steps) k ≡ Some p

-- an own step of p sends q the wire
pub record IsPosted (w : Rehearsal) (p q : ℕ) (x : Wire) : Type 0 where
  pub place : ℕ
  pub moment : Moment
  pub there : slice_get (own w p) place ≡ Some moment
  pub sends : Sends moment q x

-- both steps find p alike, and have the same outcome
pub record IsSame (p : ℕ) (m n : Moment) : Type 0 where
  pub like : IsLike p (state_of m.before) (state_of n.before)
  pub outcome : deed_of m ≡ deed_of n
