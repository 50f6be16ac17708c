-- What is known of messages in every run.
use Rattle.std.specs.Prelude.{◌≡◌, ℕ, ◌≤◌, true, List, Some, slice_get}
use Rattle.ct_names.specs.Group.{is_member}
use Rattle.ct_names.specs.Message.{Message}
use Rattle.ct_names.specs.Value.{has}
use Rattle.ct_model.specs.AtValue.{Wire, Envelope}
use Rattle.ct_model.specs.declared.wire.Wire.TheVariants.{Data}
use Rattle.ct_model.specs.Setting.{Setting}
use Rattle.ct_model.specs.State.{State, submissions}
use Rattle.ct_model.specs.Received.{received_by}

-- a message that the wire carries by itself is one of these
abbrev pub CarriesOne : List Message → Wire → Type 0
CarriesOne list (Data m) = has list m ≡ true
CarriesOne list _ = Unit {0}

-- origin and number name a submitted message, and only submitted messages are sent and received
pub record KnowsMessages (s : Setting) (g : State) : Type 0 where
  pub origin : (m : Message) → has g.submitted m ≡ true → is_member s.members m.origin ≡ true
  pub positive : (m : Message) → has g.submitted m ≡ true → 1 ≤ m.number
  pub numbered : (m : Message) → has g.submitted m ≡ true → m.number ≤ submissions g.submitted m.origin
  pub unique : (m other : Message) → has g.submitted m ≡ true → has g.submitted other ≡ true → m.origin ≡ other.origin →
      m.number ≡ other.number → m ≡ other
  pub sent : (i : ℕ) (e : Envelope) → slice_get g.sent i ≡ Some e → CarriesOne g.submitted e.wire
  pub received : (p : ℕ) (m : Message) → has (received_by g p) m ≡ true → has g.submitted m ≡ true
