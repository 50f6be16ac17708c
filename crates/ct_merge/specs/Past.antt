-- What a member has behind it.
use Rattle.std.specs.Prelude.{◌≡◌, ◌≢◌, ℕ, ◌+◌, ◌*◌, ◌≤◌, Some}
use Rattle.ct_names.specs.Group.{coordinator}
use Rattle.ct_names.specs.Membership.{IsIn}
use Rattle.ct_names.specs.Message.{Message}
use Rattle.ct_names.specs.Value.{Value}
use Rattle.ct_model.specs.AtValue.{Standing}
use Rattle.ct_model.specs.State.{Member}
use Rattle.ct_model.specs.declared.phase.Phase.{Phase}
use Rattle.ct_model.specs.declared.phase.Phase.TheVariants.{Rest, Gather, Wait, Tally}
use Rattle.ct_model.specs.declared.wire.Wire.TheVariants as wire
use Rattle.ct_grammar.specs.declared.carried.Carried.{Carried}
use Rattle.ct_grammar.specs.declared.carried.Carried.TheVariants.{Data, Est, Prop, Ack, Nack, Dec}

-- how far the phase is in its round
abbrev pub rank : Phase → ℕ
rank Gather = 0
rank Wait = 1
rank Tally = 2
rank Rest = 3

-- how far a standing is in its instance
abbrev pub stage : Standing → ℕ
stage c = c.round * 4 + rank c.phase

-- the member is past the instance, or in it, and as far as this while that is open
pub record HasPassed (m : Member) (k far : ℕ) : Type 0 where
  pub instance : k ≤ m.last
  pub stage : k ≡ m.last → (c : Standing) → m.current ≡ Some c → far ≤ stage c

-- it received a message of this origin and number
pub record HasMessage (m : Member) (o n : ℕ) : Type 0 where
  pub message : Message
  pub is_in : IsIn (wire.Data message) m.got
  pub origin : message.origin ≡ o
  pub number : message.number ≡ n

-- it received a decision of this round
pub record HasDecision (m : Member) (k r : ℕ) : Type 0 where
  pub value : Value
  pub is_in : IsIn (wire.Dec k r value) m.got

-- p, this member of a group of n that submitted so many messages, has sent this or can't send it any more
abbrev pub IsPast : ℕ → ℕ → Member → ℕ → Carried → Type 0
IsPast n p m count (Data o i) = (o ≡ p → i ≤ count) × (o ≢ p → HasMessage m o i)
IsPast n p m count (Est k r) = HasPassed m k (r * 4)
IsPast n p m count (Prop k r) = HasPassed m k (r * 4 + 1)
IsPast n p m count (Ack k r) = HasPassed m k (r * 4 + 2)
IsPast n p m count (Nack k r) = HasPassed m k (r * 4 + 2)
IsPast n p m count (Dec k r) =
    (coordinator n r ≡ p → HasPassed m k (r * 4 + 3)) × (coordinator n r ≢ p → HasDecision m k r)
