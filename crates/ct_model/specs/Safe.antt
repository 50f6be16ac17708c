-- What is safe in every state of a run.
use Rattle.std.specs.Prelude.{◌≡◌, ℕ, ◌≤◌, List, length}
use Rattle.ct_names.specs.Batch.{Batch}
use Rattle.ct_names.specs.Group.{IsMember, IsMajority}
use Rattle.ct_names.specs.Message.{Message}
use Rattle.ct_names.specs.Membership.{IsIn, IsWithoutRepeats}
use Rattle.ct_names.specs.Prefix.{OneBegins}
use Rattle.ct_names.specs.Value.{Value}
use Rattle.ct_model.specs.Setting.{Setting}
use Rattle.ct_model.specs.declared.wire.Wire.TheVariants.{Prop}
use Rattle.ct_model.specs.State.{State, member, delivered, wires}
use Rattle.ct_model.specs.Received.{HasDecided, ackers}

-- the value was proposed in this round, and a majority acked it
pub record IsLocked (s : Setting) (g : State) (instance round : ℕ) (value : Value) : Type 0 where
  pub proposed : IsIn (Prop instance round value) (wires g)
  pub acked : IsMajority s.members (ackers (wires g) instance round)

-- some member of the group proposed the value for the instance
pub record IsProposed (s : Setting) (g : State) (instance : ℕ) (value : Value) : Type 0 where
  pub by : ℕ
  pub member : IsMember s.members by
  pub is_in : IsIn (record { member = by; instance = instance; value = value }) g.proposals

abbrev pub delivered_by : State → ℕ → List Message
delivered_by g p = delivered (member g p)

-- two decisions of one instance are equal, and a member proposed a decision for its instance
pub record IsAgreed (s : Setting) (g : State) : Type 0 where
  pub agreed : (p q instance : ℕ) (v w : Value) → IsMember s.members p → IsMember s.members q → HasDecided g p instance v →
      HasDecided g q instance w → v ≡ w
  pub proposed : (p instance : ℕ) (v : Value) → IsMember s.members p → HasDecided g p instance v → IsProposed s g instance v

-- what is safe: decisions are agreed on and were proposed; of two delivered sequences one begins the other, also batch
-- by batch, no message stands twice in one, and each was submitted; no batch has more messages than the bound
pub record IsSafe (s : Setting) (g : State) : Type 0 where
  pub decisions : IsAgreed s g
  pub one_order : (p q : ℕ) → IsMember s.members p → IsMember s.members q → OneBegins (delivered_by g p) (delivered_by g q)
  pub batches : (p q : ℕ) → IsMember s.members p → IsMember s.members q → OneBegins (member g p).batches (member g q).batches
  pub once : (p : ℕ) → IsMember s.members p → IsWithoutRepeats (delivered_by g p)
  pub submitted : (p : ℕ) (m : Message) → IsMember s.members p → IsIn m (delivered_by g p) → IsIn m g.submitted
  pub bounded : (p : ℕ) (b : Batch) → IsMember s.members p → IsIn b (member g p).batches → length b.messages ≤ s.bound
