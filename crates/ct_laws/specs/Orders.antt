-- What lines say of the members of a run.
use Rattle.std.specs.Prelude.{◌≡◌, ℕ, List, ◌⊎◌, Some, slice_get}
use Rattle.ct_names.specs.Group.{IsMember}
use Rattle.ct_names.specs.Membership.{IsIn as IsAmong}
use Rattle.ct_names.specs.Message.{Message}
use Rattle.ct_model.specs.Rehearsal.{Rehearsal, state_of}
use Rattle.ct_model.specs.Safe.{delivered_by}
use Rattle.ct_order.specs.declared.act.Act.TheVariants.{Broadcast, Deliver}
use Rattle.ct_order.specs.Orders.{IsBroadcast}
use Rattle.ct_order.specs.Orders.{Said, IsIn}

-- the line broadcasts a message that was submitted, by this name
pub record Submits (w : Rehearsal) (name : Message → List ℕ) (s : Said) : Type 0 where
  pub act : s.act ≡ Broadcast
  pub message : Message
  pub is_in : IsAmong message (state_of w).submitted
  pub word : s.word ≡ name message

-- the line delivers the message at this place of what a member delivered
pub record Delivers (w : Rehearsal) (name : Message → List ℕ) (s : Said) : Type 0 where
  pub act : s.act ≡ Deliver
  pub by : ℕ
  pub member : IsMember w.setting.members by
  pub message : Message
  pub there : slice_get (delivered_by (state_of w) by) s.at ≡ Some message
  pub word : s.word ≡ name message

-- the lines tell of what the members of the run submitted and delivered, and of all that they submitted; different messages have
-- different names
pub record AreToldOf (w : Rehearsal) (name : Message → List ℕ) (said : List Said) : Type 0 where
  pub names : (m n : Message) → IsAmong m (state_of w).submitted → IsAmong n (state_of w).submitted → name m ≡ name n → m ≡ n
  pub each : (s : Said) → IsIn s said → Submits w name s ⊎ Delivers w name s
  pub all : (m : Message) → IsAmong m (state_of w).submitted → IsBroadcast said (name m)
