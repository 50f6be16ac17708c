-- The state of the whole group.
use Rattle.std.specs.Prelude.{ℕ, suc, zero, ◌-◌, ◌==◌, Bool, false, List, [], Option, None, length, filter, flat_map, map, replicate}
use Rattle.std.specs.Prelude.{slice_get, slice_index_or}
use Rattle.ct_names.specs.Batch.{Batch}
use Rattle.ct_names.specs.Message.{Message}
use Rattle.ct_names.specs.Value.{Value}
use Rattle.ct_model.specs.declared.phase.Phase.{Phase}
use Rattle.ct_model.specs.Setting.{Setting}
use Rattle.ct_model.specs.Wire.{Wire, Envelope, Mail}

-- where a member stands in the instance that it has open
pub record Standing (V : Type 0) : Type 0 where
  pub round : ℕ
  pub phase : Phase
  pub estimate : V
  pub ts : ℕ

-- what a step of a round leaves, and what it sends
pub record Turn (V : Type 0) : Type 0 where
  pub after : Standing V
  pub mail : Mail V

-- a member: its crash mark, the wires that it got, in order, the last instance that it began,
-- where it stands in that instance while it is open, and what it delivered
pub record Member : Type 0 where
  pub crashed : Bool
  pub got : List (Wire Value)
  pub last : ℕ
  pub current : Option (Standing Value)
  pub batches : List Batch

-- a value that a member proposed for an instance
pub record Proposal : Type 0 where
  pub member : ℕ
  pub instance : ℕ
  pub value : Value

-- every envelope ever sent, the messages submitted, the values proposed, each in order,
-- and the members in theirs
pub record State : Type 0 where
  pub sent : List (Envelope Value)
  pub submitted : List Message
  pub proposals : List Proposal
  pub members : List Member

abbrev pub new_member : Member
new_member = record { crashed = false; got = []; last = 0; current = None; batches = [] }

unfoldable pub first_state : Setting → State
first_state s = record { sent = []; submitted = []; proposals = []; members = replicate s.members new_member }

unfoldable pub member : State → ℕ → Member
member g p = slice_index_or g.members (p - 1) new_member

-- the wires that were sent, by serial
abbrev pub wires : State → List (Wire Value)
wires g = map (λ e. e.wire) g.sent

-- p has its crash mark
abbrev pub is_crashed : State → ℕ → Bool
is_crashed g p = (member g p).crashed

-- how many of the messages have this origin
unfoldable pub submissions : List Message → ℕ → ℕ
submissions list p = length (filter (λ m. m.origin == p) list)

-- the messages that a member delivered, in order
abbrev pub joined : List Batch → List Message
joined batches = flat_map (λ b. b.messages) batches

abbrev pub delivered : Member → List Message
delivered m = joined m.batches

-- what stands in the list at a serial; the first one's is 1
abbrev pub at_serial : {A : Type 0} → List A → ℕ → Option A
at_serial list zero = None
at_serial list (suc before) = slice_get list before
