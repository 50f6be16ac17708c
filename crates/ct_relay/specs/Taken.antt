-- What a member has received, each thing taken at its first receipt, and what it does at a receipt.
use Rattle.std.specs.Prelude.{ℕ, Bool, false, not, ◌&&◌, ◌==◌, if◌then◌else◌, List, [], ◌∷◌, ◌++◌}
use Rattle.std.specs.List.{list_any}
use Rattle.ct_relay.specs.declared.action.Action.{Action}
use Rattle.ct_relay.specs.declared.relay_id.RelayId.{RelayId}
use Rattle.ct_relay.specs.declared.relay_id.RelayId.TheVariants.{Data, Dec}

-- the member, what it took in the order of first receipt, and whether one more can be taken
pub record Taken : Type 0 where
  pub me : ℕ
  pub ids : List RelayId
  pub has_room : Bool

-- the two name one message, or one decision
abbrev pub is_id : RelayId → RelayId → Bool
is_id (Data origin number) (Data other n) = (origin == other) && (number == n)
is_id (Data origin number) (Dec k r) = false
is_id (Dec instance round) (Data other n) = false
is_id (Dec instance round) (Dec k r) = (instance == k) && (round == r)

-- it was not taken yet
abbrev pub is_first : List RelayId → RelayId → Bool
is_first ids id = not (list_any (is_id id) ids)

-- the list, with it at the end where it was not taken yet
abbrev pub with_id : List RelayId → RelayId → List RelayId
with_id ids id = if is_first ids id then (ids ++ id ∷ []) else ids

-- what the member does at the receipt: it delivers what it gets for the first time, and relays it if another sent it
abbrev pub action_of : Taken → RelayId → ℕ → Action
action_of taken id sender =
    record { relay = is_first taken.ids id && not (sender == taken.me); deliver = is_first taken.ids id }
