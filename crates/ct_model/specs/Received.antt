-- What a member reads off the wires that it got.
use Rattle.std.specs.Prelude.{◌≡◌, ℕ, Bool, false, ◌&&◌, ◌==◌, nat_le, if◌then◌else◌, List, [], ◌∷◌, Option, Some, None, filter, filter_map}
use Rattle.std.specs.Prelude.{map}
use Rattle.std.specs.Prelude.{find}
use Rattle.std.specs.List.{list_any, list_all}
use Rattle.ct_names.specs.Group.{everyone}
use Rattle.ct_names.specs.Message.{Message}
use Rattle.ct_names.specs.Value.{Value, first_occurrences}
use Rattle.ct_model.specs.Wire.{Wire}
use Rattle.ct_model.specs.declared.wire.Wire.TheVariants.{Data, Est, Prop, Ack, Nack, Dec}
use Rattle.ct_model.specs.State.{State, member}

abbrev pub head : {A : Type 0} → List A → Option A
head [] = None
head (x ∷ xs) = Some x

abbrev pub message_of : {V : Type 0} → Wire V → Option Message
message_of (Data m) = Some m
message_of _ = None

-- the messages that were received, by first receipt
unfoldable pub received : {V : Type 0} → List (Wire V) → List Message
received got = first_occurrences (filter_map message_of got)

-- those of a member
unfoldable pub received_by : State → ℕ → List Message
received_by g p = received (member g p).got

abbrev pub decision_of : {V : Type 0} → ℕ → Wire V → Option V
decision_of instance (Dec k r v) = if k == instance then Some v else None
decision_of instance _ = None

-- the decision for an instance: the value of its first Dec
unfoldable pub decided : {V : Type 0} → List (Wire V) → ℕ → Option V
decided got instance = head (filter_map (decision_of instance) got)

-- p has this decision for the instance
abbrev pub HasDecided : State → ℕ → ℕ → Value → Type 0
HasDecided g p instance value = decided (member g p).got instance ≡ Some value

abbrev pub is_decision : {V : Type 0} → ℕ → ℕ → Wire V → Bool
is_decision instance round (Dec k r v) = (k == instance) && (r == round)
is_decision instance round _ = false

-- a Dec of this round was got
abbrev pub has_decision : {V : Type 0} → List (Wire V) → ℕ → ℕ → Bool
has_decision got instance round = list_any (is_decision instance round) got

-- an estimate that was heard
pub record Heard (V : Type 0) : Type 0 where
  pub member : ℕ
  pub value : V
  pub ts : ℕ

abbrev pub estimate_of : {V : Type 0} → ℕ → ℕ → Wire V → Option (Heard V)
estimate_of instance round (Est k r p v t) =
    if (k == instance) && (r == round) then Some (record { member = p; value = v; ts = t }) else None
estimate_of instance round _ = None

-- the first estimate of a member for the round
abbrev pub heard_from : {V : Type 0} → List (Wire V) → ℕ → ℕ → ℕ → Option (Heard V)
heard_from got instance round p = find (λ e. e.member == p) (filter_map (estimate_of instance round) got)

abbrev pub proposal_of : {V : Type 0} → ℕ → ℕ → Wire V → Option V
proposal_of instance round (Prop k r v) = if (k == instance) && (r == round) then Some v else None
proposal_of instance round _ = None

-- the value of the round's first Prop
unfoldable pub proposal : {V : Type 0} → List (Wire V) → ℕ → ℕ → Option V
proposal got instance round = head (filter_map (proposal_of instance round) got)

abbrev pub is_ack : {V : Type 0} → ℕ → ℕ → ℕ → Wire V → Bool
is_ack instance round p (Ack k r q) = (k == instance) && (r == round) && (q == p)
is_ack instance round p _ = false

abbrev pub is_reply : {V : Type 0} → ℕ → ℕ → ℕ → Wire V → Bool
is_reply instance round p (Ack k r q) = (k == instance) && (r == round) && (q == p)
is_reply instance round p (Nack k r q) = (k == instance) && (r == round) && (q == p)
is_reply instance round p _ = false

abbrev pub has_ack : {V : Type 0} → List (Wire V) → ℕ → ℕ → ℕ → Bool
has_ack got instance round p = list_any (is_ack instance round p) got

abbrev pub has_reply : {V : Type 0} → List (Wire V) → ℕ → ℕ → ℕ → Bool
has_reply got instance round p = list_any (is_reply instance round p) got

-- the set of the members that acked a round
abbrev pub ackers : {V : Type 0} → List (Wire V) → ℕ → ℕ → List ℕ
ackers got instance round = filter (has_ack got instance round) everyone

-- what was got for a round: the first estimate of each member, by member; the value of the first Prop; the sets of
-- the members that acked and that replied
pub record Ballots (V : Type 0) : Type 0 where
  pub estimates : List (Heard V)
  pub proposal : Option V
  pub acked : List ℕ
  pub replied : List ℕ

unfoldable pub ballots : {V : Type 0} → List (Wire V) → ℕ → ℕ → Ballots V
ballots got instance round = record {
  estimates = filter_map (heard_from got instance round) everyone;
  proposal = proposal got instance round;
  acked = ackers got instance round;
  replied = filter (has_reply got instance round) everyone;
}

-- the set of the members heard
abbrev pub heard : {V : Type 0} → Ballots V → List ℕ
heard t = map (λ e. e.member) t.estimates

abbrev pub estimate_from : {V : Type 0} → Ballots V → ℕ → Option (Heard V)
estimate_from t p = find (λ e. e.member == p) t.estimates

-- no estimate that was heard has a larger ts
abbrev pub is_largest : {V : Type 0} → Ballots V → ℕ → Bool
is_largest t ts = list_all (λ e. nat_le e.ts ts) t.estimates
