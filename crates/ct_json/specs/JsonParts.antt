-- What a member's part in its open instance is, as keys of JSON.
use Rattle.std.specs.Prelude.{ℕ, ◌==◌, List, [], ◌∷◌, ◌++◌, codes, flat_map, Option, Some, None, option_map, if◌then◌else◌}
use Rattle.serde_json.specs.Data.{Data, string}
use Rattle.ct_names.specs.Group.{everyone, members}
use Rattle.ct_names.specs.MemberSet.{has_member}
use Rattle.ct_names.specs.Value.{Value}
use Rattle.ct_model.specs.declared.phase.Phase.{Phase}
use Rattle.ct_model.specs.Rehearsal.{Rehearsal}
use Rattle.ct_records.specs.Values.{num}
use Rattle.ct_world.specs.Standing.{estimate_by, heard_by, acked_by, replied_by}
use Rattle.ct_world.specs.World.{member_of, if_member}
use Rattle.ct_text.specs.Standing.{coordinator_of}
use Rattle.ct_text.specs.Shapes.{phase_text}
use Rattle.ct_json.specs.Fields.{Field, array_of, object_of}
use Rattle.ct_json.specs.JsonEnvelopes.{estimate_field, estimate_fields}

-- a member, where it is in a set
abbrev pub set_values : List ℕ → ℕ → List Data
set_values set p = if has_member set p then num p ∷ [] else []

-- the members of a set
unfoldable pub set_value : List ℕ → Data
set_value set = array_of (flat_map (set_values set) everyone)

-- the same at a key; nothing where there is no set
abbrev pub set_field : List ℕ → Option (List ℕ) → List Field
set_field key None = []
set_field key (Some set) = (key, set_value set) ∷ []

-- the members that acked the round, and those that replied
unfoldable pub replies_fields : Rehearsal → ℕ → List Field
replies_fields w p =
    set_field (codes "acked") (if_member w p (acked_by (member_of w p)))
    ++ set_field (codes "replied") (if_member w p (replied_by (member_of w p)))

-- an estimate that was heard of a member for the round, where there is one
unfoldable pub heard_value : ℕ → Value × ℕ → Data
heard_value from e = object_of ((codes "member", num from) ∷ estimate_fields e.0 e.1)

abbrev pub heard_if : ℕ → Option (Value × ℕ) → List Data
heard_if from None = []
heard_if from (Some e) = heard_value from e ∷ []

abbrev pub heard_values : Rehearsal → ℕ → ℕ → List Data
heard_values w p from = heard_if from (if_member w p (heard_by (member_of w p) from))

unfoldable pub heard_fields : Rehearsal → ℕ → List Field
heard_fields w p = (codes "heard", array_of (flat_map (heard_values w p) (members w.setting.members))) ∷ []

-- its estimate, and what it got for its round
unfoldable pub votes_fields : Rehearsal → ℕ → List Field
votes_fields w p = estimate_field (if_member w p (estimate_by (member_of w p))) ++ (heard_fields w p ++ replies_fields w p)

-- a round and its phase
unfoldable pub phase_fields : ℕ → Phase → List Field
phase_fields round phase = (codes "round", num round) ∷ (codes "phase", string (phase_text phase)) ∷ []

-- the coordinator of a round, which the time before the first one has not
abbrev pub led_fields : ℕ → ℕ → List Field
led_fields round p = if round == 0 then [] else (codes "coordinator", num p) ∷ []

abbrev pub place_fields : Rehearsal → ℕ → Option (ℕ × Phase) → List Field
place_fields w p None = []
place_fields w p (Some r) = phase_fields r.0 r.1 ++ (led_fields r.0 (coordinator_of w p) ++ votes_fields w p)

-- nothing where no instance is open
unfoldable pub part_fields : Rehearsal → ℕ → List Field
part_fields w p = place_fields w p (if_member w p (option_map (λ c. (c.round, c.phase)) (member_of w p).current))
