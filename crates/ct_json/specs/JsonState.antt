-- The values that the state of a record is, as JSON: of the whole, and of each member, each with a line feed behind it.
use Rattle.std.specs.Prelude.{ℕ, List, [], ◌∷◌, ◌++◌, codes, flat_map, map}
use Rattle.std.specs.Option.{option_map_or}
use Rattle.serde_json.specs.Data.{Data, string}
use Rattle.ct_names.specs.declared.refusal.Refusal.{Refusal}
use Rattle.ct_names.specs.Group.{members}
use Rattle.ct_names.specs.RefusalText.{refusal_text}
use Rattle.ct_model.specs.declared.step.Step.{Step}
use Rattle.ct_model.specs.declared.step.Step.TheVariants.{Choose}
use Rattle.ct_model.specs.Rehearsal.{Rehearsal, line_of}
use Rattle.ct_model.specs.State.{at_serial}
use Rattle.ct_records.specs.Values.{step_data}
use Rattle.ct_world.specs.Driving.{next_local}
use Rattle.ct_json.specs.Fields.{Field, array_by, array_of, lines_text, object_of}
use Rattle.ct_json.specs.Json.{counts_fields, group_fields, history_fields, standing_fields}
use Rattle.ct_json.specs.JsonEnvelopes.{envelope_by}
use Rattle.ct_json.specs.JsonParts.{part_fields}
use Rattle.ct_show.specs.Own.{enabled_steps, first_receipt, next_steps, own_steps, told_refusal}

-- an envelope that waits, and whose step sent it, of the senders by serial
abbrev pub waiting_value : Rehearsal → List ℕ → ℕ → Data
waiting_value w from k = envelope_by (at_serial from k) w k

-- those of a waiting line
unfoldable pub waiting_fields : Rehearsal → List ℕ → List ℕ → List Field
waiting_fields w from line = (codes "waiting", array_by (waiting_value w from) line) ∷ []

-- ---- what it may do

-- steps behind a key, as records have them
abbrev pub steps_at : List ℕ → List Step → List Field
steps_at key steps = (key, array_by step_data steps) ∷ []

-- a step that is refused, and why
unfoldable pub refusal_value : Step → Refusal → Data
refusal_value step refusal = object_of ((codes "entry", step_data step) ∷ (codes "refusal", string (refusal_text refusal)) ∷ [])

-- the same, where the member could take the step next
abbrev pub refusal_values : Rehearsal → Step → List Data
refusal_values w step = option_map_or (λ refusal. refusal_value step refusal ∷ []) (told_refusal w step) []

unfoldable pub refused_fields : Rehearsal → List Step → List Field
refused_fields w steps = (codes "refused", array_of (flat_map (refusal_values w) steps)) ∷ []

-- its own steps that are allowed, and those that are refused, of the choices its own estimate alone
unfoldable pub steps_fields : Rehearsal → ℕ → List Field
steps_fields w p =
    steps_at (codes "enabled") (enabled_steps w p) ++ refused_fields w (own_steps p (Choose p p ∷ []))

-- what a driver does next
unfoldable pub next_fields : Rehearsal → ℕ → List Field
next_fields w p = steps_at (codes "next") (next_steps (next_local w p) (first_receipt w p (line_of w p)))

-- what waits for it, and what it may do
unfoldable pub chances_fields : Rehearsal → List ℕ → ℕ → List Field
chances_fields w from p = waiting_fields w from (line_of w p) ++ (steps_fields w p ++ next_fields w p)

-- ---- all of it

unfoldable pub member_value : Rehearsal → List ℕ → ℕ → Data
member_value w from p = object_of (standing_fields w p ++ (part_fields w p ++ (history_fields w p ++ chances_fields w from p)))

-- what the record begins with, and what it comes to
unfoldable pub whole_value : Rehearsal → Data
whole_value w = object_of (group_fields w ++ counts_fields w)

-- one value of the whole, and one of each member, with these senders of the envelopes
unfoldable pub state_values : Rehearsal → List ℕ → List Data
state_values w from = whole_value w ∷ map (member_value w from) (members w.setting.members)

unfoldable pub state_json : Rehearsal → List ℕ → List ℕ
state_json w from = lines_text (state_values w from)
