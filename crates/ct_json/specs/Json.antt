-- The value that the report of a record is, as JSON: an object, and a line feed behind it.
use Rattle.std.specs.Prelude.{ℕ, List, [], ◌∷◌, ◌++◌, length, codes, not, is_some, flat_map, unwrap_or, slice_index}
use Rattle.std.specs.Option.{option_map_or}
use Rattle.serde_json.specs.Data.{Data, boolean, string}
use Rattle.ct_names.specs.declared.limit.TheConstants.{REGISTERS}
use Rattle.ct_names.specs.Group.{counting, majority, members}
use Rattle.ct_names.specs.Message.{Message}
use Rattle.ct_names.specs.MessageText.{message_text}
use Rattle.ct_names.specs.Value.{Value}
use Rattle.ct_model.specs.AtValue.{Wire}
use Rattle.ct_model.specs.Cause.{order}
use Rattle.ct_model.specs.Received.{decided, received_by}
use Rattle.ct_model.specs.Rehearsal.{Rehearsal, state_of}
use Rattle.ct_model.specs.Safe.{delivered_by}
use Rattle.ct_model.specs.State.{is_crashed, member}
use Rattle.ct_records.specs.Values.{num}
use Rattle.ct_table.specs.Table.{table}
use Rattle.ct_world.specs.Decided.{last_decided}
use Rattle.ct_json.specs.Fields.{Field, array_by, array_of, line_text, object_of}

-- a message, by its name
abbrev pub message_value : Message → Data
message_value m = string (message_text m)

unfoldable pub messages_value : List Message → Data
messages_value messages = array_by message_value messages

-- the same at a key
unfoldable pub messages_at : List ℕ → List Message → List Field
messages_at key messages = (key, messages_value messages) ∷ []

-- an instance and what was decided for it
unfoldable pub decision_value : ℕ → Value → Data
decision_value k value = object_of ((codes "instance", num k) ∷ (codes "messages", messages_value value) ∷ [])

-- the decision for an instance, where there is one
abbrev pub decision_values : List Wire → ℕ → List Data
decision_values got k = option_map_or (λ value. decision_value k value ∷ []) (decided got k) []

-- each decision among these wires, by instance
unfoldable pub decisions_fields : List Wire → List Field
decisions_fields got =
    (codes "decided", array_of (flat_map (decision_values got) (counting 1 (unwrap_or (last_decided got) 0)))) ∷ []

-- what the record begins with
unfoldable pub group_fields : Rehearsal → List Field
group_fields w =
    (codes "group", num w.setting.members) ∷ (codes "majority", num (majority w.setting.members)) ∷ (codes "cells", num w.cells)
    ∷ (codes "batch", num w.setting.bound) ∷ []

-- how many steps it has, how many envelopes these sent and how many batches they posted
unfoldable pub counts_fields : Rehearsal → List Field
counts_fields w =
    (codes "steps", num (length w.steps)) ∷ (codes "sent", num (length (state_of w).sent))
    ∷ (codes "posted", num (length (order (state_of w)))) ∷ []

-- the value of a register
abbrev pub register_value : List ℕ → ℕ → Data
register_value values register = num (slice_index values register)

-- those of all registers of a table
unfoldable pub table_fields : List ℕ → List Field
table_fields values = (codes "table", array_by (register_value values) (counting 0 REGISTERS)) ∷ []

-- whether a member is up, the last instance that it began, and whether that is open
unfoldable pub standing_fields : Rehearsal → ℕ → List Field
standing_fields w p =
    (codes "member", num p) ∷ (codes "up", boolean (not (is_crashed (state_of w) p)))
    ∷ (codes "instance", num (member (state_of w) p).last) ∷ (codes "open", boolean (is_some (member (state_of w) p).current)) ∷ []

-- what it received, which decisions it got, what it delivered, and the registers of the table that this makes
unfoldable pub history_fields : Rehearsal → ℕ → List Field
history_fields w p =
    messages_at (codes "received") (received_by (state_of w) p)
    ++ (decisions_fields (member (state_of w) p).got
    ++ (messages_at (codes "delivered") (delivered_by (state_of w) p) ++ table_fields (table (delivered_by (state_of w) p))))

unfoldable pub member_value : Rehearsal → ℕ → Data
member_value w p = object_of (standing_fields w p ++ history_fields w p)

unfoldable pub members_fields : Rehearsal → List Field
members_fields w = (codes "members", array_by (member_value w) (members w.setting.members)) ∷ []

unfoldable pub report_value : Rehearsal → Data
report_value w = object_of (group_fields w ++ (counts_fields w ++ members_fields w))

unfoldable pub report_json : Rehearsal → List ℕ
report_json w = line_text (report_value w)
