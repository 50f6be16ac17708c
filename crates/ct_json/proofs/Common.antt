-- The names that most proofs cite, passed on from one place. Declares nothing.
pub use Rattle.std.proofs.Common.{Bool, Err, List, None, Ok, OnOk, Option, Result, Some, [], add-one, ap, append-nil, append_assoc, ap₂}
pub use Rattle.std.proofs.Common.{arith, codes, cond, decimal, drop, false, flat_map, get_or, if◌then◌else◌, is_ok, length, lt-ltb, map}
pub use Rattle.std.proofs.Common.{nat_lt, refl, slice_index, string_bytes, subst, suc, sym, true, unwrap_or, zero, ℕ, ◌%◌, ◌++◌, ◌+◌, ◌-◌}
pub use Rattle.std.proofs.Common.{◌/◌, ◌<◌, ◌==◌, ◌∙◌, ◌∷◌, ◌≡◌, ◌≤◌}
pub use Rattle.std.proofs.lemmas.List.{drop_all}
pub use Rattle.ct_json.specs.Fields.{Field, IsPlain, array_by, array_of, fields_text, items_of, line_text, lines_text, members_of}
pub use Rattle.ct_json.specs.Fields.{object_of, opened}
pub use Rattle.ct_json.specs.Json.{decision_values, decisions_fields, member_value, members_fields, message_value, messages_at}
pub use Rattle.ct_json.specs.Json.{messages_value, register_value, table_fields}
pub use Rattle.ct_json.specs.JsonEnvelopes.{carried_fields, envelope_by, envelope_value, estimate_fields, sender_fields, sent_fields}
pub use Rattle.ct_json.specs.JsonParts.{heard_fields, heard_if, heard_values, set_value, set_values}
pub use Rattle.ct_json.specs.JsonState.{refusal_value, refusal_values, refused_fields}
pub use Rattle.ct_json.specs.JsonState.{waiting_fields, waiting_value}
pub use Rattle.ct_model.specs.Rehearsal.{Rehearsal, state_of}
pub use Rattle.ct_model.specs.StepText.{step_entry}
pub use Rattle.ct_model.specs.declared.step.Step.{Step}
pub use Rattle.ct_model.specs.declared.step.Step.TheVariants.{Submit, Suspect}
pub use Rattle.ct_names.specs.Group.{counting, members}
pub use Rattle.ct_names.specs.MessageText.{message_text}
pub use Rattle.ct_names.specs.RefusalText.{refusal_text}
pub use Rattle.ct_names.specs.declared.command.Command.TheVariants.{Set}
pub use Rattle.ct_records.specs.Values.{command_data, num, step_data}
pub use Rattle.ct_text.proofs.Pushed.{pushed_last, pushed_more, pushed_str, pushed_value}
pub use Rattle.ct_text.specs.Shapes.{phase_text}
pub use Rattle.json.specs.Print.{escape, quoted}
pub use Rattle.serde_json.specs.Data.{Data}
pub use Rattle.serde_json.specs.Written.{comma_if, compact_text, items_text, members_text}
