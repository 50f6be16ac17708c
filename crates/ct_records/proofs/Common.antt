-- The names that most proofs cite, passed on from one place. Declares nothing.
pub use Rattle.std.proofs.Common.{All, Bool, Err, IfErr, IfOk, IfSome, IsErrAnd, IsOkAnd, List, None, Ok, OnOk, Option, Result, Some}
pub use Rattle.std.proofs.Common.{String, [], add-one, ap, append-nil, append_assoc, ap₂, arith, codes, cond, decimal, drop, false, get_or}
pub use Rattle.std.proofs.Common.{if◌then◌else◌, inl, inr, le-leb, le-ltb, length, length-append, lt-ltb, map, nat_eq, nat_lt, ne_eqb, not}
pub use Rattle.std.proofs.Common.{option_and_then, option_map, refl, rules, string_bytes, subst, suc, sym, take, true, vec_len, zero, ℕ}
pub use Rattle.std.proofs.Common.{◌%◌, ◌*◌, ◌++◌, ◌+◌, ◌-◌, ◌/◌, ◌<◌, ◌==◌, ◌^◌, ◌∙◌, ◌∷◌, ◌≡◌, ◌≢◌, ◌≤◌, ◌⊎◌}
pub use Rattle.std.proofs.Math.Seq.{drop-append-add, drop-cons, take-append-le, take-append_seam}
pub use Rattle.std.proofs.lemmas.Bool.{and_parts, cases_lt, eqb-true, leb-true, ltb-true}
pub use Rattle.std.proofs.lemmas.Bool.Decides.{nat_tests}
pub use Rattle.std.proofs.lemmas.Fmt.{IsAscii-decimal, decimal_digit, decimal_is_IsNumeral, decimal_step, length-decimal-le}
pub use Rattle.std.proofs.lemmas.List.{drop_all, get_or-map, length-drop, length-map, length-take, take-append-drop, take_all, take_more}
pub use Rattle.std.proofs.lemmas.List.Elements.{All-append, All-cons, All-head, All-nil, All-tail}
pub use Rattle.std.proofs.lemmas.Str.{IsUtf8-append, IsUtf8-from_ascii, IsUtf8-from_is_utf8, IsUtf8-nil, IsUtf8-past_char, encode_ascii}
pub use Rattle.std.proofs.lemmas.Str.{is_utf8-from_IsUtf8}
pub use Rattle.std.specs.Io.KnownBytes.{Appends, Consumes, IsAtEnd}
pub use Rattle.std.specs.List.{concat}
pub use Rattle.std.specs.Str.{IsUtf8, bytes_eq, is_utf8}
pub use Rattle.ct_model.specs.Rehearsal.{Rehearsal, extended}
pub use Rattle.ct_model.specs.StepText.{Number, Rest, amount, command, command_entry, entry_text, nothing, rest_texts, step_entry}
pub use Rattle.ct_model.specs.StepText.{step_text}
pub use Rattle.ct_model.specs.declared.step.Step.{Step}
pub use Rattle.ct_model.specs.declared.step.Step.TheVariants.{Follow, Submit}
pub use Rattle.ct_names.specs.declared.command.Command.{Command}
pub use Rattle.ct_names.specs.declared.limit.TheConstants.{MAX_BOUND, MAX_STEPS}
pub use Rattle.ct_records.specs.Fits.{AllFit, CommandFits, IsStorable, RestFits, StepFits}
pub use Rattle.ct_records.specs.Front.{Advances, AreDone, AreKept, AreTaken, Goes, HasDone, IsAfter, IsBegun, IsEnd, IsEnough, IsReadAs}
pub use Rattle.ct_records.specs.Front.{IsReadOf, IsSeen, IsStaged, IsTextOf, IsWholeOf, SaysSame, Taken}
pub use Rattle.ct_records.specs.Lexemes.{Begins, IsPlain, comma_if, command_lexemes, entry_lexemes, lexemes, number_lexeme, pair_lexemes}
pub use Rattle.ct_records.specs.Lexemes.{rest_lexemes, step_lexemes, steps_lexemes}
pub use Rattle.ct_records.specs.Members.{Adds, AreAll, IsBound, IsFound, IsHead, IsPast, SoFar, Takes, members_from, members_with}
pub use Rattle.ct_records.specs.Outcome.{IsOutcome}
pub use Rattle.ct_records.specs.ProgramFault.{IsOfReplayFault}
pub use Rattle.ct_records.specs.Reading.{IsAscii, IsBehindWhite, IsValid, IsWhite, Reads, ReadsEntry, ReadsKey, ReadsMark, ReadsName}
pub use Rattle.ct_records.specs.Reading.{ReadsNumber, ReadsStep, ReadsTail, Says, next_text}
pub use Rattle.ct_records.specs.Replay.{IsFaultIn, IsRefused, IsReplayed, IsReportOf}
pub use Rattle.ct_records.specs.Report.{first_members, report_text}
pub use Rattle.ct_records.specs.Script.{command_parts, count_of, data_of, list_of, max_len, of_value, script, since, step_in, step_parts}
pub use Rattle.ct_records.specs.Script.{steps_of, ◌>>=◌}
pub use Rattle.ct_records.specs.Text.{steps_text}
pub use Rattle.ct_records.specs.Values.{command_data, entry_data, num, record_data, rest_data, step_data, steps_data}
pub use Rattle.ct_records.specs.View.{rehearsal_of}
pub use Rattle.ct_records.specs.declared.input.Input.{Input}
pub use Rattle.ct_records.specs.declared.program_fault.ProgramFault.{ProgramFault}
pub use Rattle.ct_records.specs.declared.read_fault.ReadFault.TheVariants.{NotJson, Shape, TooLong}
pub use Rattle.ct_records.specs.declared.scan.kind.Kind.TheVariants.{Postpone, Receive}
pub use Rattle.ct_text.proofs.Joins.{join_goes, join_starts, rest_of, rest_of-join}
pub use Rattle.ct_world.specs.World.{WorldView}
pub use Rattle.json.proofs.Printed.Decimals.{IsNumber-decimal}
pub use Rattle.json.proofs.Printed.Trees.{value-json_tokens}
pub use Rattle.json.proofs.Printed.Utf8.{IsUtf8-are_ascii, are_ascii}
pub use Rattle.json.specs.Lex.{Lexeme, colon, comma, fresh, token, tokens}
pub use Rattle.json.specs.Print.{escape, quoted}
pub use Rattle.json.specs.Token.{begin_array, begin_object, end_array, end_object, string}
pub use Rattle.json.specs.Word.{ends_word, is_operator, is_space}
pub use Rattle.serde_json.proofs.Numbers.{number_of-decimal}
pub use Rattle.serde_json.specs.Data.{Data, Items, Members, array, item, no_items, no_members, number, object, unsigned}
pub use Rattle.serde_json.specs.Read.{max_depth, of_items, of_json, read}
pub use Rattle.serde_json.specs.View.{items_of, items_view, members_view, view}
pub use Rattle.serde_json.specs.declared.value.Value.{Value}
