-- The names that most proofs cite, passed on from one place. Declares nothing.
pub use Rattle.std.proofs.Common.{Bool, Err, IfSome, List, None, Ok, Option, Result, Some, [], ap, append-nil, append_assoc, ap₂, arith}
pub use Rattle.std.proofs.Common.{drop, false, filter, if◌then◌else◌, inl, inr, is_some, leb-true, length, length-append, map, nat_le}
pub use Rattle.std.proofs.Common.{nat_lt, not, option_and_then, option_map, refl, replicate, slice_get, subst, suc, sym, take, true, zero}
pub use Rattle.std.proofs.Common.{ℕ, ◌&&◌, ◌*◌, ◌++◌, ◌+◌, ◌-◌, ◌<◌, ◌==◌, ◌||◌, ◌∙◌, ◌∷◌, ◌≡◌, ◌≢◌, ◌≤◌, ◌⊎◌}
pub use Rattle.std.proofs.lemmas.Bool.{and_parts, cases_Bool, cases_eq, eq-eqb}
pub use Rattle.std.proofs.lemmas.Bool.Decides.{eqb_tells, nat_tests}
pub use Rattle.std.proofs.lemmas.List.{length-map, length-take-le, take-append-le, take_all, take_more}
pub use Rattle.std.proofs.lemmas.List.Elements.{All-get_or, All-push, filter-append}
pub use Rattle.std.proofs.lemmas.Option.{get_or_from_slice_get, slice_get-get_or, slice_get_cases, slice_get_past}
pub use Rattle.std.specs.Global.{Vec}
pub use Rattle.std.specs.List.{AllZip, list_any}
pub use Rattle.std.specs.Option.{option_map_or}
pub use Rattle.ct_grammar.specs.Sides.{whole}
pub use Rattle.ct_grammar.specs.declared.carried.Carried.{Carried}
pub use Rattle.ct_grammar.specs.declared.carried.Carried.TheVariants.{Ack, Data, Dec, Est, Nack, Prop}
pub use Rattle.ct_merge.specs.Barred.{IsBarred, IsDone, IsThere}
pub use Rattle.ct_merge.specs.Barred.IsBarred.{down, never, refused, waits}
pub use Rattle.ct_merge.specs.Barred.IsDone.{nobody, stopped, unable, unknown}
pub use Rattle.ct_merge.specs.Deeds.{IsFrom, IsPosted, IsSame, Sends, deed_of, letter}
pub use Rattle.ct_merge.specs.Local.{IsLike, gets, outcome_of}
pub use Rattle.ct_merge.specs.Logs.{IsLog, IsMerge, IsTold, Moment, act_of, is_own, is_repeat, log_of, own}
pub use Rattle.ct_merge.specs.Merging.{Growing, IsBare, IsLater, IsReady, IsSerialOf, IsTakenFrom, IsTakenTo, IsThereFor, IsWholeTo}
pub use Rattle.ct_merge.specs.Merging.{LeavesAll, LeavesOthers, Taken, Takes, count_of, received, step_of}
pub use Rattle.ct_merge.specs.Names.{IsSentAs, full_name, named}
pub use Rattle.ct_merge.specs.Past.{HasDecision, HasMessage, HasPassed, IsPast, rank, stage}
pub use Rattle.ct_merge.specs.Runs.{IsBegun, IsNamed, IsRun}
pub use Rattle.ct_merge.specs.Stops.{Differs, IsAsked, IsCulprit, IsCulpritAt, IsFaultAt, IsHalt, IsLed, IsNext, IsOfAbsent, IsOther}
pub use Rattle.ct_merge.specs.Stops.{IsOutcome, IsRefusedBy, IsRepetition, IsStand, IsStuck, IsStuckIn, IsWait, IsWhy, Receives, Tells}
pub use Rattle.ct_merge.specs.Stops.{halted_at, line_fault_of}
pub use Rattle.ct_merge.specs.Unable.{IsOfGroup, SendsNoMore, SkipsRound}
pub use Rattle.ct_merge.specs.Unable.SendsNoMore.{elsewhere, past, proposed, skipped}
pub use Rattle.ct_merge.specs.Waits.{AllBegin, AllWait, HasNoMerge, IsUnsent, IsWaiting, NeverMerges, SomeWaits, WaitsAt, WaitsIn, is_ended}
pub use Rattle.ct_merge.specs.Waits.{is_full, is_limit, is_wait}
pub use Rattle.ct_merge.specs.declared.full_name.FullName.{FullName}
pub use Rattle.ct_merge.specs.declared.log_act.LogAct.{LogAct}
pub use Rattle.ct_merge.specs.declared.log_act.LogAct.TheVariants.{Begin, Crash, Deliver, Follow, Receive, Submit}
pub use Rattle.ct_merge.specs.declared.log_line.LogLine.{LogLine}
pub use Rattle.ct_merge.specs.declared.own_fault.OwnFault.{OwnFault}
pub use Rattle.ct_merge.specs.declared.own_fault.OwnFault.TheVariants.{CameTo, Line}
pub use Rattle.ct_merge.specs.declared.verdict.Culprit.{Culprit}
pub use Rattle.ct_merge.specs.declared.verdict.Why.{Why}
pub use Rattle.ct_merge.specs.declared.verdict.Why.TheVariants.{Circle, Ended, Fault, Never}
pub use Rattle.ct_model.proofs.Basics.Groups.{member_is}
pub use Rattle.ct_model.proofs.Basics.Options.{made-map, made-then, some-none, some-same, when-is}
pub use Rattle.ct_model.proofs.Basics.Tests.{and_left, number_same, or_left, or_right, same_number, self_number}
pub use Rattle.ct_model.proofs.Consensus.Facts.{Holds}
pub use Rattle.ct_model.proofs.Consensus.Sent.{Carries, carries-mail, get-wire}
pub use Rattle.ct_model.proofs.Record.Allowed.{cause-allowed}
pub use Rattle.ct_model.proofs.Record.Limits.{cause-passed, own_tests-is}
pub use Rattle.ct_model.proofs.Record.Members.{member-other, member-same, p_or_other}
pub use Rattle.ct_model.proofs.Record.Senders.{at-front, get-front}
pub use Rattle.ct_model.proofs.Record.Start.{knows-first, member-first, sent-first, state-first, submissions-first}
pub use Rattle.ct_model.proofs.Relay.Messages.{IsStep, knows-next, next-is, received-by}
pub use Rattle.ct_model.proofs.Relay.Relaying.{history-run}
pub use Rattle.ct_model.proofs.Steps.Rows.{adopt-is, choose-is, conclude-is, deliver_row-is, enter-is, follow_row-is, suspect-is}
pub use Rattle.ct_model.proofs.Steps.Shapes.{by_shape}
pub use Rattle.ct_model.specs.Actor.{actor}
pub use Rattle.ct_model.specs.AtValue.{Envelope, Mail, Standing, Turn, Wire}
pub use Rattle.ct_model.specs.Cause.{at, at as test, cause, first_fault, limit, limits, or_else, order, presence, tests}
pub use Rattle.ct_model.specs.Knowledge.{KnowsMessages}
pub use Rattle.ct_model.specs.Lawful.{IsAway, IsLawful, IsPresent, NamesWaiting, is_waiting}
pub use Rattle.ct_model.specs.Mapped.{without_value}
pub use Rattle.ct_model.specs.Next.{Outcome, addressed, after, next, own_ballots, plain, receive, row, turn_at, turned, wire_to}
pub use Rattle.ct_model.specs.Phases.{is_gather, is_rest, is_tally}
pub use Rattle.ct_model.specs.Received.{decided}
pub use Rattle.ct_model.specs.Rehearsal.{Rehearsal, empty, extended, line_of, state_of}
pub use Rattle.ct_model.specs.Senders.{senders}
pub use Rattle.ct_model.specs.Setting.{Setting}
pub use Rattle.ct_model.specs.Stamps.{is_sent}
pub use Rattle.ct_model.specs.State.{Member, State, at_serial, first_state, is_crashed, member, new_member, submissions}
pub use Rattle.ct_model.specs.Wire.{envelopes, value_of}
pub use Rattle.ct_model.specs.declared.mail.Mail.TheVariants.{All, Nobody, One}
pub use Rattle.ct_model.specs.declared.moves.Move.{Move}
pub use Rattle.ct_model.specs.declared.moves.Move.TheVariants.{Adopt, Choose, Conclude, Enter, Suspect}
pub use Rattle.ct_model.specs.declared.phase.Phase.{Phase}
pub use Rattle.ct_model.specs.declared.step.Step.{Step}
pub use Rattle.ct_model.specs.declared.step.Step.TheVariants.{Repeat}
pub use Rattle.ct_names.specs.Group.{IsMember, coordinator, counting, is_member}
pub use Rattle.ct_names.specs.Membership.{IsIn}
pub use Rattle.ct_names.specs.Value.{Value, has}
pub use Rattle.ct_names.specs.declared.refusal.Refusal.{Refusal}
pub use Rattle.ct_names.specs.declared.refusal.Refusal.TheVariants.{Crashed, Full, NoSuchMember, NotSent, NotWaiting}
pub use Rattle.ct_play.specs.Faults.{UnlessShort, is_short}
pub use Rattle.ct_play.specs.Picking.{carried_of}
pub use Rattle.ct_play.specs.Played.{Played, with_step}
pub use Rattle.ct_play.specs.Outcomes.{is_stated, outcome}
pub use Rattle.ct_play.specs.declared.line_fault.LineFault.{LineFault}
pub use Rattle.ct_play.specs.declared.line_fault.LineFault.TheVariants.{Refused}
