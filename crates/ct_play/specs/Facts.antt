-- What facts say of members, and what is there.
use Rattle.std.specs.Prelude.{ℕ, zero, suc, ◌+◌, ◌==◌, Bool, true, false, not, ◌&&◌, List, [], ◌∷◌, codes, decimal, length, Option, Some}
use Rattle.std.specs.Prelude.{None, is_none, is_some, option_map, unwrap_or, Result, Ok, Err, if◌then◌else◌}
use Rattle.std.specs.List.{concat, list_all, list_any, zip}
use Rattle.std.specs.Option.{option_map_or}
use Rattle.std.specs.Str.{bytes_eq}
use Rattle.ct_names.specs.Group.{is_member}
use Rattle.ct_names.specs.MemberSet.{bits_of}
use Rattle.ct_names.specs.Message.{Message}
use Rattle.ct_names.specs.Value.{Value}
use Rattle.ct_names.specs.declared.limit.TheConstants.{MAX_MEMBERS}
use Rattle.ct_names.specs.declared.refusal.Refusal.{Refusal}
use Rattle.ct_model.specs.Cause.{cause}
use Rattle.ct_model.specs.contracts.phase.PhasePartialEq.TheImpl.{ghosts as phases}
use Rattle.ct_model.specs.declared.phase.Phase.{Phase}
use Rattle.ct_model.specs.declared.step.Step.{Step}
use Rattle.ct_model.specs.declared.wire.Wire.{Wire}
use Rattle.ct_model.specs.Received.{decided, received_by}
use Rattle.ct_model.specs.Rehearsal.{Rehearsal, state_of}
use Rattle.ct_model.specs.State.{delivered, is_crashed}
use Rattle.ct_table.specs.Table.{table}
use Rattle.ct_world.specs.Decided.{last_decided}
use Rattle.ct_world.specs.Standing.{acked_by, all_heard_by, estimate_by}
use Rattle.ct_world.specs.World.{member_of, if_member}
use Rattle.ct_text.specs.Lists.{decisions_text, list_text, messages_text, table_text, first_in}
use Rattle.ct_text.specs.Standing.{estimate_of}
use Rattle.ct_text.specs.Shapes.{phase_text}
use Rattle.ct_grammar.specs.contracts.reason.ReasonPartialEq.TheImpl.{ghosts as reasons}
use Rattle.ct_grammar.specs.declared.claim.Name.{Name}
use Rattle.ct_grammar.specs.declared.reports.decision.Decision.{Decision}
use Rattle.ct_grammar.specs.declared.reports.estimate.Estimate.{Estimate}
use Rattle.ct_grammar.specs.declared.fact.Fact.{Fact}
use Rattle.ct_grammar.specs.declared.fact.Fact.TheVariants.{Up, Crashed, Idle, Instance, Round, Phase as InPhase}
use Rattle.ct_grammar.specs.declared.fact.Fact.TheVariants.{Received, Decided, Delivered, Table, Refuses}
use Rattle.ct_grammar.specs.declared.fact.Fact.TheVariants.{May, Waiting, Waits, Heard, Acked, Estimate as Estimated}
use Rattle.ct_grammar.specs.declared.reason.Reason.{Reason}
use Rattle.ct_grammar.specs.declared.reason.Reason.TheVariants.{NotThere, Across, Rules}
use Rattle.ct_grammar.specs.Reasons.{reason_text}
use Rattle.ct_print.specs.Facts.{fact_text}
use Rattle.ct_play.specs.Acting.{step_of}
use Rattle.ct_play.specs.Cuts.{barred}
use Rattle.ct_play.specs.Picking.{is_waiting, waiting_at}
use Rattle.ct_play.specs.Played.{Played}
use Rattle.ct_play.specs.declared.line_fault.LineFault.{LineFault}

-- ---- what is there, as the value of a fact of its kind is written

abbrev pub up_text : Bool → List ℕ
up_text crashed = if crashed then codes "crashed" else codes "up"

abbrev pub open_text : Bool → List ℕ
open_text is_open = if is_open then codes "open" else codes "idle"

-- the round that p is in and its phase
abbrev pub place_of : Rehearsal → ℕ → Option (ℕ × Phase)
place_of w p = if_member w p (option_map (λ c. (c.round, c.phase)) (member_of w p).current)

abbrev pub round_text : Option (ℕ × Phase) → List ℕ
round_text None = codes "idle"
round_text (Some place) = decimal place.0

abbrev pub place_text : Option (ℕ × Phase) → List ℕ
place_text None = codes "idle"
place_text (Some place) = phase_text place.1

-- why the rules refuse a step, or the cut forbids it
abbrev pub barred_reason : Option LineFault → Option Reason
barred_reason None = None
barred_reason (Some fault) = Some Across

abbrev pub reason_by : Option LineFault → Option Refusal → Option Reason
reason_by fault None = barred_reason fault
reason_by fault (Some refusal) = Some (Rules refusal)

unfoldable pub step_reason : Played → Step → Option Reason
step_reason s step = reason_by (barred s step) (cause s.rehearsal step)

-- why an act is refused, of one of several steps the first; None where it is allowed
abbrev pub act_reason : Played → Result Step LineFault → Option Reason
act_reason s (Err fault) = Some NotThere
act_reason s (Ok step) = step_reason s step

abbrev pub allowed_or : Option Reason → List ℕ
allowed_or None = codes "allowed"
allowed_or (Some reason) = reason_text reason

abbrev pub waits_text : Bool → List ℕ
waits_text waits = if waits then codes "waits" else codes "none"

-- the members whose estimates of its round p has, and those whose acks; none where no instance is open
abbrev pub heard_at : Rehearsal → ℕ → List ℕ
heard_at w p = unwrap_or (if_member w p (all_heard_by (member_of w p))) []

abbrev pub acked_at : Rehearsal → ℕ → List ℕ
acked_at w p = unwrap_or (if_member w p (acked_by (member_of w p))) []

-- the members of a set, with commas; a dash where there are none
abbrev pub set_text : List ℕ → List ℕ
set_text set = list_text 44 (first_in set MAX_MEMBERS)

-- the estimate of p; a dash where no instance is open
abbrev pub estimate_text : Rehearsal → ℕ → List ℕ
estimate_text w p = if is_some (place_of w p) then estimate_of w p else codes "-"

-- what is there at member p
abbrev pub there : Played → ℕ → Fact → List ℕ
there s p Up = up_text (is_crashed (state_of s.rehearsal) p)
there s p Crashed = up_text (is_crashed (state_of s.rehearsal) p)
there s p Idle = open_text (is_some (member_of s.rehearsal p).current)
there s p (Instance k) = decimal (member_of s.rehearsal p).last
there s p (Round r) = round_text (place_of s.rehearsal p)
there s p (InPhase f) = place_text (place_of s.rehearsal p)
there s p (Received names) = messages_text 32 (received_by (state_of s.rehearsal) p)
there s p (Decided decisions) = decisions_text (member_of s.rehearsal p).got
there s p (Delivered names) = messages_text 32 (delivered (member_of s.rehearsal p))
there s p (Table values) = table_text (table (delivered (member_of s.rehearsal p)))
there s p (Refuses act reason) = allowed_or (act_reason s (step_of s.rehearsal p act))
there s p (May act) = allowed_or (act_reason s (step_of s.rehearsal p act))
there s p (Waiting k) = decimal (length (waiting_at s.rehearsal p))
there s p (Waits pick) = waits_text (is_waiting s.rehearsal p pick)
there s p (Heard set) = set_text (heard_at s.rehearsal p)
there s p (Acked set) = set_text (acked_at s.rehearsal p)
there s p (Estimated estimate) = estimate_text s.rehearsal p

-- ---- what is expected

-- what is expected, in words
abbrev pub wanted : Fact → List ℕ
wanted (Refuses act reason) = concat (codes "refuses " ∷ reason_text reason ∷ [])
wanted (May act) = codes "allowed"
wanted (Waits pick) = codes "waits"
wanted fact = fact_text fact

-- the name of the message
abbrev pub the_name : Message → Name
the_name m = record { origin = m.origin; number = m.number }

-- the message has this name
abbrev pub is_named : Name → Message → Bool
is_named name m = (m.origin == name.origin) && (m.number == name.number)

-- the messages have these names, in this order
abbrev pub are_named : List Name → List Message → Bool
are_named names list = (length names == length list) && list_all (λ pair. is_named pair.0 pair.1) (zip names list)

-- the message has one of these names
abbrev pub is_among : List Name → Message → Bool
is_among names m = list_any (λ name. is_named name m) names

-- the messages, of which each is there once, have these names, in any order
abbrev pub are_those : List Name → List Message → Bool
are_those names list = (length names == length list) && list_all (is_among names) list

-- for how many of the instances up to one a decision was got
abbrev pub decisions_to : List (Wire Value) → ℕ → ℕ
decisions_to got zero = 0
decisions_to got (suc k) = decisions_to got k + (if is_some (decided got (suc k)) then 1 else 0)

-- for how many instances, begun or not
unfoldable pub decision_count : List (Wire Value) → ℕ
decision_count got = decisions_to got (unwrap_or (last_decided got) 0)

-- that was decided for the instance
abbrev pub is_decided : List (Wire Value) → Decision → Bool
is_decided got d = option_map_or (are_those d.names) (decided got d.instance) false

-- these decisions were got, which are of one instance each, and no other
abbrev pub are_decided : List (Wire Value) → List Decision → Bool
are_decided got decisions = list_all (is_decided got) decisions && (decision_count got == length decisions)

-- the estimate, with its ts
abbrev pub is_estimate : Option (Value × ℕ) → Option Estimate → Bool
is_estimate None None = true
is_estimate None (Some wanted) = false
is_estimate (Some e) None = false
is_estimate (Some e) (Some wanted) = are_those wanted.names e.0 && (e.1 == wanted.ts)

-- the reason is this one
abbrev pub is_reason : Option Reason → Reason → Bool
is_reason None reason = false
is_reason (Some other) reason = reasons.eq other reason

-- what is expected of p is so
abbrev pub is_as_said : Played → ℕ → Fact → Bool
is_as_said s p Up = not (is_crashed (state_of s.rehearsal) p)
is_as_said s p Crashed = is_crashed (state_of s.rehearsal) p
is_as_said s p Idle = is_none (member_of s.rehearsal p).current
is_as_said s p (Instance k) = (member_of s.rehearsal p).last == k
is_as_said s p (Round r) = option_map_or (λ place. place.0 == r) (place_of s.rehearsal p) false
is_as_said s p (InPhase f) = option_map_or (λ place. phases.eq place.1 f) (place_of s.rehearsal p) false
is_as_said s p (Received names) = are_named names (received_by (state_of s.rehearsal) p)
is_as_said s p (Decided decisions) = are_decided (member_of s.rehearsal p).got decisions
is_as_said s p (Delivered names) = are_named names (delivered (member_of s.rehearsal p))
is_as_said s p (Table values) = bytes_eq (table (delivered (member_of s.rehearsal p))) values
is_as_said s p (Refuses act reason) = is_reason (act_reason s (step_of s.rehearsal p act)) reason
is_as_said s p (May act) = is_none (act_reason s (step_of s.rehearsal p act))
is_as_said s p (Waiting k) = length (waiting_at s.rehearsal p) == k
is_as_said s p (Waits pick) = is_waiting s.rehearsal p pick
is_as_said s p (Heard set) = bits_of (heard_at s.rehearsal p) == bits_of set
is_as_said s p (Acked set) = bits_of (acked_at s.rehearsal p) == bits_of set
is_as_said s p (Estimated estimate) = is_estimate (if_member s.rehearsal p (estimate_by (member_of s.rehearsal p))) estimate

-- a fact holds of a member of the group of which it is so
unfoldable pub holds : Played → ℕ → Fact → Bool
holds s p fact = if is_member s.rehearsal.setting.members p then is_as_said s p fact else false
