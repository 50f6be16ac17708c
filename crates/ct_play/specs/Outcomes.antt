-- What steps come to.
use Rattle.std.specs.Prelude.{ℕ, Bool, false, ◌==◌, ◌&&◌, ◌+◌, List, [], ◌∷◌, codes, decimal, fold, length, Option, Some, None}
use Rattle.std.specs.Prelude.{option_and_then, option_map, unwrap_or, if◌then◌else◌}
use Rattle.std.specs.List.{concat, list_all, zip}
use Rattle.ct_names.specs.contracts.command.CommandPartialEq.TheImpl.{ghosts as commands}
use Rattle.ct_names.specs.Message.{Message}
use Rattle.ct_names.specs.Value.{Value}
use Rattle.ct_model.specs.Cause.{order}
use Rattle.ct_model.specs.Mapped.{without_value}
use Rattle.ct_model.specs.Rehearsal.{Rehearsal, state_of}
use Rattle.ct_model.specs.State.{at_serial}
use Rattle.ct_model.specs.Wire.{value_of}
use Rattle.ct_model.specs.declared.envelope.Envelope.{Envelope}
use Rattle.ct_model.specs.declared.step.Step.{Step}
use Rattle.ct_model.specs.declared.step.Step.TheVariants.{Receive, Begin, Enter, Choose, Adopt, Conclude, Deliver, Follow}
use Rattle.ct_model.specs.declared.wire.Wire.{Wire}
use Rattle.ct_model.specs.declared.wire.Wire.TheVariants as wire
use Rattle.ct_world.specs.Standing.{estimate_by, heard_by}
use Rattle.ct_world.specs.World.{member_of, if_member}
use Rattle.ct_text.specs.Standing.{instance_of}
use Rattle.ct_text.specs.Shapes.{set_text}
use Rattle.ct_grammar.specs.declared.claim.Name.{Name}
use Rattle.ct_grammar.specs.declared.reports.listed.Listed.{Listed}
use Rattle.ct_grammar.specs.declared.statement.Statement.{Statement}
use Rattle.ct_grammar.specs.declared.statement.Statement.TheVariants as says
use Rattle.ct_print.specs.Acts.{command_text}
use Rattle.ct_play.specs.Facts.{is_among, is_named}
use Rattle.ct_play.specs.declared.outcomes.Came.{Came}
use Rattle.ct_play.specs.declared.outcomes.Came.TheVariants as came

-- what a step came to, and the messages that go with it
abbrev pub Outcome : Type 0
Outcome = Came × List Message

abbrev pub nothing : Outcome
nothing = (came.Nothing, [])

-- ---- what a step does

-- what a wire with this value carries: a command, an estimate and its ts, or a value; an ack and a nack carry nothing
abbrev pub load_of : {V : Type 0} → Wire V → List Message → Outcome
load_of (wire.Data m) value = (came.Command m.command, [])
load_of (wire.Est i s p v ts) value = (came.Estimate ts, value)
load_of (wire.Prop i s v) value = (came.Value, value)
load_of (wire.Ack i s p) value = nothing
load_of (wire.Nack i s p) value = nothing
load_of (wire.Dec i s v) value = (came.Value, value)

-- the same of an envelope
abbrev pub carried_by : Option (Envelope (Unit {0})) → List Message → Outcome
carried_by None value = nothing
carried_by (Some e) value = load_of e.wire value

-- what the envelope of a serial carries
unfoldable pub carried_of : Rehearsal → ℕ → Outcome
carried_of w k =
    let e = at_serial (state_of w).sent k in
    carried_by (option_map without_value e) (unwrap_or (option_and_then (λ e. value_of e.wire) e) [])

-- an estimate and its ts, and its value alone
abbrev pub estimate_of : Option (Value × ℕ) → Outcome
estimate_of None = nothing
estimate_of (Some e) = (came.Estimate e.1, e.0)

abbrev pub alone_of : Option (Value × ℕ) → Outcome
alone_of None = nothing
alone_of (Some e) = (came.Value, e.0)

-- the batch of the last instance that p began
unfoldable pub batch_by : Rehearsal → ℕ → List Message
batch_by w p = unwrap_or (option_map (λ b. b.messages) (at_serial (order (state_of w)) (instance_of w p))) []

-- what a step came to, after which the record is this: what the envelope carries that it received; what it proposes, or sends, or
-- keeps; the estimate with which it concludes the round; the batch
abbrev pub outcome : Rehearsal → Step → Outcome
outcome w (Receive p k) = carried_of w k
outcome w (Begin p) = alone_of (if_member w p (estimate_by (member_of w p)))
outcome w (Enter p) = estimate_of (if_member w p (estimate_by (member_of w p)))
outcome w (Choose p from) = alone_of (if_member w p (heard_by (member_of w p) from))
outcome w (Adopt p) = estimate_of (if_member w p (estimate_by (member_of w p)))
outcome w (Conclude p) = alone_of (if_member w p (estimate_by (member_of w p)))
outcome w (Deliver p) = (came.Batch, batch_by w p)
outcome w (Follow p) = (came.Batch, batch_by w p)
outcome w _ = nothing

-- it in words
abbrev pub came_text : Outcome → List ℕ
came_text (came.Nothing, messages) = []
came_text (came.Command command, messages) = command_text command
came_text (came.Value, messages) = set_text messages
came_text (came.Estimate ts, messages) = concat (set_text messages ∷ codes " ts " ∷ decimal ts ∷ [])
came_text (came.Batch, messages) = set_text messages

-- ---- what lines state of it

-- how many of the messages have one of these names
abbrev pub named_count : List Name → List Message → ℕ
named_count names messages = fold (λ n m. if is_among names m then n + 1 else n) 0 messages

-- as many as are named have one of the names, and there are so many more
abbrev pub are_listed : Listed → List Message → Bool
are_listed l messages = (named_count l.names messages == length l.names) && (length l.names + l.more == length messages)

-- the first messages have these names, in this order, and there are so many more
abbrev pub are_first : Listed → List Message → Bool
are_first l messages =
    list_all (λ pair. is_named pair.0 pair.1) (zip l.names messages) && (length l.names + l.more == length messages)

-- it came to what is stated: to that command; to that value, the ts alike where one is stated; to that batch, in this order
abbrev pub is_stated : Outcome → Statement → Bool
is_stated (came.Command command, messages) (says.Command other) = commands.eq command other
is_stated (came.Value, messages) (says.Value listed) = are_listed listed messages
is_stated (came.Estimate ts, messages) (says.Value listed) = are_listed listed messages
is_stated (came.Estimate ts, messages) (says.Estimate listed other) = are_listed listed messages && (ts == other)
is_stated (came.Batch, messages) (says.Value listed) = are_first listed messages
is_stated outcome said = false
